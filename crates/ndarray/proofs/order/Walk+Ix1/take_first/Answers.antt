use Rattle.std.proofs.Common.{◌≡◌, ◌+◌, ◌-◌, ◌∷◌, [], ap, ◌∙◌, arith, rules, length, drop, inl, inr}
use Rattle.std.proofs.lemmas.Bool.{cases_lt}
use Rattle.ndarray.specs.order.Walks.{WalksFrom, walk_rest}
use Rattle.ndarray.proofs.boxes.Walks.{walk-later, length-walk_rest, one-fits}
use Rattle.ndarray.proofs.order.Walk+Ix1.take_first.Goals as goal

pub overflow_add-self : goal.overflow_add-self
overflow_add-self c =
    let w = c.self.inside in
    let one : length w.index.0 ≡ 1 = search rules in
    let l = length-walk_rest w.order w.dim.0 w.index.0 w.left c.self.invariant in
    let v = ap length c.self.view_is in
    elim (cases_lt 0 w.left) [
      | inl some ↦ (let f = one-fits w.order w.dim.0 w.index.0 w.left one some c.self.invariant in omega arith)
      | inr none ↦ omega arith
    ]

later : (c : goal.After-self-2-1) → WalksFrom c.self.inside.order c.self.inside.dim.0 ((c.axis.result + c.args.count) ∷ []) (c.self.inside.left - c.args.count) × (walk_rest c.self.inside.order c.self.inside.dim.0 ((c.axis.result + c.args.count) ∷ []) (c.self.inside.left - c.args.count) ≡ drop c.args.count (walk_rest c.self.inside.order c.self.inside.dim.0 c.self.inside.index.0 c.self.inside.left))
later c =
    let w = c.self.inside in
    let one : length w.index.0 ≡ 1 = search rules in
    let one_length : length w.dim.0 ≡ 1 = search rules in
    let l = length-walk_rest w.order w.dim.0 w.index.0 w.left c.self.invariant in
    let v = ap length c.self.view_is in
    walk-later w.order w.dim.0 w.index.0 c.args.count w.left (w.left - c.args.count) (c.axis.result + c.args.count) one one_length c.self.invariant (omega arith) (λ p. omega arith)

pub invariant_of-self : goal.invariant_of-self
invariant_of-self c = (later c).0

pub returns-clause-rest : goal.returns-clause-rest
returns-clause-rest c = (later c).1 ∙ ap (drop c.args.count) c.self.view_is
