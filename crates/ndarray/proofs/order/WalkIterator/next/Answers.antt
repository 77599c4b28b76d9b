use Rattle.std.proofs.Common.{rules, arith, ◌≡◌, ◌+◌, ◌-◌, ◌∷◌, ap, sym, ◌∙◌, length}
use Rattle.ndarray.proofs.boxes.Walks.{walk_rest-next}
use Rattle.ndarray.proofs.order.WalkIterator.next.Goals as goal
use Rattle.ndarray.proofs.order.WalkIterator.next.Goals.{then-self-gt0, else-self-gt0}

pub returns-clause-steps : goal.returns-clause-steps
returns-clause-steps g c =
    let axes = g.D.Lengths.numbers in
    let old = c.self.inside in
    let head = ap (λ x. x ∷ c.if-self-gt0.self) (sym c.copied-index.ensures.value) in
    let nonzero : (old.left - 1) + 1 ≡ old.left = omega (arith, c.if-self-eq0.false) in
    elim c.if-self-gt0.branch [
      | then-self-gt0 w ↦ sym c.self.view_is ∙ (walk_rest-next old.order (axes old.dim) (axes old.index) (axes w.advance.new.index) old.left (old.left - 1) c.self.invariant nonzero (λ _. w.advance.ensures.next)
          ∙ (ap (λ x. axes old.index ∷ x) (sym w.self-is) ∙ head))
      | else-self-gt0 w ↦ sym c.self.view_is ∙ (walk_rest-next old.order (axes old.dim) (axes old.index) (axes old.index) old.left (old.left - 1) c.self.invariant nonzero (λ p. absurd (omega (arith, w.if-self-gt0.false)))
          ∙ (ap (λ x. axes old.index ∷ x) (sym w.self-is) ∙ head))
    ]

pub returns-clause-goes : goal.returns-clause-goes
returns-clause-goes g c = let e = ap length (returns-clause-steps g c) in search rules
