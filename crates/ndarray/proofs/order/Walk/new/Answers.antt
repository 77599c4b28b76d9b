use Rattle.std.proofs.Common.{ap, sym, ◌∙◌, length, ◌≡◌, replicate, subst, List, ℕ}
use Rattle.ndarray.specs.Orders.{IsBoxIn}
use Rattle.ndarray.specs.order.Walks.{WalksFrom, walk_rest}
use Rattle.ndarray.proofs.boxes.Walks.{walk-new, walks-from_new}
use Rattle.ndarray.proofs.boxes.Orders.{box_in-is}
use Rattle.ndarray.proofs.lists.Permutations.{IsBoxIn-rearranges}
use Rattle.ndarray.proofs.boxes.UniqueOrder.{box_in-unique}
use Rattle.ndarray.proofs.order.Walk.new.Goals as goal

pub invariant_of-result : goal.invariant_of-result
invariant_of-result g c =
    let ns = g.D.Lengths.numbers c.args.dim in
    let z : g.D.Lengths.numbers c.zeros-index.result ≡ replicate (length ns) 0 = c.zeros-index.ensures ∙ ap (λ x. replicate x 0) c.ndim.ensures.value in
    let P : List ℕ → Type 0 = λ x. WalksFrom c.args.order ns x c.size-left.result in
    let Q : ℕ → Type 0 = λ x. WalksFrom c.args.order ns (replicate (length ns) 0) x in
    subst P (sym z) (subst Q (sym c.size-left.ensures) (walks-from_new c.args.order ns c.requires))

pub returns-clause-list : goal.returns-clause-list
returns-clause-list g c =
    let ns = g.D.Lengths.numbers c.args.dim in
    let z : g.D.Lengths.numbers c.zeros-index.result ≡ replicate (length ns) 0 = c.zeros-index.ensures ∙ ap (λ x. replicate x 0) c.ndim.ensures.value in
    ap (λ x. walk_rest c.args.order ns x c.size-left.result) z
    ∙ (ap (λ x. walk_rest c.args.order ns (replicate (length ns) 0) x) c.size-left.ensures ∙ walk-new c.args.order ns)

pub returns-clause-described : goal.returns-clause-described
returns-clause-described g c = subst (IsBoxIn c.args.order (g.D.Lengths.numbers c.args.dim)) (sym (returns-clause-list g c)) (box_in-is c.args.order (g.D.Lengths.numbers c.args.dim))

pub returns-clause-alone : goal.returns-clause-alone
returns-clause-alone g c xs p = box_in-unique c.args.order (g.D.Lengths.numbers c.args.dim) xs _ p (returns-clause-described g c)

pub returns-clause-rearranges : goal.returns-clause-rearranges
returns-clause-rearranges g c xs p = IsBoxIn-rearranges c.args.order (g.D.Lengths.numbers c.args.dim) xs _ p (returns-clause-described g c)
