use Rattle.ndarray.proofs.Common.{rules, ◌≡◌, ◌∙◌, ◌∷◌, [], ◌==◌, if◌then◌else◌, Some, ap, refl, sym, subst, cell}
use Rattle.ndarray_examples.specs.Callers.{off_diagonal}
use Rattle.ndarray_examples.proofs.clear_diagonal.Goals as goal

pub returns-clause-cells : goal.returns-clause-cells
returns-clause-cells g c =
    let a = c.args.a.now in
    c.map_collect.ensures.follows a.lengths (off_diagonal a) (c.indexed.ensures.lengths ∙ ap (λ v. v.lengths) c.indexed.ensures.part)
    (λ i x r k inside shown call.
    let place : x.0.0 ∷ x.0.1 ∷ [] ≡ i = c.indexed.ensures.patterns i x.0 shown.0 in
    let there : cell a (x.0.0 ∷ x.0.1 ∷ []) ≡ Some x.1.now = subst (λ j. cell a j ≡ Some x.1.now) (sym place) (rw c.indexed.ensures.part at shown.1) in
    let answer : r ≡ (if x.0.0 == x.0.1 then 0 else x.1.now) = search (rules, call) in
    (search (rules, call), answer ∙ rw (sym place, there) refl))
