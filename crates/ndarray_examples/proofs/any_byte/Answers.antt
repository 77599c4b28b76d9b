use Rattle.ndarray.proofs.Common.{rules, ◌≡◌, ◌∙◌, ℕ, Bool, List, Some, ap, subst, nat_lt, cell, IsGrid, list_any-cells}
use Rattle.ndarray_examples.specs.Callers.{passes}
use Rattle.ndarray_examples.proofs.any_byte.Goals as goal

pub returns : goal.returns
returns g c =
    let a = c.args.a.now in
    let below : ℕ → Bool = λ x. nat_lt x 256 in
    let test : List ℕ → Bool = λ i. passes below (cell a i) in
    let first : c.from.result.nested ≡ a = c.from.ensures ∙ c.view.ensures.same in
    c.any.ensures.follows a.lengths test (ap (λ v. v.lengths) first) (λ i x r k inside shown call. search (rules, first, shown, call))
    ∙ list_any-cells a (subst IsGrid c.view.ensures.same c.view.ensures.whole) test below (λ i x there. ap (passes below) there)
