use Rattle.ndarray.proofs.Common.{rules, ◌≡◌, ◌∙◌, ◌∷◌, [], ap, array_by, window, windows_of, array_by-at, if_ok-both}
use Rattle.ndarray_examples.specs.Callers.{greatest_in_square}
use Rattle.ndarray_examples.proofs.maximum_filter.Goals as goal

pub returns-clause-greatest : goal.returns-clause-greatest
returns-clause-greatest g c =
    let a = c.args.image.now in
    let sides = 3 ∷ 3 ∷ [] in
    let steps = 1 ∷ 1 ∷ [] in
    let windows : c.windows.result ≡ windows_of a sides steps = search rules in
    if_ok-both c.greatest_of_each.result _ _ _
    (λ d made same.
    made (window a sides steps) (λ i square inside shown. array_by-at _ (window a sides steps) c.windows.result i square windows inside shown)
    ∙ ap (λ v. array_by v.lengths (greatest_in_square a)) windows)
    c.greatest_of_each.ensures.greatest c.greatest_of_each.ensures.greatest
