use Rattle.ndarray.proofs.Common.{rules, ◌≡◌, ◌∙◌, ℕ, List, ap, max, fold, array_by, collect-follows, if_ok-both}
use Rattle.ndarray_examples.proofs.greatest_of_each.Goals as goal

pub returns-clause-greatest : goal.returns-clause-greatest
returns-clause-greatest g c =
    if_ok-both c.map_collect.result _ _ _
    (λ d ran whole view_at told.
    let greatest_at : List ℕ → ℕ = λ is. fold max 0 (view_at is).cells in
    collect-follows _ _ _ greatest_at _
    (λ i view r k inside shown call.
    let answer : r ≡ fold max 0 view.cells = search (rules, call) in
    (search rules, answer ∙ ap (λ v. fold max 0 v.cells) (told i view (rw c.from.ensures at inside) (rw c.from.ensures at shown))))
    ran.0 d whole ran.1
    ∙ ap (λ n. array_by (g.N.Shaped.lengths n) greatest_at) c.from.ensures)
    c.map_collect.ensures.ran c.map_collect.ensures.whole
