use Rattle.ndarray.proofs.Common.{rules, ◌≡◌, ◌∷◌, [], ap, window, windows_of, views-compute}
use Rattle.std.specs.Prelude.{count_by, int_lt}
use Rattle.ndarray_examples.proofs.filters.counts_above.Goals as goal

pub returns : goal.returns
returns g c =
    let table = c.args.table.now in
    let squares : c.from.result.nested ≡ windows_of table (2 ∷ 2 ∷ []) (1 ∷ 1 ∷ []) = search rules in
    c.map_collect.ensures.follows _ _ (ap (λ w. w.lengths) squares)
    (views-compute _ (window table (2 ∷ 2 ∷ []) (1 ∷ 1 ∷ [])) squares (λ square. count_by (λ x. int_lt c.args.bound x) square.cells) (λ x r k call. (search (rules, call), search (rules, call))))
