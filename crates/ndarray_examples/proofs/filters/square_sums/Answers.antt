use Rattle.ndarray.proofs.Common.{rules, ◌≡◌, ◌∷◌, [], FitsSigned, IsSummable, List, ap, int_sums, refl, sym, total, w64, window, windows_of, views-compute-where, window-summable, ℕ}
use Rattle.ndarray_examples.proofs.filters.square_sums.Goals as goal

pub returns-clause-sums : goal.returns-clause-sums
returns-clause-sums g c =
    let table = c.args.table.now in
    let sides : List ℕ = 2 ∷ 2 ∷ [] in
    let steps : List ℕ = 1 ∷ 1 ∷ [] in
    let two = sym c.raw_dim-lengths.ensures.axes in
    let squares : c.from.result.nested ≡ windows_of table sides steps = search rules in
    c.in_ok-sums.ensures.follows _ _ (ap (λ w. w.lengths) squares)
    (views-compute-where _ (window table sides steps) squares (λ square. IsSummable int_sums (FitsSigned w64) square.cells)
    (λ is. window-summable int_sums (FitsSigned w64) (λ z. z) table c.raw_dim-lengths.ensures.whole (c.if-not-sums_fit.ensures.selections.0 refl) sides steps is two two)
    (λ square. total int_sums square.cells) (λ x r k fits call. (search rules, search (rules, call, fits))))
