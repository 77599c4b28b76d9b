use Rattle.std.proofs.Common.{replicate}
use Rattle.ndarray.proofs.Common.{rules, ◌≡◌, ◌∙◌, ◌≤◌, ◌<◌, ◌+◌, ◌^◌, ◌-ℤ◌, ◌∷◌, [], FitsSigned, w64, ap, arith, get_or, refl, subst, All-head, All-tail, InBox, length-fits, window_counts}
use Rattle.ndarray.specs.Subviews.{ArePositive}
use Rattle.uses.specs.BoxSums.{CanSumBoxes, band}
use Rattle.uses.proofs.BoxSums.{band-fits, box-fits, boxes-are, four_cells, window-ends}
use Rattle.uses.proofs.box_sums.box_sums.Goals as goal

pub from_shape_fn-requires-clause-callable : goal.from_shape_fn-requires-clause-callable
from_shape_fn-requires-clause-callable g c = λ x inside.
    let table = c.args.table.now in
    let areas = c.in_ok-areas.areas in
    let whole = c.raw_dim-whole.ensures.whole in
    let two = c.raw_dim-whole.ensures.axes in
    let limit = c.raw_dim-whole.ensures.limit in
    let adds = c.running_totals.ensures.rectangles in
    let fits = c.if-not-sums_fit.ensures.selections.0 refl in
    let counts : c.raw_dim-positions.result.0 ≡ window_counts table.lengths (c.args.rows ∷ c.args.columns ∷ []) (1 ∷ 1 ∷ []) = c.raw_dim-positions.ensures.lengths ∙ (ap (λ w. w.lengths) c.windows.ensures ∙ ap (λ n. window_counts table.lengths (c.args.rows ∷ c.args.columns ∷ []) (replicate n 1)) two) in
    let ends = window-ends table two c.args.rows c.args.columns x.0 x.1 (subst (λ ns. InBox ns (x.0 ∷ x.1 ∷ [])) counts inside) in
    let most : x.0 + c.args.rows ≤ get_or table.lengths 0 0 = ends.0 in
    let wide : x.1 + c.args.columns ≤ get_or table.lengths 1 0 = ends.1 in
    let rows = length-fits table.lengths 0 (omega (arith, two)) limit in
    let columns = length-fits table.lengths 1 (omega (arith, two)) limit in
    let bottom : x.0 + c.args.rows < 2 ^ 64 = omega (arith, most, rows) in
    let right : x.1 + c.args.columns < 2 ^ 64 = omega (arith, wide, columns) in
    let up_to_right : FitsSigned w64 (band areas x.0 (x.0 + c.args.rows) (x.1 + c.args.columns)) = band-fits table areas whole two c.in_ok-areas.ensures adds x.0 (x.0 + c.args.rows) (omega arith) most fits (x.1 + c.args.columns) wide in
    let up_to_left : FitsSigned w64 (band areas x.0 (x.0 + c.args.rows) x.1) = band-fits table areas whole two c.in_ok-areas.ensures adds x.0 (x.0 + c.args.rows) (omega arith) most fits x.1 (omega (arith, wide)) in
    let both : FitsSigned w64 (band areas x.0 (x.0 + c.args.rows) (x.1 + c.args.columns) -ℤ band areas x.0 (x.0 + c.args.rows) x.1) = box-fits table areas whole two c.in_ok-areas.ensures adds x.0 (x.0 + c.args.rows) (omega arith) most fits x.1 (x.1 + c.args.columns) (omega arith) wide in
    search (rules, bottom, right, up_to_right, up_to_left, both)

pub returns-in_err-sums-clause-error : goal.returns-in_err-sums-clause-error
returns-in_err-sums-clause-error g c =
    let positive : ArePositive c.args.table.now.lengths (c.args.rows ∷ c.args.columns ∷ []) = search rules in
    let can : CanSumBoxes c.args.rows c.args.columns c.args.table.now = record {
      height = All-head (λ n. 1 ≤ n) c.args.rows (c.args.columns ∷ []) positive.positive;
      width = All-head (λ n. 1 ≤ n) c.args.columns [] (All-tail (λ n. 1 ≤ n) c.args.rows (c.args.columns ∷ []) positive.positive);
      fits = c.if-not-sums_fit.ensures.selections.0 refl;
    } in
    search (rules, can)

pub returns-clause-when : goal.returns-clause-when
returns-clause-when g c =
    let positive : ArePositive c.args.table.now.lengths (c.args.rows ∷ c.args.columns ∷ []) = search rules in (
      λ _. record {
        height = All-head (λ n. 1 ≤ n) c.args.rows (c.args.columns ∷ []) positive.positive;
        width = All-head (λ n. 1 ≤ n) c.args.columns [] (All-tail (λ n. 1 ≤ n) c.args.rows (c.args.columns ∷ []) positive.positive);
        fits = c.if-not-sums_fit.ensures.selections.0 refl;
      },
      λ _. refl,
    )

pub returns-clause-sums : goal.returns-clause-sums
returns-clause-sums g c =
    let table = c.args.table.now in
    let areas = c.in_ok-areas.areas in
    let two = c.raw_dim-whole.ensures.axes in
    let counts : c.raw_dim-positions.result.0 ≡ window_counts table.lengths (c.args.rows ∷ c.args.columns ∷ []) (1 ∷ 1 ∷ []) = c.raw_dim-positions.ensures.lengths ∙ (ap (λ w. w.lengths) c.windows.ensures ∙ ap (λ n. window_counts table.lengths (c.args.rows ∷ c.args.columns ∷ []) (replicate n 1)) two) in
    boxes-are table areas c.raw_dim-whole.ensures.whole two c.in_ok-areas.ensures c.running_totals.ensures.rectangles c.args.rows c.args.columns c.raw_dim-positions.result.0 c.in_ok-sums.sums counts
    (c.in_ok-sums.ensures.values (four_cells c.args.rows c.args.columns areas) (λ x r call. search (rules, call)))
