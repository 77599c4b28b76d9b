use Rattle.std.proofs.Common.{◌≡◌, ◌∙◌, ◌-◌, ◌⊎◌, ℕ, List, All, ap, inl, inr, map, subst, sym}
use Rattle.std.specs.Prelude.{pos, slice_index}
use Rattle.std.proofs.lemmas.List.Elements.{All-nil}
use Rattle.ndarray.specs.DotRanges.{HasInnerMagnitudeInRange, HasInnerSumInRange}
use Rattle.ndarray.specs.Index.{size}
use Rattle.ndarray.specs.Integers.{int_sums}
use Rattle.ndarray.specs.Products.{lane_products, magnitude_sum}
use Rattle.ndarray.specs.reduce.SmallProducts.{HaveSmallProducts}
use Rattle.ndarray.specs.Sums.{IsSummable}
use Rattle.ndarray.specs.WholeValues.{whole_numbers}
use Rattle.ndarray.proofs.cells.LanePairs.{EachColumn, rows_of}
use Rattle.ndarray.proofs.cells.LaneTests.{magnitudes-exact, magnitudes-none, sums-all, sums-none}
use Rattle.ndarray.proofs.cells.SmallProducts.{small-lanes}
use Rattle.ndarray.proofs.lists.TestedElements.{one-failed, one-held, one-held_from}
use Rattle.ndarray.proofs.lists.Decisions.{says_no, says_yes}
use Rattle.ndarray.proofs.linalg.dynamic_range_tests.lanes_fit.Given.{Over}
use Rattle.ndarray.proofs.linalg.dynamic_range_tests.lanes_fit.Goals.{Then-have_small_products, then-len-eq0-via-then-len-eq0, then-len-eq0-via-else-len-eq0+then-len-eq0-2}
use Rattle.ndarray.proofs.linalg.dynamic_range_tests.lanes_fit.Goals as goal

-- one of the two arrays has no cells
none-there : (g : Over) (c : goal.Joined-then-len-eq0 g) → (size c.args.x.now.lengths ≡ 0) ⊎ (size c.args.y.now.lengths ≡ 0)
none-there g c = elim c.then-len-eq0.branch [
  | then-len-eq0-via-then-len-eq0 w ↦ inl (sym c.len.ensures.size ∙ w.if-len-eq0.true)
  | then-len-eq0-via-else-len-eq0+then-len-eq0-2 w ↦ inr (sym w.len-else-len-eq0.ensures.size ∙ w.if-len-eq0-2.true)
]

pub returns-then-len-eq0-clause-magnitudes : goal.returns-then-len-eq0-clause-magnitudes
returns-then-len-eq0-clause-magnitudes g c =
    says_yes _ (magnitudes-none c.args.x.now c.args.y.now c.requires g.A.Number.value g.A.Number.fits (g.met.A.Zero.zero_fits_law g.met.A.Integral.exact_law) (none-there g c))

pub returns-then-len-eq0-clause-sums : goal.returns-then-len-eq0-clause-sums
returns-then-len-eq0-clause-sums g c _ =
    sums-none c.args.x.now c.args.y.now c.requires g.A.Number.value g.A.Number.fits (g.met.A.Zero.zero_fits_law g.met.A.Integral.exact_law) (none-there g c)

-- where the cells are small
small-each : (g : Over) (c : Then-have_small_products g) (is : List ℕ) → g.A.Number.fits (pos (magnitude_sum (lane_products (whole_numbers g.A.Number.value g.A.Number.fits) c.args.x.now c.args.y.now is)))
    × IsSummable int_sums g.A.Number.fits (lane_products (whole_numbers g.A.Number.value g.A.Number.fits) c.args.x.now c.args.y.now is)
small-each g c =
    let v = g.A.Number.value in
    let fits = g.A.Number.fits in
    let exact = g.met.A.Integral.exact_law in
    let x = c.args.x.now in
    let y = c.args.y.now in
    let small = subst (λ n. HaveSmallProducts fits n (map v x.cells) (map v y.cells)) (c.len_of.ensures.value ∙ ap (λ n. slice_index x.lengths (n - 1)) c.ndim.ensures.value) (c.have_small_products.ensures c.if-have_small_products.true) in
    small-lanes v fits (λ l m n. g.A.Number.between_law l m n exact) (g.met.A.Zero.zero_fits_law exact) g.met.A.IntegerElem.negated_fits x y c.raw_dim-left.ensures.whole c.raw_dim-right.ensures.whole c.requires small

pub returns-then-have_small_products-clause-magnitudes : goal.returns-then-have_small_products-clause-magnitudes
returns-then-have_small_products-clause-magnitudes g c = says_yes _ (λ is _. (small-each g c is).0)

pub returns-then-have_small_products-clause-sums : goal.returns-then-have_small_products-clause-sums
returns-then-have_small_products-clause-sums g c = λ _ is _. (small-each g c is).1

pub loop-row-init : goal.loop-row-init
loop-row-init g c =
    let all = c.into_iter-row-iterator.ensures.into_iter_gives.0 ∙ ap (λ g. g.cells) c.rows-row-items.ensures in
    record {
      magnitudes = (subst (All (EachColumn (HasInnerMagnitudeInRange g.A.Number.value g.A.Number.fits) c.args.y.now)) all, subst (All (EachColumn (HasInnerMagnitudeInRange g.A.Number.value g.A.Number.fits) c.args.y.now)) (sym all));
      sums = subst (All (EachColumn (HasInnerSumInRange g.A.Number.value g.A.Number.fits) c.args.y.now)) all;
    }

pub returns-then-not-row_fits-clause-magnitudes : goal.returns-then-not-row_fits-clause-magnitudes
returns-then-not-row_fits-clause-magnitudes g c =
    let P = HasInnerMagnitudeInRange g.A.Number.value g.A.Number.fits in
    let x = c.args.x.now in
    let y = c.args.y.now in
    let columns = ap (λ g. g.cells) (c.again.ensures ∙ c.inner_lanes-columns.ensures) in
    let off = c.if-not-row_fits.true in
    says_no _ (λ each.
    one-failed (EachColumn P y) (rows_of x).cells c.loop-row.row-iterator c.next.new.self c.in-Some.row c.in-Some.ensures.steps
    (λ p. let on = c.row_fits.ensures.magnitudes.1 (subst (All (P c.in-Some.row)) (sym columns) p) in absurd (cc))
    c.loop-row.invariant.magnitudes ((magnitudes-exact x y c.requires g.A.Number.value g.A.Number.fits).1 each))

pub loop-row-preserved : goal.loop-row-preserved
loop-row-preserved g c =
    let P = HasInnerMagnitudeInRange g.A.Number.value g.A.Number.fits in
    let Q = HasInnerSumInRange g.A.Number.value g.A.Number.fits in
    let x = c.args.x.now in
    let y = c.args.y.now in
    let columns = ap (λ g. g.cells) (c.again.ensures ∙ c.inner_lanes-columns.ensures) in
    let on = c.if-not-row_fits.false in
    record {
      magnitudes = one-held (EachColumn P y) (rows_of x).cells c.loop-row.row-iterator c.next.new.self c.in-Some.row c.in-Some.ensures.steps (subst (All (P c.in-Some.row)) columns (c.row_fits.ensures.magnitudes.0 on)) c.loop-row.invariant.magnitudes;
      sums = one-held_from (EachColumn Q y) (rows_of x).cells c.loop-row.row-iterator c.next.new.self c.in-Some.row c.in-Some.ensures.steps (subst (All (Q c.in-Some.row)) columns (c.row_fits.ensures.sums on)) c.loop-row.invariant.sums;
    }

pub returns-clause-magnitudes : goal.returns-clause-magnitudes
returns-clause-magnitudes g c =
    let P = HasInnerMagnitudeInRange g.A.Number.value g.A.Number.fits in
    let none = subst (All (EachColumn P c.args.y.now)) (sym c.in-None.ensures.steps.0) (All-nil (EachColumn P c.args.y.now)) in
    says_yes _ ((magnitudes-exact c.args.x.now c.args.y.now c.requires g.A.Number.value g.A.Number.fits).0 (c.loop-row.invariant.magnitudes.0 none))

pub returns-clause-sums : goal.returns-clause-sums
returns-clause-sums g c _ =
    let Q = HasInnerSumInRange g.A.Number.value g.A.Number.fits in
    let none = subst (All (EachColumn Q c.args.y.now)) (sym c.in-None.ensures.steps.0) (All-nil (EachColumn Q c.args.y.now)) in
    sums-all c.args.x.now c.args.y.now c.requires g.A.Number.value g.A.Number.fits (c.loop-row.invariant.sums none)
