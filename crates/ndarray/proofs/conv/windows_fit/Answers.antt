use Rattle.std.proofs.Common.{◌≡◌, ◌∙◌, Bool, List, ℕ, Some, true, false, ap, arith, map, subst, sym}
use Rattle.std.specs.Prelude.{IsTrue, pos, ◌↔◌}
use Rattle.ndarray.specs.Convolution.{TestsProducts, single_steps, valid_counts, window_products}
use Rattle.ndarray.specs.Grid.{Grid, array_by, cell}
use Rattle.ndarray.specs.Index.{InBox, size}
use Rattle.ndarray.specs.Integers.{int_products, int_sums}
use Rattle.ndarray.specs.Products.{magnitude_sum}
use Rattle.ndarray.specs.reduce.SmallProducts.{HaveSmallProducts}
use Rattle.ndarray.specs.Subviews.{window, windows_of}
use Rattle.ndarray.specs.Sums.{IsSummable}
use Rattle.ndarray.specs.declared.base.shape.Order.TheVariants.{RowMajor, ColumnMajor}
use Rattle.ndarray.proofs.boxes.Boxes.{InBox-some}
use Rattle.ndarray.proofs.callers.Testing.{all-decides, may-test}
use Rattle.ndarray.proofs.convolution.SmallProducts.{small-windows}
use Rattle.ndarray.proofs.convolution.WindowTests.{not_true, test-at, window-lengths}
use Rattle.ndarray.proofs.lists.Decisions.{from_yes, says_yes}
use Rattle.ndarray.proofs.conv.windows_fit.Goals as goal
use Rattle.ndarray.proofs.conv.windows_fit.Goals.{After-view, Then-have_small_products, Then-size-eq0}

module _ (g : _) (c : After-view g) where
  -- the windows of the array's lengths, at each index list the one there
  windows : c.windows-windows.result ≡ array_by (valid_counts c.args.a.now.lengths c.args.mirrored.now.lengths) (window c.args.a.now c.args.mirrored.now.lengths (single_steps c.args.a.now.lengths))
  windows = c.windows-windows.ensures ∙ ap (λ ns. windows_of c.args.a.now ns (single_steps c.args.a.now.lengths)) c.raw_dim.ensures.lengths

  -- each is tested with an array of its lengths
  can_test : (i : List ℕ) (x : Grid g.row.A.Denot) → InBox c.windows-windows.result.lengths i → cell c.windows-windows.result i ≡ Some x → x.lengths ≡ c.view.result.lengths
  can_test i x b s = window-lengths c.args.a.now c.args.mirrored.now c.view.result c.view.ensures.same c.windows-windows.result windows i x s

  -- what the test of one says
  tested : (r : Bool) (i : List ℕ) (x : Grid g.row.A.Denot) → cell c.windows-windows.result i ≡ Some x → TestsProducts g.A.Number.value g.A.Number.fits x.cells c.view.result.cells r
      → (IsTrue r ↔ g.A.Number.fits (pos (magnitude_sum (window_products int_products g.A.Number.value c.args.a.now c.args.mirrored.now i))))
      × (IsTrue r → IsSummable int_sums g.A.Number.fits (window_products int_products g.A.Number.value c.args.a.now c.args.mirrored.now i))
  tested r i x s test = test-at c.args.a.now c.args.mirrored.now c.view.result c.view.ensures.same c.windows-windows.result windows i x s g.A.Number.value g.A.Number.fits r test

-- where there are none
no-windows : (g : _) (c : Then-size-eq0 g) (ps : List ℕ) → InBox (valid_counts c.args.a.now.lengths c.args.mirrored.now.lengths) ps → ⊥
no-windows g c ps inside =
    let a = c.args.a.now in
    let counts = valid_counts a.lengths c.args.mirrored.now.lengths in
    let lengths : c.windows-windows.result.lengths ≡ counts = ap (λ w. w.lengths) (c.windows-windows.ensures ∙ ap (λ ns. windows_of a ns (single_steps a.lengths)) c.raw_dim.ensures.lengths) in
    let none : size counts ≡ 0 = ap size (sym (c.raw_dim-2.ensures.lengths ∙ lengths)) ∙ (sym c.size.ensures ∙ c.if-size-eq0.true) in
    let some = InBox-some counts ps inside in
    omega (arith, some, none)

pub returns-then-size-eq0-clause-magnitudes : goal.returns-then-size-eq0-clause-magnitudes
returns-then-size-eq0-clause-magnitudes g c = says_yes _ (λ ps inside. absurd (no-windows g (goal.at.returns-then-size-eq0-clause-magnitudes g c).Then-size-eq0 ps inside))

pub returns-then-size-eq0-clause-selections : goal.returns-then-size-eq0-clause-selections
returns-then-size-eq0-clause-selections g c = λ _ ps inside. absurd (no-windows g (goal.at.returns-then-size-eq0-clause-selections g c).Then-size-eq0 ps inside)

-- where the cells are small
small-each : (g : _) (c : Then-have_small_products g) (ps : List ℕ) → g.A.Number.fits (pos (magnitude_sum (window_products int_products g.A.Number.value c.args.a.now c.args.mirrored.now ps))) × IsSummable int_sums g.A.Number.fits (window_products int_products g.A.Number.value c.args.a.now c.args.mirrored.now ps)
small-each g c =
    let v = g.A.Number.value in
    let fits = g.A.Number.fits in
    let exact = g.met.A.Integral.exact_law in
    let a = c.args.a.now in
    let h = c.args.mirrored.now in
    let small = subst (λ n. HaveSmallProducts fits n (map v a.cells) (map v h.cells)) c.len.ensures.cells (c.have_small_products.ensures c.if-have_small_products.true) in
    small-windows v fits (λ y z t. g.A.Number.between_law y z t exact) (g.met.A.Zero.zero_fits_law exact) g.met.A.IntegerElem.negated_fits a h c.raw_dim-whole.ensures.whole small

pub returns-then-have_small_products-clause-magnitudes : goal.returns-then-have_small_products-clause-magnitudes
returns-then-have_small_products-clause-magnitudes g c = says_yes _ (λ ps _. (small-each g (goal.at.returns-then-have_small_products-clause-magnitudes g c).Then-have_small_products ps).0)

pub returns-then-have_small_products-clause-selections : goal.returns-then-have_small_products-clause-selections
returns-then-have_small_products-clause-selections g c = λ _ ps _. (small-each g (goal.at.returns-then-have_small_products-clause-selections g c).Then-have_small_products ps).1

pub all_in_either_order-requires-clause-by_rows : goal.all_in_either_order-requires-clause-by_rows
all_in_either_order-requires-clause-by_rows g c = may-test _ (λ t w r d. TestsProducts g.A.Number.value g.A.Number.fits w.cells t.0.cells r × (d ≡ t)) _ _ _ true (λ i x k s h. h.1) RowMajor (can_test g c)

pub all_in_either_order-requires-clause-by_columns : goal.all_in_either_order-requires-clause-by_columns
all_in_either_order-requires-clause-by_columns g c = may-test _ (λ t w r d. TestsProducts g.A.Number.value g.A.Number.fits w.cells t.0.cells r × (d ≡ t)) _ _ _ true (λ i x k s h. h.1) ColumnMajor (can_test g c)

pub returns-clause-magnitudes : goal.returns-clause-magnitudes
returns-clause-magnitudes g c =
    let fit = λ (i : List ℕ). g.A.Number.fits (pos (magnitude_sum (window_products int_products g.A.Number.value c.args.a.now c.args.mirrored.now i))) in
    let (o, ran) = c.all_in_either_order.ensures.ran in
    subst (λ ms. IsTrue c.all_in_either_order.result ↔ ((i : List ℕ) → InBox ms i → fit i)) (ap (λ w. w.lengths) (windows g (goal.at.returns-clause-magnitudes g c).After-view))
    (all-decides _ _ _ _ o _ fit
    (λ i k h. (h.2.1, from_yes _ (tested g (goal.at.returns-clause-magnitudes g c).After-view true i h.0 h.1 h.2.0).0)) c.all_in_either_order.result
    (λ i h. (h.2.0, not_true _ (tested g (goal.at.returns-clause-magnitudes g c).After-view false i h.0 h.1 h.2.1.1.0).0))
    (λ e. e) ran)

pub returns-clause-selections : goal.returns-clause-selections
returns-clause-selections g c =
    let products = window_products int_products g.A.Number.value c.args.a.now c.args.mirrored.now in
    let both = λ (i : List ℕ). g.A.Number.fits (pos (magnitude_sum (products i))) × IsSummable int_sums g.A.Number.fits (products i) in
    let (o, ran) = c.all_in_either_order.ensures.ran in
    let all : IsTrue c.all_in_either_order.result ↔ ((i : List ℕ) → InBox (valid_counts c.args.a.now.lengths c.args.mirrored.now.lengths) i → both i) =
    subst (λ ms. IsTrue c.all_in_either_order.result ↔ ((i : List ℕ) → InBox ms i → both i)) (ap (λ w. w.lengths) (windows g (goal.at.returns-clause-selections g c).After-view))
    (all-decides _ _ _ _ o _ both
    (λ i k h. let t = tested g (goal.at.returns-clause-selections g c).After-view true i h.0 h.1 h.2.0 in let yes = from_yes _ t.0 in (h.2.1, (yes, t.1 (t.0.1 yes)))) c.all_in_either_order.result
    (λ i h. (h.2.0, λ p. not_true _ (tested g (goal.at.returns-clause-selections g c).After-view false i h.0 h.1 h.2.1.1.0).0 p.0))
    (λ e. e) ran) in
    λ on ps inside. (all.0 on ps inside).1
