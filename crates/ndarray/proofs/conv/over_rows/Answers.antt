use Rattle.std.proofs.Common.{◌≡◌, ◌∙◌, List, ℕ, Some, ap, subst}
use Rattle.ndarray.specs.Convolution.{single_steps, valid_counts}
use Rattle.ndarray.specs.Grid.{Grid, array_by, cell}
use Rattle.ndarray.specs.Index.{InBox, size}
use Rattle.ndarray.specs.Products.{products_of}
use Rattle.ndarray.specs.Subviews.{window, windows_of}
use Rattle.ndarray.specs.Sums.{IsSummable, total}
use Rattle.ndarray.specs.declared.base.shape.Order.TheVariants.{RowMajor, ColumnMajor}
use Rattle.ndarray.proofs.callers.Collecting.{array_by-at, if_ok-both, may-gather}
use Rattle.ndarray.proofs.cells.Cells.{cell-inside}
use Rattle.ndarray.proofs.cells.CollectedCells.{Collects-at}
use Rattle.ndarray.proofs.convolution.WindowSums.{window_products-summable}
use Rattle.ndarray.proofs.conv.over_rows.Goals as goal
use Rattle.ndarray.proofs.conv.over_rows.Goals.{After-view}

module _ (g : _) (c : After-view g) where
  abbrev a : Grid g.row.A.Denot
  a = c.args.a.now

  abbrev m : Grid g.row.A.Denot
  m = c.args.mirrored.now

  -- the windows of the array's lengths, at each index list the one there
  windows : c.windows-windows.result ≡ array_by (valid_counts a.lengths m.lengths) (window a m.lengths (single_steps a.lengths))
  windows = c.windows-windows.ensures ∙ ap (λ ws. windows_of a ws (single_steps a.lengths)) c.raw_dim.ensures.lengths

  -- the sum at a window may be taken
  can_sum : (i : List ℕ) (x : Grid g.row.A.Denot) → InBox c.windows-windows.result.lengths i → cell c.windows-windows.result i ≡ Some x
      → (x.lengths ≡ c.view.result.lengths) × IsSummable g.A.Valued.addition g.A.Valued.InRange (products_of g.A.Valued.multiplication g.A.Valued.meaning x.cells c.view.result.cells)
  can_sum i x b s =
      let v = g.A.Valued in
      let inside : InBox (valid_counts a.lengths m.lengths) i = subst (λ w. InBox w.lengths i) windows b in
      window_products-summable v.addition v.multiplication v.InRange v.meaning a m c.view.result x i c.view.ensures.same (c.requires.can.sums i inside)
      (array_by-at _ (window a m.lengths (single_steps a.lengths)) c.windows-windows.result i x windows b s)

pub collect_in_either_order-requires-clause-by_rows : goal.collect_in_either_order-requires-clause-by_rows
collect_in_either_order-requires-clause-by_rows g c = may-gather _ _ _ _ (λ i x r k s h. h.1) _ RowMajor (can_sum g c)

pub collect_in_either_order-requires-clause-by_columns : goal.collect_in_either_order-requires-clause-by_columns
collect_in_either_order-requires-clause-by_columns g c = may-gather _ _ _ _ (λ i x r k s h. h.1) _ ColumnMajor (can_sum g c)

pub returns : goal.returns
returns g c =
    let v = g.A.Valued in
    let a = c.args.a.now in
    let m = c.args.mirrored.now in
    let at_window = window a m.lengths (single_steps a.lengths) in
    let is_windows : c.windows-windows.result ≡ array_by (valid_counts a.lengths m.lengths) at_window = c.windows-windows.ensures ∙ ap (λ ws. windows_of a ws (single_steps a.lengths)) c.raw_dim.ensures.lengths in
    record {
      made = if_ok-both c.collect_in_either_order.result _ _ _
          (λ r either whole.
          let (o, ran) = either in
          record {
            lengths = ran.lengths ∙ ap (λ w. w.lengths) is_windows;
            whole = whole;
            cells = λ is z e.
                let b = subst (λ ms. InBox ms is) ran.lengths (cell-inside r is z e) in
                let k = Collects-at _ _ (λ f. f.0 ≡ m) _ (λ i f x z h b y n k. ap (λ f. f.0) k.1 ∙ n) o _ r c.view.ensures.same ran is b z e in
                let at = array_by-at _ at_window c.windows-windows.result is k.item is_windows b k.yielded in
                k.given.0
                ∙ (ap (λ w. total v.addition (products_of v.multiplication v.meaning k.item.cells w.cells)) k.known
                ∙ ap (λ w. total v.addition (products_of v.multiplication v.meaning w.cells m.cells)) at);
          })
          c.collect_in_either_order.ensures.ran c.collect_in_either_order.ensures.whole;
      empty = λ none. c.collect_in_either_order.ensures.empty (ap (λ w. size w.lengths) is_windows ∙ none);
    }
