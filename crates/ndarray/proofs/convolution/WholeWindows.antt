-- Whole arrays have their cells in row order, and so have their windows.
use Rattle.std.proofs.Common.{◌≡◌, ℕ, List, length, map, reverse, Some, sym, ap, ◌∙◌}
use Rattle.std.proofs.lemmas.List.{length-replicate, length-reverse}
use Rattle.ndarray.specs.Algebra.{CommutativeMonoid}
use Rattle.ndarray.specs.Convolution.{single_steps, valid_convolution_by, valid_products}
use Rattle.ndarray.specs.Grid.{Grid, IsGrid, cell, cells_by}
use Rattle.ndarray.specs.Index.{InBox, row_order}
use Rattle.ndarray.specs.Products.{products_of}
use Rattle.ndarray.specs.Subviews.{window, window_counts, window_index, windows_of}
use Rattle.ndarray.specs.Sums.{total}
use Rattle.ndarray.proofs.cells.Cells.{all-cells, along-row_order, cell-Some}
use Rattle.ndarray.proofs.lists.Elements.{length-filter_map_all, map-from_filter_map}
use Rattle.ndarray.proofs.boxes.Orders.{length-row_order, row_order-is}
use Rattle.ndarray.proofs.pieces.Windows.{window-inside}
use Rattle.ndarray.proofs.convolution.Mirrors.{HasCellsInRows, valid_products-reversed}
use Rattle.ndarray.proofs.convolution.OverWindows.{valid-over_windows}

pub in_rows : {A : Type 0} (g : Grid A) → IsGrid g → HasCellsInRows g
in_rows g whole =
    map-from_filter_map (cell g) (row_order g.lengths) (all-cells g whole (row_order g.lengths) (row_order-is g.lengths).within)
    ∙ ap (map Some) (along-row_order g whole)

module _ {A : Type 0} (g : Grid A) (whole : IsGrid g) where
  -- a window at a position, of any lengths and at any steps, is whole
  pub window-whole : (ws ss ps : List ℕ) → length ws ≡ length g.lengths → length ss ≡ length g.lengths → InBox (window_counts g.lengths ws ss) ps → IsGrid (window g ws ss ps)
  unfolding cells_by
  window-whole ws ss ps same steps b =
      length-filter_map_all (λ js. cell g (window_index ss ps js)) (row_order ws)
      (λ k d lt. cell-Some g whole _ (window-inside g.lengths ws ss ps _ same steps b ((row_order-is ws).within k d lt)))
      ∙ length-row_order ws

  module _ {C : Type 0} (plus times : CommutativeMonoid C) (value : A → C) (kernel : Grid A) (whole_kernel : IsGrid kernel) (axes : length kernel.lengths ≡ length g.lengths) where
    -- the windows of the kernel's lengths are whole
    own-window : (ps : List ℕ) → InBox (window_counts g.lengths kernel.lengths (single_steps g.lengths)) ps → IsGrid (window g kernel.lengths (single_steps g.lengths) ps)
    own-window ps b = window-whole kernel.lengths (single_steps g.lengths) ps axes (length-replicate (length g.lengths) 1) b

    -- the products of the valid convolution at a position are those of the window's cells with the kernel's cells backwards
    pub products-backwards : (ps : List ℕ) → InBox (window_counts g.lengths kernel.lengths (single_steps g.lengths)) ps
        → valid_products times value g kernel ps ≡ products_of times value (window g kernel.lengths (single_steps g.lengths) ps).cells (reverse kernel.cells)
    products-backwards ps b =
        valid_products-reversed times value g kernel ps (in_rows (window g kernel.lengths (single_steps g.lengths) ps) (own-window ps b)) (in_rows kernel whole_kernel)

    -- the window has as many cells as the kernel
    pub length-window : (ps : List ℕ) → InBox (window_counts g.lengths kernel.lengths (single_steps g.lengths)) ps → length (window g kernel.lengths (single_steps g.lengths) ps).cells ≡ length (reverse kernel.cells)
    length-window ps b = own-window ps b ∙ (sym whole_kernel ∙ sym (length-reverse kernel.cells))

    -- so the valid convolution goes over the windows, each times the kernel backwards
    pub valid-backwards : (valid_convolution_by plus times value g kernel).cells ≡ map (λ w. total plus (products_of times value w.cells (reverse kernel.cells))) (windows_of g kernel.lengths (single_steps g.lengths)).cells
    valid-backwards = valid-over_windows plus times value g kernel (λ ps b. in_rows (window g kernel.lengths (single_steps g.lengths) ps) (own-window ps b)) (in_rows kernel whole_kernel)
