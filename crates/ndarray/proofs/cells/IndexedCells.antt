-- The cells of an array, each with its index list.
use Rattle.std.proofs.Common.{◌≡◌, ℕ, ◌<◌, ◌^◌, List, length, map, sym, ◌∙◌, ap, arith, subst}
use Rattle.std.specs.Prelude.{zip, Some, All}
use Rattle.std.proofs.lemmas.List.Elements.{All-same}
use Rattle.std.proofs.lemmas.Slice.Zip.{firsts-zip, seconds-zip, length-zip}
use Rattle.ndarray.specs.Index.{IsRowOrder, row_order}
use Rattle.ndarray.specs.Grid.{Grid, cell, IsGrid}
use Rattle.ndarray.specs.Limits.{IsWithinLimit}
use Rattle.ndarray.proofs.cells.Cells.{all-cells, along-row_order, HasCells-row_order}
use Rattle.ndarray.proofs.lists.Elements.{zip-filter_map}
use Rattle.ndarray.proofs.boxes.Orders.{length-row_order, row_order-is}
use Rattle.ndarray.proofs.boxes.Sizes.{size-le}

module _ {A : Type 0} (v : Grid A) (whole : IsGrid v) (items : List (List ℕ × A)) (list : items ≡ zip (row_order v.lengths) v.cells) where
  pub indexed-row_order : IsRowOrder v.lengths (map (λ item. item.0) items)
  indexed-row_order =
      let l = length-row_order v.lengths in
      subst (IsRowOrder v.lengths) (sym (ap (map (λ (p : List ℕ × A). p.0)) list ∙ firsts-zip (row_order v.lengths) v.cells (omega arith))) (row_order-is v.lengths)

  pub indexed-cells : map (λ item. item.1) items ≡ v.cells
  indexed-cells =
      let l = length-row_order v.lengths in
      ap (map (λ (p : List ℕ × A). p.1)) list ∙ seconds-zip (row_order v.lengths) v.cells (omega arith)

  pub indexed-own : All (λ item. cell v item.0 ≡ Some item.1) items
  indexed-own =
      let h = HasCells-row_order v whole in
      All-same (λ p. cell v p.0 ≡ Some p.1) _ _ (list ∙ ap (zip (row_order v.lengths)) (sym (along-row_order v whole))) (zip-filter_map (cell v) (row_order v.lengths) (all-cells v whole _ h.within))

  pub indexed-fits : IsWithinLimit v.lengths → length items < 2 ^ 63
  indexed-fits limit =
      let l = ap length list ∙ length-zip (row_order v.lengths) v.cells in
      let n = length-row_order v.lengths in
      let s = size-le v.lengths in
      omega arith
