-- The last cell of an array in row order.
use Rattle.std.proofs.Common.{◌≡◌, ◌∙◌, ◌-◌, ℕ, zero, suc, length, ap, arith, refl, slice_get, sym}
use Rattle.std.proofs.lemmas.Option.{slice_get_past}
use Rattle.ndarray.specs.Grid.{Grid, IsGrid, cell}
use Rattle.ndarray.specs.Index.{size}
use Rattle.ndarray.proofs.boxes.LastIndices.{last-inside, lowered, none-inside}
use Rattle.ndarray.proofs.cells.Cells.{cell-outside, cell-within}

pub last-cell : {A : Type 0} (g : Grid A) → IsGrid g → cell g (lowered (length g.lengths) g.lengths) ≡ slice_get g.cells (length g.cells - 1)
last-cell g whole = by (size g.lengths) refl
  where
    by : (n : ℕ) → size g.lengths ≡ n → cell g (lowered (length g.lengths) g.lengths) ≡ slice_get g.cells (length g.cells - 1)
    by zero none = cell-outside g _ (none-inside g.lengths _ none) ∙ sym (slice_get_past g.cells (length g.cells - 1) (omega arith))
    by (suc n) some =
        let last = last-inside g.lengths (omega arith) in
        cell-within g whole _ last.0 ∙ ap (slice_get g.cells) (omega (arith, last.1))
