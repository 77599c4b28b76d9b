-- The cells of rows that a view gives.
use Rattle.std.specs.Prelude.{◌≡◌, ◌<◌, List, length, replicate, ⊤}
use Rattle.ndarray.specs.declared.zip.views.ViewRow.{ViewRow}
use Rattle.ndarray.specs.declared.zip.views.ViewRow.TheVariants.{Slice, Stepped}
use Rattle.ndarray.specs.declared.zip.views_mut.ViewRowMut.{ViewRowMut}
use Rattle.ndarray.specs.declared.zip.views_mut.ViewRowMut.TheVariants as write

-- the cells of a row
abbrev pub row_cells : {A : Type 0} → ViewRow A → List A
row_cells (Slice s) = s.now
row_cells (Stepped cells) = cells

-- they lie side by side
abbrev pub IsSlice : {A : Type 0} → ViewRow A → Type 0
IsSlice (Slice s) = ⊤
IsSlice (Stepped cells) = ⊥

-- the same of a row to write in
abbrev pub row_cells_mut : {A : Type 0} → ViewRowMut A → List A
row_cells_mut (write.Slice s) = s.now
row_cells_mut (write.Stepped cells) = cells

abbrev pub IsSliceMut : {A : Type 0} → ViewRowMut A → Type 0
IsSliceMut (write.Slice s) = ⊤
IsSliceMut (write.Stepped cells) = ⊥

-- one element, again and again
abbrev pub IsRepeated : {A : Type 0} → List A → Type 0
IsRepeated {A} xs = (0 < length xs) × ((x : A) × (xs ≡ replicate (length xs) x))
