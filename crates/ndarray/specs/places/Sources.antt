-- What iterators take the cells of an array from.
use Rattle.std.specs.Prelude.{List}
use Rattle.std.specs.Slice.Iter.{iter_rest}
use Rattle.std.specs.Vec.Iter.{into_iter_items}
use Rattle.ndarray.specs.declared.iter.elements.CellSource.{CellSource}
use Rattle.ndarray.specs.declared.iter.elements.CellSource.TheVariants.{Slice, Rows}
use Rattle.ndarray.specs.declared.iter.into_iter.Source.{Source}
use Rattle.ndarray.specs.declared.iter.into_iter.Source.TheVariants.{Whole, Places}

-- the cells that are still to come
abbrev pub cells_to_come : {A D : Type 0} → CellSource A D → List A
cells_to_come (Slice cells) = iter_rest cells
cells_to_come (Rows cells) = cells

-- the same where they are moved out
abbrev pub cells_left : {A D : Type 0} → Source A D → List A
cells_left (Whole cells) = into_iter_items cells
cells_left (Places cells) = cells
