use Rattle.std.proofs.Common.{[], ◌∷◌, length}
use Rattle.ndarray.specs.base.Masks.{mask_of}
use Rattle.ndarray.specs.base.CellLayouts.{cell_layout}
use Rattle.ndarray.proofs.subviews.piece_layouts.take_array.Given as goal

abbrev pub ghost-split : goal.ghost-split
ghost-split g a = mask_of (cell_layout (g.D.Lengths.numbers a._by.now.dim) a._by.now.start (g.D.Lengths.numbers a._by.now.strides) ∷ []) (length a.self.slots)
