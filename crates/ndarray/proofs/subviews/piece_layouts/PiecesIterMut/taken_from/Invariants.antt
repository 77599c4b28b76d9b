use Rattle.std.proofs.Common.{length}
use Rattle.ndarray.specs.base.Masks.{mask_of}
use Rattle.ndarray.proofs.subviews.piece_layouts.PiecesIterMut.taken_from.Given as goal

abbrev pub ghost-split : goal.ghost-split
ghost-split g a = mask_of (g.T.PieceLayouts.layouts a._by.now) (length a.self.slots)
