use Rattle.std.proofs.Common.{length}
use Rattle.ndarray.specs.Index.{row_order}
use Rattle.ndarray.specs.base.Masks.{mask_of}
use Rattle.ndarray.specs.base.Pieces.{piece_layouts}
use Rattle.ndarray.proofs.subviews.pieces_mut.PiecesMut.split_at.Given as goal

abbrev pub ghost-split : goal.ghost-split
ghost-split g a =
    let part = a._by.now in
    mask_of (piece_layouts part.positions.start (g.P.Lengths.numbers part.positions.strides) (g.D.Lengths.numbers part.dim) (g.D.Lengths.numbers part.strides) (row_order (g.P.Lengths.numbers part.positions.dim))) (length a.self.slots)
