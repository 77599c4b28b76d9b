use Rattle.std.proofs.Common.{refl}
use Rattle.ndarray.specs.base.Slots.{held_at}
use Rattle.ndarray.proofs.pieces.Pieces.{lanes-seen}
use Rattle.ndarray.proofs.pieces.DisjointPieces.{lanes-share}
use Rattle.ndarray.proofs.subviews.lanes_mut.pieces.Goals as goal

pub invariant_of-result : goal.invariant_of-result
invariant_of-result g c = rw (c.Ix1.ensures, c.Ix1-2.ensures, c.first_cells.ensures.start, c.first_cells.ensures.dim, c.first_cells.ensures.strides) (lanes-share (held_at c.view.inside.storage.slots) (g.D.Lengths.numbers c.view.inside.layout.dim) c.view.inside.layout.start (g.D.Lengths.numbers c.view.inside.layout.strides) c.args.axis.0 c.len_and_stride-len.result.0 c.len_and_stride-len.result.1 c.view.invariant c.len_and_stride-len.ensures)

pub returns : goal.returns
returns g c = rw (c.Ix1.ensures, c.Ix1-2.ensures, c.first_cells.ensures.start, c.first_cells.ensures.dim, c.first_cells.ensures.strides) (lanes-seen (held_at c.view.inside.storage.slots) _ (g.D.Lengths.numbers c.view.inside.layout.dim) c.view.inside.layout.start (g.D.Lengths.numbers c.view.inside.layout.strides) c.args.axis.0 c.len_and_stride-len.result.0 c.len_and_stride-len.result.1 _ (λ p. refl) c.view.invariant c.len_and_stride-len.ensures c.view.view_is)
