use Rattle.ndarray.proofs.pieces.Pieces.{lanes-reach, lanes-seen}
use Rattle.ndarray.proofs.base.array.ArrayBase.lanes.Goals as goal

pub invariant_of-result : goal.invariant_of-result
invariant_of-result g c = rw (c.Ix1.ensures, c.Ix1-2.ensures, c.first_cells.ensures.start, c.first_cells.ensures.dim, c.first_cells.ensures.strides) (lanes-reach (g.S.Data.at c.self.inside.storage) _ (g.D.Lengths.numbers c.self.inside.layout.dim) c.self.inside.layout.start (g.D.Lengths.numbers c.self.inside.layout.strides) c.args.axis.0 c.len_and_stride-len.result.0 c.len_and_stride-len.result.1 c.seen.ensures c.self.invariant c.len_and_stride-len.ensures)

pub returns : goal.returns
returns g c = rw (c.Ix1.ensures, c.Ix1-2.ensures, c.first_cells.ensures.start, c.first_cells.ensures.dim, c.first_cells.ensures.strides) (lanes-seen (g.S.Data.at c.self.inside.storage) _ (g.D.Lengths.numbers c.self.inside.layout.dim) c.self.inside.layout.start (g.D.Lengths.numbers c.self.inside.layout.strides) c.args.axis.0 c.len_and_stride-len.result.0 c.len_and_stride-len.result.1 _ c.seen.ensures c.self.invariant c.len_and_stride-len.ensures c.self.view_is)
