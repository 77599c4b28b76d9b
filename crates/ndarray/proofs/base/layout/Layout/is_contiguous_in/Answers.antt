use Rattle.std.proofs.Common.{arith}
use Rattle.ndarray.proofs.boxes.Sizes.{nonzero-reverse}
use Rattle.ndarray.proofs.strides.PlacesInOrder.{columns-follow}
use Rattle.ndarray.proofs.base.layout.Layout.is_contiguous_in.Goals as goal

pub is_contiguous-requires-in-ColumnMajor-clause-limit : goal.is_contiguous-requires-in-ColumnMajor-clause-limit
is_contiguous-requires-in-ColumnMajor-clause-limit g c = rw c.reversed_axes.ensures.dim (omega (arith, nonzero-reverse (g.D.Lengths.numbers c.args.self.now.dim), c.requires.limit))

pub returns-in-ColumnMajor : goal.returns-in-ColumnMajor
returns-in-ColumnMajor g c = λ yes.
    let r = c.reversed_axes.ensures in
    rw c.in-ColumnMajor.is (columns-follow (g.D.Lengths.numbers c.args.self.now.dim) c.args.self.now.start (g.D.Lengths.numbers c.args.self.now.strides) c.requires.as_many (rw (← r.start, ← r.dim, ← r.strides) (c.is_contiguous-in-ColumnMajor.ensures yes)))
