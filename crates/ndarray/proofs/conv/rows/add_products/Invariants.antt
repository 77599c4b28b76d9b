-- The products with the cells so far were added.
use Rattle.std.proofs.Common.{length}
use Rattle.ndarray.specs.base.Ranks.{row_from}
use Rattle.ndarray.proofs.convolution.WindowRows.{AddedProducts}
use Rattle.ndarray.proofs.conv.rows.add_products.Given as goal

abbrev pub invariant-loop-place : goal.invariant-loop-place
invariant-loop-place g l = AddedProducts g.A.Valued l.a l.mirrored (row_from (g.D.Lengths.numbers l.tile.first) l.tile.axis l.tile.count) l.places l.sums

abbrev pub decreases-loop-place : goal.decreases-loop-place
decreases-loop-place g l = length l.places
