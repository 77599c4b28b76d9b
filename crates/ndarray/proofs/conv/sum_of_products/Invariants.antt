-- The products of the rows so far were added.
use Rattle.std.proofs.Common.{length}
use Rattle.ndarray.proofs.cells.RunProducts.{AddedRows}
use Rattle.ndarray.proofs.conv.sum_of_products.Given as goal

abbrev pub invariant-loop-row : goal.invariant-loop-row
invariant-loop-row g l =
    let v = g.A.Valued in
    AddedRows v.multiplication v.meaning l.x l.y v.addition v.InRange l.rows (v.meaning l.sum)

abbrev pub decreases-loop-row : goal.decreases-loop-row
decreases-loop-row g l = length l.rows
