-- The places so far were added.
use Rattle.std.proofs.Common.{◌-◌, ◌≤◌, [], ◌∷◌, length}
use Rattle.ndarray.specs.linalg.RowSums.{AddsRowsTo}
use Rattle.ndarray.proofs.linalg.row_sums.add_in_fours.Given as goal

abbrev pub invariant-fours : goal.invariant-fours
invariant-fours g l = record {
  in_range : l.j ≤ length l.fn.sums;
  added : AddsRowsTo g.A.Valued l.j ((l.a.number, l.a.cells.now) ∷ (l.b.number, l.b.cells.now) ∷ (l.c.number, l.c.cells.now) ∷ (l.d.number, l.d.cells.now) ∷ []) l.fn.sums l.sums;
}

abbrev pub decreases-fours : goal.decreases-fours
decreases-fours g l = length l.sums - l.j
