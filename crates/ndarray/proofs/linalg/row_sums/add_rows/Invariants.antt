-- The sums over the rows so far, and the numbers for the others.
use Rattle.std.proofs.Common.{◌≡◌, ◌-◌, ◌≤◌, drop, map}
use Rattle.ndarray.specs.linalg.RowSums.{row_sums_to}
use Rattle.ndarray.proofs.linalg.row_sums.add_rows.Given as goal

abbrev pub invariant-fours : goal.invariant-fours
invariant-fours g l = record {
  in_range : l.i ≤ l.rows;
  left : l.numbers ≡ drop l.i l.x.cells;
  sums : map g.A.Valued.meaning l.sums ≡ row_sums_to g.A.Valued l.i l.x l.right;
}

abbrev pub decreases-fours : goal.decreases-fours
decreases-fours g l = l.rows - l.i

abbrev pub invariant-others : goal.invariant-others
invariant-others g l = record {
  in_range : l.i ≤ l.rows;
  left : l.numbers ≡ drop l.i l.x.cells;
  sums : map g.A.Valued.meaning l.sums ≡ row_sums_to g.A.Valued l.i l.x l.right;
}

abbrev pub decreases-others : goal.decreases-others
decreases-others g l = l.rows - l.i
