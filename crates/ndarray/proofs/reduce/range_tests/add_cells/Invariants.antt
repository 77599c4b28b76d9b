use Rattle.std.proofs.Common.{ℕ, List, ◌++◌, ◌-◌, ◌≤◌, drop, length, map}
use Rattle.std.specs.Prelude.{ℤ}
use Rattle.ndarray.specs.reduce.SignedSums.{AddedApart}
use Rattle.ndarray.proofs.reduce.range_tests.add_cells.Given as goal

-- there are i cells, and these were added to one pair of sums, which makes another
abbrev AddsFirstCells : {T : Type 0} (fits : ℤ → Type 0) (v : T → ℤ) (cells : List T) (i : ℕ) (up down higher lower : T) → Type 0
AddsFirstCells fits v cells i up down higher lower = record {
  in_range : i ≤ length cells;
  added : (whole rest : List ℤ) → AddedApart fits whole (map v cells ++ rest) (v up) (v down) → AddedApart fits whole (map v (drop i cells) ++ rest) (v higher) (v lower);
}

abbrev pub invariant-fours : goal.invariant-fours
invariant-fours g l = AddsFirstCells g.A.Number.fits g.A.Number.value l.cells l.i l.fn.sums.up l.fn.sums.down l.sums.up l.sums.down

abbrev pub decreases-fours : goal.decreases-fours
decreases-fours g l = length l.cells - l.i

abbrev pub invariant-others : goal.invariant-others
invariant-others g l = AddsFirstCells g.A.Number.fits g.A.Number.value l.cells l.i l.fn.sums.up l.fn.sums.down l.sums.up l.sums.down

abbrev pub decreases-others : goal.decreases-others
decreases-others g l = length l.cells - l.i
