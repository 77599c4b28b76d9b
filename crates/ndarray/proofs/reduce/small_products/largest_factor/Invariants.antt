-- So many squares of the factor add up to at most a number that fits.
use Rattle.std.proofs.Common.{◌-◌, ◌*◌, pos}
use Rattle.std.specs.Prelude.{◌≤ℤ◌, unsigned_abs}
use Rattle.ndarray.proofs.reduce.small_products.largest_factor.Given as goal

abbrev pub invariant-doubles : goal.invariant-doubles
invariant-doubles g l = record {
  from_zero : pos 0 ≤ℤ g.A.Number.value l.factor;
  up_to : pos (l.count * (unsigned_abs (g.A.Number.value l.factor) * unsigned_abs (g.A.Number.value l.factor))) ≤ℤ g.A.Number.value l.squares;
  squares_fit : g.A.Number.fits (g.A.Number.value l.squares);
}

abbrev pub decreases-doubles : goal.decreases-doubles
decreases-doubles g l = 64 - l.turns
