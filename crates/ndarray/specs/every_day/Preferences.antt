-- Inside `everyday`: which of two cells is sought.
use Rattle.std.specs.Prelude.{Bool}
use Rattle.std.specs.declared.cmp.Ordering.{Ordering}
use Rattle.ndarray.specs.Extremes.{greater, less}
use Rattle.ndarray.specs.declared.everyday.extremes.Extreme.{Extreme}
use Rattle.ndarray.specs.declared.everyday.extremes.Extreme.TheVariants.{Least, Greatest}

-- the test by which a cell is taken in place of another
abbrev pub preferred : {A : Type 0} → (A → A → Ordering) → Extreme → A → A → Bool
preferred cmp Least = less cmp
preferred cmp Greatest = greater cmp
