-- Sums of two arrays, cell by cell.
use Rattle.std.specs.Prelude.{◌≡◌, ℤ, ◌+ℤ◌, FitsSigned}
use Rattle.std.specs.Int.{w64}
use Rattle.ndarray.specs.Broadcast.{BroadcastTogether}
use Rattle.ndarray.specs.Elementwise.{CanCombine, Combines}
use Rattle.ndarray.specs.Grid.{Grid}
use Rattle.ndtables.specs.declared.fault.Fault.{Fault}
use Rattle.ndtables.specs.declared.fault.Fault.TheVariants.{Usage, Shape, Number, Range, Input, Memory}

-- the shapes of two arrays broadcast together, and the sum of the two cells at each index list is an `i64`
abbrev pub CanAdd : Grid ℤ → Grid ℤ → Type 0
CanAdd g h = CanCombine g h (λ x y. FitsSigned w64 (x +ℤ y))

-- two arrays may be added, and the cell of the third at each index list is the sum of the two cells there
pub record AreSums (g h sums : Grid ℤ) : Type 0 where
  pub fits : CanAdd g h
  pub cells : Combines g h (λ x y z. z ≡ x +ℤ y) sums

-- the fault is why two arrays were not added: their shapes, else a sum that is no `i64`, else allocation failure
abbrev pub ForbidsSums : Grid ℤ → Grid ℤ → Fault → Type 0
ForbidsSums g h Usage = ⊥
ForbidsSums g h Shape = BroadcastTogether g.lengths h.lengths → ⊥
ForbidsSums g h Number = ⊥
ForbidsSums g h Range = BroadcastTogether g.lengths h.lengths × (CanAdd g h → ⊥)
ForbidsSums g h Input = ⊥
ForbidsSums g h Memory = CanAdd g h
