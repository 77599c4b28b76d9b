-- Totals of the lanes of a table along an axis, and differences and running products along it.
use Rattle.std.specs.Prelude.{◌≡◌, ◌⊎◌, ℕ, ◌<◌, List, ℤ, ◌-ℤ◌, ◌*ℤ◌, pos, Some, length, slice_index, FitsSigned}
use Rattle.std.specs.Int.{w64}
use Rattle.ndarray.specs.Algebra.{CommutativeMonoid}
use Rattle.ndarray.specs.AlongAxis.{CanCumulate, CanDiffer, Cumulates, IsDifferenceOf, one_further}
use Rattle.ndarray.specs.Elementwise.{CanMap, Maps}
use Rattle.ndarray.specs.Grid.{Grid, cell}
use Rattle.ndarray.specs.Integers.{int_sums, magnitude_product}
use Rattle.ndarray.specs.Subviews.{lanes_of}
use Rattle.ndarray.specs.Sums.{IsSummable, total}
use Rattle.ndtables.specs.declared.fault.Fault.{Fault}
use Rattle.ndtables.specs.declared.fault.Fault.TheVariants.{Usage, Shape, Number, Range, Input, Memory}

-- the array has an axis of that number
abbrev pub HasAxis : Grid ℤ → ℕ → Type 0
HasAxis g axis = axis < length g.lengths

-- every selection of the numbers has a sum that is an `i64`
abbrev pub SumsFit : List ℤ → Type 0
SumsFit zs = IsSummable int_sums (FitsSigned w64) zs

-- the absolute values of the numbers that are not zero multiply to an `i64`
abbrev pub ProductsFit : List ℤ → Type 0
ProductsFit zs = FitsSigned w64 (pos (magnitude_product zs))

-- the cells of each lane along the axis are in range
abbrev pub AreInRangeAlong : (List ℤ → Type 0) → Grid ℤ → ℕ → Type 0
AreInRangeAlong in_range g axis = CanMap (λ lane. in_range lane.cells) (lanes_of g axis)

-- on each lane along the axis every selection of the cells has a sum that is an `i64`
abbrev pub CanSumAlong : Grid ℤ → ℕ → Type 0
CanSumAlong g axis = AreInRangeAlong SumsFit g axis

-- on each lane along the axis the absolute values of the cells that are not zero multiply to an `i64`
abbrev pub CanMultiplyAlong : Grid ℤ → ℕ → Type 0
CanMultiplyAlong g axis = AreInRangeAlong ProductsFit g axis

-- the array has the axis, the cells of each lane along it are in range, and the other array has for each lane the total of its cells
pub record AreTotalsAlong (M : CommutativeMonoid ℤ) (in_range : List ℤ → Type 0) (g : Grid ℤ) (axis : ℕ) (totals : Grid ℤ) : Type 0 where
  pub shape : HasAxis g axis
  pub fits : AreInRangeAlong in_range g axis
  pub cells : Maps (λ lane z. z ≡ total M lane.cells) (lanes_of g axis) totals

-- the fault is why an array was not made: its shape does not allow it, else a number is not in range, else allocation failure
abbrev pub ForbidsMaking : Type 0 → Type 0 → Fault → Type 0
ForbidsMaking shape in_range Usage = ⊥
ForbidsMaking shape in_range Shape = shape → ⊥
ForbidsMaking shape in_range Number = ⊥
ForbidsMaking shape in_range Range = shape × (in_range → ⊥)
ForbidsMaking shape in_range Input = ⊥
ForbidsMaking shape in_range Memory = shape × in_range

-- the third number is the first minus the second
abbrev pub subtraction_gives : ℤ → ℤ → ℤ → Type 0
subtraction_gives y x z = z ≡ y -ℤ x

-- the array has the axis, and the order is 0 or below its length
abbrev pub HasOrder : Grid ℤ → ℕ → ℕ → Type 0
HasOrder g n axis = HasAxis g axis × ((n ≡ 0) ⊎ (n < slice_index g.lengths axis))

-- each cell that is one further along the axis, minus the cell, is an `i64`
abbrev pub CanSubtractAlong : Grid ℤ → ℕ → Type 0
CanSubtractAlong g axis = (is : List ℕ) (y x : ℤ) → cell g (one_further axis is) ≡ Some y → cell g is ≡ Some x → FitsSigned w64 (y -ℤ x)

-- each difference on the way to that order is an `i64`
abbrev pub CanDifferAlong : Grid ℤ → ℕ → ℕ → Type 0
CanDifferAlong g n axis = CanDiffer subtraction_gives axis (λ y x. FitsSigned w64 (y -ℤ x)) n g

-- the array has the axis, long enough for the order, each difference on the way is an `i64`, and the other array is the difference of that order
pub record AreDifferences (g : Grid ℤ) (n axis : ℕ) (differences : Grid ℤ) : Type 0 where
  pub shape : HasOrder g n axis
  pub fits : CanDifferAlong g n axis
  pub cells : IsDifferenceOf subtraction_gives axis n g differences

-- the fault is why differences were not made: the shape does not allow them, or one on the way is no `i64`, or allocation failure on the way
abbrev pub ForbidsDifferences : Grid ℤ → ℕ → ℕ → Fault → Type 0
ForbidsDifferences g n axis Usage = ⊥
ForbidsDifferences g n axis Shape = HasOrder g n axis → ⊥
ForbidsDifferences g n axis Number = ⊥
ForbidsDifferences g n axis Range = HasOrder g n axis × (CanDifferAlong g n axis → ⊥)
ForbidsDifferences g n axis Input = ⊥
ForbidsDifferences g n axis Memory = HasOrder g n axis

-- the third number is the product of the two
abbrev pub multiplication_gives : ℤ → ℤ → ℤ → Type 0
multiplication_gives x p z = z ≡ x *ℤ p

-- of a list each product of the number with all before it is an `i64`, from the second number on
abbrev pub CanCumulateList : List ℤ → Type 0
CanCumulateList = CanCumulate (λ x p. FitsSigned w64 (x *ℤ p)) multiplication_gives

-- on each lane along the axis the running products are `i64`s
abbrev pub CanCumulateAlong : Grid ℤ → ℕ → Type 0
CanCumulateAlong g axis = CanMap (λ lane. CanCumulateList lane.cells) (lanes_of g axis)

-- the array has the axis, the running products along it are `i64`s, and the other array has them
pub record AreRunningProducts (g : Grid ℤ) (axis : ℕ) (products : Grid ℤ) : Type 0 where
  pub shape : HasAxis g axis
  pub fits : CanCumulateAlong g axis
  pub cells : Cumulates multiplication_gives axis g products
