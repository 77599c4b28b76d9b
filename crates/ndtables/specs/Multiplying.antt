-- Products of two tables.
use Rattle.std.specs.Prelude.{ℤ, FitsSigned}
use Rattle.std.specs.Int.{w64}
use Rattle.ndarray.specs.DotRanges.{HasLaneMagnitudesInRange}
use Rattle.ndarray.specs.Grid.{Grid}
use Rattle.ndarray.specs.Products.{HasValues, ShapesMultiply, dot_entries, product_lengths}
use Rattle.ndarray.specs.WholeValues.{whole_numbers}
use Rattle.ndtables.specs.Reducing.{ForbidsMaking}
use Rattle.ndtables.specs.declared.fault.Fault.{Fault}

-- at each index list of the product of two arrays, the absolute values of the products of the two lanes that meet there add up to an `i64`
abbrev pub CanSumProducts : Grid ℤ → Grid ℤ → Type 0
CanSumProducts g h = HasLaneMagnitudesInRange (λ z. z) (FitsSigned w64) g h

-- the shapes of two arrays multiply, the sums are in range, and the cell of the third array at each index list is the sum of the products of the two lanes that meet there
pub record IsProduct (g h product : Grid ℤ) : Type 0 where
  pub shapes : ShapesMultiply g.lengths h.lengths
  pub fits : CanSumProducts g h
  pub cells : HasValues (whole_numbers (λ z. z) (FitsSigned w64)) (product_lengths g.lengths h.lengths) (dot_entries (whole_numbers (λ z. z) (FitsSigned w64)) g h) product

-- the fault is why two arrays were not multiplied: their shapes, else a sum out of range, else allocation failure
abbrev pub ForbidsProduct : Grid ℤ → Grid ℤ → Fault → Type 0
ForbidsProduct g h = ForbidsMaking (ShapesMultiply g.lengths h.lengths) (CanSumProducts g h)
