-- Laws of totals: those of arrays that are added cell by cell, or multiplied by a value.
use Rattle.std.specs.Prelude.{◌≡◌, ℕ, ◌<◌, length}
use Rattle.ndarray.specs.Algebra.{CommutativeMonoid}
use Rattle.ndarray.specs.AlongAxis.{IsTotalOf}
use Rattle.ndarray.specs.Elementwise.{Combines, Maps}
use Rattle.ndarray.specs.Grid.{Grid, IsGrid}
use Rattle.ndarray.specs.Subviews.{lanes_of}
use Rattle.ndarray.specs.Sums.{total_by}

module _ {A C : Type 0} (plus : CommutativeMonoid C) (value : A → C) where
  -- two arrays have the same lengths, and a third has at each index list the sum of their values
  pub record AddsUp (g h r : Grid A) : Type 0 where
    pub left : IsGrid g
    pub right : IsGrid h
    pub same : g.lengths ≡ h.lengths
    pub sums : Combines g h (λ x y z. value z ≡ plus.op (value x) (value y)) r

  -- its total is the sum of their totals
  abbrev pub TotalsAdd : Type 0
  TotalsAdd = (g h r : Grid A) → AddsUp g h r → total_by plus value r.cells ≡ plus.op (total_by plus value g.cells) (total_by plus value h.cells)

  -- and its totals along an axis, as `sum_axis` makes them, are the sums of theirs
  abbrev pub LaneTotalsAdd : Type 0
  LaneTotalsAdd = (g h r : Grid A) → AddsUp g h r → (axis : ℕ) → axis < length g.lengths
      → (s t u : Grid A) → Maps (IsTotalOf plus value) (lanes_of g axis) s → Maps (IsTotalOf plus value) (lanes_of h axis) t → Maps (IsTotalOf plus value) (lanes_of r axis) u → AddsUp s t u

module _ {A C : Type 0} (plus times : CommutativeMonoid C) (value : A → C) where
  -- an array has at each index list the value of another times a value
  pub record MultipliesBy (factor : C) (g r : Grid A) : Type 0 where
    pub whole : IsGrid g
    pub products : Maps (λ x z. value z ≡ times.op (value x) factor) g r

  -- its total is the total of the other times the value
  abbrev pub TotalsMultiply : Type 0
  TotalsMultiply = (factor : C) (g r : Grid A) → MultipliesBy factor g r → total_by plus value r.cells ≡ times.op (total_by plus value g.cells) factor

  -- and its totals along an axis, as `sum_axis` makes them, are those of the other times the value
  abbrev pub LaneTotalsMultiply : Type 0
  LaneTotalsMultiply = (factor : C) (g r : Grid A) → MultipliesBy factor g r → (axis : ℕ) → axis < length g.lengths
      → (s u : Grid A) → Maps (IsTotalOf plus value) (lanes_of g axis) s → Maps (IsTotalOf plus value) (lanes_of r axis) u → MultipliesBy factor s u
