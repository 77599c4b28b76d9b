-- Running products and differences along an axis, of elements whose numbers are in range.
use Rattle.std.specs.Prelude.{◌≡◌, ℕ, ℤ, ◌*ℤ◌, ◌-ℤ◌, List, Some}
use Rattle.ndarray.specs.AlongAxis.{CanCumulate, CanDiffer, one_further}
use Rattle.ndarray.specs.Grid.{Grid, cell}

module _ {A : Type 0} (number : A → ℤ) (fits : ℤ → Type 0) where
  -- of a list, each element's number times the product of those before it fits, from the second on
  abbrev pub HasRunningProductsInRange : List A → Type 0
  HasRunningProductsInRange = CanCumulate (λ x p. fits (number x *ℤ number p)) (λ x p r. number r ≡ number x *ℤ number p)

  -- of an array, each element's number that is one further along the axis, minus that of the element, fits
  abbrev pub SubtractsAlong : ℕ → Grid A → Type 0
  SubtractsAlong axis g = (is : List ℕ) (y x : A) → cell g (one_further axis is) ≡ Some y → cell g is ≡ Some x → fits (number y -ℤ number x)

  -- of an array, each difference of two numbers that is taken on the way to order n along the axis fits
  abbrev pub HasDifferencesInRange : ℕ → ℕ → Grid A → Type 0
  HasDifferencesInRange axis n g = CanDiffer (λ y x r. number r ≡ number y -ℤ number x) axis (λ y x. fits (number y -ℤ number x)) n g
