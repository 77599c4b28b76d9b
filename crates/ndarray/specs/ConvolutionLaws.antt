-- What the laws of convolution say.
use Rattle.std.specs.Prelude.{◌≡◌, ◌-◌, ◌≤◌, List, drop, length, take}
use Rattle.ndarray.specs.Algebra.{CommutativeMonoid}
use Rattle.ndarray.specs.Convolution.{full_convolution, full_length, filtered, valid_convolution_by, valid_length}
use Rattle.ndarray.specs.Grid.{one_axis}

module _ {C : Type 0} (plus times : CommutativeMonoid C) where
  -- the full convolution has its length
  abbrev pub HaveFullLength : Type 0
  HaveFullLength = (xs ys : List C) → length (full_convolution plus times xs ys) ≡ full_length (length xs) (length ys)

  -- the full convolution of x and y is that of y and x
  abbrev pub ConvolutionsCommute : Type 0
  ConvolutionsCommute = (xs ys : List C) → full_convolution plus times xs ys ≡ full_convolution plus times ys xs

  -- the full convolutions of three lists, grouped either way
  abbrev pub ConvolutionsAssociate : Type 0
  ConvolutionsAssociate = (xs ys zs : List C)
      → full_convolution plus times (full_convolution plus times xs ys) zs ≡ full_convolution plus times xs (full_convolution plus times ys zs)

  -- two filters one after another are one with the full convolution of their kernels
  abbrev pub FiltersCompose : Type 0
  FiltersCompose = (xs ys zs : List C) → 1 ≤ length ys → 1 ≤ length zs
      → filtered plus times (filtered plus times xs ys) zs ≡ filtered plus times xs (full_convolution plus times ys zs)

  -- the same of arrays of one axis
  abbrev pub ArrayFiltersCompose : Type 0
  ArrayFiltersCompose = (xs ys zs : List C) → 1 ≤ length ys → 1 ≤ length zs
      → valid_convolution_by plus times (λ x. x) (valid_convolution_by plus times (λ x. x) (one_axis xs) (one_axis ys)) (one_axis zs)
      ≡ valid_convolution_by plus times (λ x. x) (one_axis xs) (one_axis (full_convolution plus times ys zs))

  -- a valid convolution is the middle of the full one
  abbrev pub ValidIsPartOfFull : Type 0
  ValidIsPartOfFull = (xs ys : List C) → 1 ≤ length ys
      → filtered plus times xs ys ≡ take (valid_length (length xs) (length ys)) (drop (length ys - 1) (full_convolution plus times xs ys))
