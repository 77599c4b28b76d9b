-- The convolution of three lists, and a filter by the convolution of two, from what `convolution_either_way` gives.
use Rattle.ndarray.proofs.Common.{◌≡◌, ◌∙◌, ◌≤◌, ◌↔◌, FitsSigned, List, ℕ, ℤ, Option, Some, ap, arith, length, nat_tests, refl, subst, sym, w64, IfSome, IsSome, CanPad, Grid, HasFullMagnitudesInRange, HasValidMagnitudesInRange, IsGrid, full_convolution, int_products, int_sums, length-below, one_axis, positive-one, total, valid-made, valid_counts, valid_products}
use Rattle.ndarray.specs.Convolution.{filtered, full_length}
use Rattle.ndarray.specs.ConvolutionLaws.{FiltersCompose}
use Rattle.ndarray.specs.Grid.{cell}
use Rattle.ndarray.specs.Subviews.{ArePositive}

abbrev pub convolved : List ℤ → List ℤ → List ℤ
convolved xs ys = full_convolution int_sums int_products xs ys

abbrev pub Fits : List ℤ → List ℤ → Type 0
Fits xs ys = CanPad (length xs) (length ys) × HasFullMagnitudesInRange (λ v. v) (FitsSigned w64) xs ys

-- what was made of two lists
pub record Made (xs ys : List ℤ) (r : Grid ℤ) : Type 0 where
  pub fits : Fits xs ys
  pub is : r ≡ one_axis (convolved xs ys)

pub made-of : (xs ys : List ℤ) (o : Option (Grid ℤ)) (r : Grid ℤ) → o ≡ Some r → (IsSome o ↔ Fits xs ys) → IfSome o (λ w. w ≡ one_axis (convolved xs ys)) → Made xs ys r
made-of xs ys o r some when is = record { fits = (subst (λ w. IsSome w ↔ Fits xs ys) some when).0 refl; is = subst (λ w. IfSome w (λ v. v ≡ one_axis (convolved xs ys))) some is }

-- and with a third
pub in-turn : (x y z : List ℤ) (r : Grid ℤ) → Made x y r → (o : Option (Grid ℤ)) → (IsSome o ↔ Fits r.cells z)
    → IsSome o ↔ (CanPad (length x) (length y) × HasFullMagnitudesInRange (λ v. v) (FitsSigned w64) x y × CanPad (length (convolved x y)) (length z) × HasFullMagnitudesInRange (λ v. v) (FitsSigned w64) (convolved x y) z)
in-turn x y z r made o when =
    let last = subst (λ w. IsSome o ↔ Fits w.cells z) made.is when in
    (λ some. (made.fits.0, made.fits.1, (last.0 some).0, (last.0 some).1), λ given. last.1 (given.2, given.3))

-- a filter by what was made of two lists that have elements
module _ (signal : Grid ℤ) (one : length signal.lengths ≡ 1) (whole : IsGrid signal) (xs ys : List ℤ) (kernel : Grid ℤ) (made : Made xs ys kernel) (some : 1 ≤ length xs) (more : 1 ≤ length ys) where
  one-axis : length kernel.lengths ≡ 1
  one-axis = ap (λ v. length v.lengths) made.is

  kernel-whole : IsGrid kernel
  kernel-whole = subst IsGrid (sym made.is) (omega arith)

  pub may-filter : ArePositive signal.lengths kernel.lengths
  may-filter =
      let cells : 1 ≤ full_length (length xs) (length ys) = grind (arith, nat_tests, some, more) in
      let long : length (convolved xs ys) ≡ full_length (length xs) (length ys) = length-below (full_length (length xs) (length ys)) _ in
      positive-one signal kernel one one-axis kernel-whole (subst (λ v. 1 ≤ length v.cells) (sym made.is) (omega (arith, cells, long)))

  -- where the test of it says yes, and what it has made
  pub fits-by : HasValidMagnitudesInRange (λ x. x) (FitsSigned w64) signal kernel ↔ HasValidMagnitudesInRange (λ x. x) (FitsSigned w64) signal (one_axis (convolved xs ys))
  fits-by = (subst (HasValidMagnitudesInRange (λ x. x) (FitsSigned w64) signal) made.is, subst (HasValidMagnitudesInRange (λ x. x) (FitsSigned w64) signal) (sym made.is))

  pub filtered-by : FiltersCompose int_sums int_products → (r : Grid ℤ) → r.lengths ≡ valid_counts signal.lengths kernel.lengths → IsGrid r → ((is : List ℕ) (z : ℤ) → cell r is ≡ Some z → z ≡ total int_sums (valid_products int_products (λ x. x) signal kernel is))
      → r ≡ one_axis (filtered int_sums int_products (filtered int_sums int_products signal.cells xs) ys)
  filtered-by compose r lengths r_whole cells =
      valid-made int_sums int_products signal kernel r one whole one-axis kernel-whole lengths r_whole cells
      ∙ (ap (λ v. one_axis (filtered int_sums int_products signal.cells v.cells)) made.is ∙ ap one_axis (sym (compose signal.cells xs ys some more)))
