-- Pictures made of the sums of squares.
use Rattle.ndarray.proofs.Common.{◌≡◌, ◌∙◌, ◌+◌, ◌-◌, ◌*ℤ◌, ◌-ℤ◌, ℕ, ℤ, pos, negsuc, [], ◌∷◌, ap, arith, ◌&&◌, nat_eq, if◌then◌else◌, ints, Grid, Maps, value_or}
use Rattle.ndarray.specs.Grid.{cell}
use Rattle.ndarray.specs.Index.{row_order}
use Rattle.uses.specs.Picture.{HasInnerPixels, blur_kernel, edge_kernel, filtered_pixel, pixel, square_sum, sum_of_three}

-- a function of each pixel of a filtered image
pub inner-pixels : (image kernel sums made : Grid ℤ) (f : ℤ → ℤ) (value : ℕ → ℕ → ℤ) (gives : ℤ → ℤ → Type 0) → HasInnerPixels image (filtered_pixel image kernel) sums
    → ((r c : ℕ) → f (filtered_pixel image kernel r c) ≡ value r c) → ((x z : ℤ) → gives x z → z ≡ f x) → Maps gives sums made → HasInnerPixels image value made
inner-pixels image kernel sums made f value gives h each acts maps = record {
  lengths = maps.lengths ∙ h.lengths;
  whole = maps.whole;
  pixels = λ r c z at.
      let (x, there, given) = maps.cells (r ∷ c ∷ []) z at in
      acts x z given ∙ (ap f (h.pixels r c x there) ∙ each r c);
}

-- ---- the sums of the two kernels

abbrev edge_weight : ℕ → ℕ → ℤ
edge_weight i j = if nat_eq i 1 && nat_eq j 1 then pos 8 else negsuc 0

-- of any numbers q in place of pixels; the square from the other end is the square
module _ (q : ℕ → ℕ → ℤ) (r c : ℕ) where
  at : (i j k l : ℕ) → i ≡ k → j ≡ l → q i j ≡ q k l
  at i j k l e f = ap (λ m. q m j) e ∙ ap (q k) f

  ones : sum_of_three (λ i. sum_of_three (λ j. pos 1 *ℤ q (r + 2 - i) (c + 2 - j))) ≡ sum_of_three (λ i. sum_of_three (λ j. q (r + i) (c + j)))
  ones =
      let a = at (r + 2 - 0) (c + 2 - 0) (r + 2) (c + 2) (omega arith) (omega arith) in
      let b = at (r + 2 - 0) (c + 2 - 1) (r + 2) (c + 1) (omega arith) (omega arith) in
      let d = at (r + 2 - 0) (c + 2 - 2) (r + 2) (c + 0) (omega arith) (omega arith) in
      let e = at (r + 2 - 1) (c + 2 - 0) (r + 1) (c + 2) (omega arith) (omega arith) in
      let f = at (r + 2 - 1) (c + 2 - 1) (r + 1) (c + 1) (omega arith) (omega arith) in
      let g = at (r + 2 - 1) (c + 2 - 2) (r + 1) (c + 0) (omega arith) (omega arith) in
      let h = at (r + 2 - 2) (c + 2 - 0) (r + 0) (c + 2) (omega arith) (omega arith) in
      let i = at (r + 2 - 2) (c + 2 - 1) (r + 0) (c + 1) (omega arith) (omega arith) in
      let j = at (r + 2 - 2) (c + 2 - 2) (r + 0) (c + 0) (omega arith) (omega arith) in
      omega (arith, ints)

  weights : sum_of_three (λ i. sum_of_three (λ j. edge_weight i j *ℤ q (r + 2 - i) (c + 2 - j))) ≡ pos 9 *ℤ q (r + 1) (c + 1) -ℤ sum_of_three (λ i. sum_of_three (λ j. q (r + i) (c + j)))
  weights =
      let once = ones in
      let middle = at (r + 2 - 1) (c + 2 - 1) (r + 1) (c + 1) (omega arith) (omega arith) in
      omega (arith, ints)

pub blur-sum : (image : Grid ℤ) (r c : ℕ) → filtered_pixel image blur_kernel r c ≡ square_sum image r c
unfolding cell row_order
blur-sum image r c = ones (pixel image) r c

pub edge-sum : (image : Grid ℤ) (r c : ℕ) → filtered_pixel image edge_kernel r c ≡ pos 9 *ℤ pixel image (r + 1) (c + 1) -ℤ square_sum image r c
unfolding cell row_order
edge-sum image r c = weights (pixel image) r c
