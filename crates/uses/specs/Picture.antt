-- Filters of a picture, by what each pixel is.
use Rattle.std.specs.Prelude.{◌≡◌, ℕ, ℤ, ◌+◌, ◌-◌, ◌*ℤ◌, ◌-ℤ◌, pos, negsuc, int_div, min, unsigned_abs, [], ◌∷◌, Some, slice_index}
use Rattle.ndarray.specs.Grid.{Grid, IsGrid, cell, grid}
use Rattle.ndarray.specs.Integers.{int_sums}
use Rattle.ndarray.specs.Matrices.{values_below}
use Rattle.ndarray.specs.Products.{value_or}
use Rattle.ndarray.specs.Sums.{total}

-- the sum of the numbers of a function at 0, 1 and 2
abbrev pub sum_of_three : (ℕ → ℤ) → ℤ
sum_of_three f = total int_sums (values_below 3 f)

-- the pixel of an image at a row and a column, and 0 outside of it
abbrev pub pixel : Grid ℤ → ℕ → ℕ → ℤ
pixel image r c = value_or (λ x. x) (pos 0) (cell image (r ∷ c ∷ []))

-- a filter of three by three at row r and column c: the sum over i and j below 3 of kernel[i][j] * image[r + 2 - i][c + 2 - j]
abbrev pub filtered_pixel : Grid ℤ → Grid ℤ → ℕ → ℕ → ℤ
filtered_pixel image kernel r c = sum_of_three (λ i. sum_of_three (λ j. pixel kernel i j *ℤ pixel image (r + 2 - i) (c + 2 - j)))

-- the sum of the square of three by three pixels that begins at row r and column c
abbrev pub square_sum : Grid ℤ → ℕ → ℕ → ℤ
square_sum image r c = sum_of_three (λ i. sum_of_three (λ j. pixel image (r + i) (c + j)))

-- the mean of the square's pixels, rounded towards zero
abbrev pub mean_pixel : Grid ℤ → ℕ → ℕ → ℤ
mean_pixel image r c = int_div (square_sum image r c) (pos 9)

-- nine times the pixel in the middle of the square less the square's sum, without the sign, and at most 255
abbrev pub edge_pixel : Grid ℤ → ℕ → ℕ → ℤ
edge_pixel image r c = pos (min (unsigned_abs (pos 9 *ℤ pixel image (r + 1) (c + 1) -ℤ square_sum image r c)) 255)

-- the kernels: ones; and 8 in the middle of -1
abbrev pub blur_kernel : Grid ℤ
blur_kernel = grid (3 ∷ 3 ∷ []) (pos 1 ∷ pos 1 ∷ pos 1 ∷ pos 1 ∷ pos 1 ∷ pos 1 ∷ pos 1 ∷ pos 1 ∷ pos 1 ∷ [])

abbrev pub edge_kernel : Grid ℤ
edge_kernel = grid (3 ∷ 3 ∷ []) (negsuc 0 ∷ negsuc 0 ∷ negsuc 0 ∷ negsuc 0 ∷ pos 8 ∷ negsuc 0 ∷ negsuc 0 ∷ negsuc 0 ∷ negsuc 0 ∷ [])

-- two rows and two columns fewer than the image, and these pixels
pub record HasInnerPixels (image : Grid ℤ) (value : ℕ → ℕ → ℤ) (made : Grid ℤ) : Type 0 where
  pub lengths : made.lengths ≡ (slice_index image.lengths 0 - 2) ∷ (slice_index image.lengths 1 - 2) ∷ []
  pub whole : IsGrid made
  pub pixels : (r c : ℕ) (z : ℤ) → cell made (r ∷ c ∷ []) ≡ Some z → z ≡ value r c
