-- The definitions at numbers.
use Rattle.std.proofs.Common.{◌≡◌, ℕ, ◌+◌, ◌*◌, List, [], ◌∷◌, refl, arith}
use Rattle.std.proofs.Math.Nat.{mul_assoc, mul_comm, one-mul}
use Rattle.ndarray.specs.Algebra.{CommutativeMonoid}
use Rattle.ndarray.specs.Convolution.{filtered, full_convolution, valid_convolution_by}
use Rattle.ndarray.specs.Grid.{Grid, grid, cell, cells_by}
use Rattle.ndarray.specs.Index.{row_order}
use Rattle.ndarray.proofs.convolution.Windows.{window_convolution_by}

abbrev sums : CommutativeMonoid ℕ
sums = record { unit = 0; op = ◌+◌; associates = λ a b c. omega arith; commutes = λ a b. omega arith; unit_op = λ a. omega arith }

abbrev products : CommutativeMonoid ℕ
products = record { unit = 1; op = ◌*◌; associates = mul_assoc; commutes = mul_comm; unit_op = one-mul }

abbrev full : List ℕ → List ℕ → List ℕ
full xs ys = full_convolution sums products xs ys

abbrev valid : Grid ℕ → Grid ℕ → Grid ℕ
valid g kernel = valid_convolution_by sums products (λ x. x) g kernel

full_one : full (1 ∷ 2 ∷ 3 ∷ []) (1 ∷ 1 ∷ []) ≡ 1 ∷ 3 ∷ 5 ∷ 3 ∷ []
full_one = refl

full_swapped : full (1 ∷ 1 ∷ []) (1 ∷ 2 ∷ 3 ∷ []) ≡ 1 ∷ 3 ∷ 5 ∷ 3 ∷ []
full_swapped = refl

full_three : full (full (1 ∷ 1 ∷ []) (1 ∷ 1 ∷ [])) (1 ∷ 1 ∷ []) ≡ 1 ∷ 3 ∷ 3 ∷ 1 ∷ []
full_three = refl

full_empty : full (1 ∷ 2 ∷ []) [] ≡ []
full_empty = refl

empty_full : full [] (1 ∷ 2 ∷ []) ≡ []
empty_full = refl

by_windows : window_convolution_by sums products (λ x. x) 0 (1 ∷ 2 ∷ 3 ∷ []) (1 ∷ 10 ∷ []) ≡ 1 ∷ 12 ∷ 23 ∷ 30 ∷ []
by_windows = refl

filtered_one : filtered sums products (1 ∷ 2 ∷ 3 ∷ 4 ∷ []) (1 ∷ 10 ∷ []) ≡ 12 ∷ 23 ∷ 34 ∷ []
filtered_one = refl

-- 1 to 9 in three rows, and a kernel of two rows: it is mirrored
valid_two : valid (grid (3 ∷ 3 ∷ []) (1 ∷ 2 ∷ 3 ∷ 4 ∷ 5 ∷ 6 ∷ 7 ∷ 8 ∷ 9 ∷ [])) (grid (2 ∷ 2 ∷ []) (1 ∷ 0 ∷ 0 ∷ 2 ∷ [])) ≡ grid (2 ∷ 2 ∷ []) (7 ∷ 10 ∷ 16 ∷ 19 ∷ [])
unfolding cell cells_by row_order
valid_two = refl

-- no axes
valid_none : valid (grid [] (3 ∷ [])) (grid [] (4 ∷ [])) ≡ grid [] (12 ∷ [])
unfolding cell cells_by row_order
valid_none = refl

-- an axis shorter than the kernel's
valid_short : valid (grid (1 ∷ 2 ∷ []) (3 ∷ 4 ∷ [])) (grid (2 ∷ 1 ∷ []) (1 ∷ 1 ∷ [])) ≡ grid (0 ∷ 2 ∷ []) []
unfolding cell cells_by row_order
valid_short = refl
