-- The product so far is that of the first numbers on the diagonal, and it and those before it are in range.
use Rattle.ndarray.proofs.Common.{◌≡◌, ◌≤◌, ℕ, FitsSigned, w64}
use Rattle.ndarray_examples.specs.RangeTests.{diagonal_product}
use Rattle.ndarray_examples.proofs.range_tests.determinant_of_triangle.Given as goal

abbrev pub invariant-loop-i : goal.invariant-loop-i
invariant-loop-i g l = (l.product ≡ diagonal_product l.a l.i) × ((n : ℕ) → n ≤ l.i → FitsSigned w64 (diagonal_product l.a n))
