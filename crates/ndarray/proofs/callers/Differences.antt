-- Differences along an axis that may be taken, and the one of order 1.
use Rattle.std.proofs.Common.{◌≡◌, ℕ, ◌<◌, ◌⊎◌, List, Some, length, get_or, subst, arith}
use Rattle.ndarray.specs.AlongAxis.{CanDiffer, IsDifference, IsDifferenceOf, one_further}
use Rattle.ndarray.specs.Grid.{Grid, cell}
use Rattle.ndarray.specs.Index.{size}
use Rattle.ndarray.proofs.cells.Cells.{cell-inside}
use Rattle.ndarray.proofs.cells.Differences.{no-index, order-at_most}
-- the lengths of a difference of any order, the neighbours in two parts of an array, and the difference of one order more
pub use Rattle.ndarray.proofs.cells.Differences.{difference-length, neighbours-at, next-difference}

module _ {A : Type 0} (can : A → A → Type 0) (gives : A → A → A → Type 0) (k : ℕ) (g : Grid A) where
  -- that of order 1, where it is defined on each two neighbours
  pub differ-once : ((is : List ℕ) (y x : A) → cell g (one_further k is) ≡ Some y → cell g is ≡ Some x → can y x) → CanDiffer gives k can 1 g
  differ-once defined = λ order h is y x before d p q.
      let none : order ≡ 0 = omega (arith, before) in
      let same : h ≡ g = subst (λ n. IsDifferenceOf gives k n g h) none d in
      defined is y x (subst (λ v. cell v (one_further k is) ≡ Some y) same p) (subst (λ v. cell v is ≡ Some x) same q)

  -- any of an array without cells, as nothing is subtracted
  pub differ-without_cells : (n : ℕ) → size g.lengths ≡ 0 → k < length g.lengths → (n ≡ 0) ⊎ (n < get_or g.lengths k 0) → CanDiffer gives k can n g
  differ-without_cells n none lt some = λ order h is y x before d p q.
      let le = order-at_most n (get_or g.lengths k 0) some in
      let empty = (difference-length gives k g order h lt (omega (arith, le, before)) d).2 none in
      absurd (no-index h empty is (cell-inside h is x q))

-- the difference of order 1 is that of the array itself
pub differed-once : {A : Type 0} (gives : A → A → A → Type 0) (k : ℕ) (g r : Grid A) → IsDifferenceOf gives k 1 g r → IsDifference gives k g r
differed-once gives k g r d = let (h, same, last) = d in subst (λ v. IsDifference gives k v r) same last
