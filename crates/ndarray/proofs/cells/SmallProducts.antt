-- The entries of products of arrays whose cells are small.
use Rattle.std.proofs.Common.{◌≡◌, ◌-◌, ◌*◌, ◌≤◌, ℕ, List, [], ◌∷◌, Option, None, Some, All, arith, drop, insert, length, map, refl, subst, sym, take}
use Rattle.std.specs.Prelude.{ℤ, pos, negsuc, neg_ℤ, ◌≤ℤ◌, slice_index, unsigned_abs}
use Rattle.ndarray.specs.Grid.{Grid, IsGrid, cell, cells_by}
use Rattle.ndarray.specs.Index.{row_order}
use Rattle.ndarray.specs.Integers.{int_sums}
use Rattle.ndarray.specs.Matrices.{Matrix}
use Rattle.ndarray.specs.Products.{ShapesMultiply, lane_products, magnitude_sum, value_at, value_or}
use Rattle.ndarray.specs.reduce.SmallProducts.{AreUpTo, HaveSmallProducts}
use Rattle.ndarray.specs.Subviews.{lane}
use Rattle.ndarray.specs.Sums.{IsSummable}
use Rattle.ndarray.specs.WholeValues.{whole_numbers}
use Rattle.ndarray.proofs.boxes.Orders.{length-row_order}
use Rattle.ndarray.proofs.callers.EachCell.{at-each-cell}
use Rattle.ndarray.proofs.cells.EntryTests.{EntriesFit}
use Rattle.ndarray.proofs.lists.Elements.{all-found, length-filter_map-most, mapped-all}
use Rattle.ndarray.proofs.sums.SmallProducts.{small-entries, small-lists}

small-or : {A : Type 0} (P : ℤ → Type 0) (number : A → ℤ) (o : Option A) → P (pos 0) → ((x : A) → o ≡ Some x → P (number x)) → P (value_or number (pos 0) o)
small-or P number None zero each = zero
small-or P number (Some x) zero each = each x refl

-- what all cells have, those of a lane have
lane-each : {A : Type 0} (g : Grid A) → IsGrid g → (P : A → Type 0) → All P g.cells → (axis : ℕ) (js : List ℕ) → All P (lane g axis js).cells
unfolding cells_by row_order
lane-each g whole P all axis js = all-found P (λ is. cell g (insert js axis (slice_index is 0))) (row_order (slice_index g.lengths axis ∷ [])) (λ is x at. at-each-cell g whole P all (insert js axis (slice_index is 0)) x at)

length-lane : {A : Type 0} (g : Grid A) (axis : ℕ) (js : List ℕ) → length (lane g axis js).cells ≤ slice_index g.lengths axis
unfolding cells_by row_order
length-lane g axis js =
    let n = slice_index g.lengths axis in
    let found = length-filter_map-most (λ is. cell g (insert js axis (slice_index is 0))) (row_order (n ∷ [])) in
    let many = length-row_order (n ∷ []) in
    omega (arith, found, many)

module _ {A : Type 0} (number : A → ℤ) (fits : ℤ → Type 0) (between : (x y z : ℤ) → fits x → fits z → x ≤ℤ y → y ≤ℤ z → fits y) (zero_fits : fits (pos 0)) where
  -- the value at an index list, and that outside the box
  small-value : (g : Grid A) → IsGrid g → (m : ℕ) → AreUpTo fits m (map number g.cells) → (is : List ℕ) → fits (value_at (whole_numbers number fits) g is) × (unsigned_abs (value_at (whole_numbers number fits) g is) ≤ m)
  small-value g whole m up_to is =
      small-or (λ z. fits z × (unsigned_abs z ≤ m)) number (cell g is) (zero_fits, omega arith)
      (λ x at. at-each-cell g whole (λ y. fits (number y) × (unsigned_abs (number y) ≤ m)) (mapped-all (λ z. fits z × (unsigned_abs z ≤ m)) number g.cells up_to) is x at)

  -- of two matrices that have the values of two arrays
  pub small-products : ((m n : ℕ) → fits (negsuc m) → fits (pos n) → fits (neg_ℤ (pos n))) → (g h : Grid A) → IsGrid g → IsGrid h → (count : ℕ) → HaveSmallProducts fits count (map number g.cells) (map number h.cells)
      → (a b : Matrix ℤ) (to from : ℕ → ℕ → List ℕ) → ((i k : ℕ) → a.cell i k ≡ value_at (whole_numbers number fits) g (to i k)) → ((k j : ℕ) → b.cell k j ≡ value_at (whole_numbers number fits) h (from k j)) → count ≡ a.columns
      → EntriesFit fits a b
  small-products negated g h whole_g whole_h count small a b to from left right columns =
      small-entries fits between zero_fits negated a b small.left small.right
      (λ i k. subst (λ z. fits z × (unsigned_abs z ≤ small.left)) (sym (left i k)) (small-value g whole_g small.left small.left_up_to (to i k)))
      (λ k j. subst (λ z. fits z × (unsigned_abs z ≤ small.right)) (sym (right k j)) (small-value h whole_h small.right small.right_up_to (from k j)))
      (subst (λ n. fits (pos (n * (small.left * small.right)))) columns small.in_range)

  -- of each two lanes that meet in the product of arrays of any number of axes
  pub small-lanes : ((m n : ℕ) → fits (negsuc m) → fits (pos n) → fits (neg_ℤ (pos n))) → (a b : Grid A) → IsGrid a → IsGrid b → ShapesMultiply a.lengths b.lengths → HaveSmallProducts fits (slice_index a.lengths (length a.lengths - 1)) (map number a.cells) (map number b.cells)
      → (is : List ℕ) → fits (pos (magnitude_sum (lane_products (whole_numbers number fits) a b is))) × IsSummable int_sums fits (lane_products (whole_numbers number fits) a b is)
  small-lanes negated a b whole_a whole_b shapes small is =
      let Left : A → Type 0 = λ x. fits (number x) × (unsigned_abs (number x) ≤ small.left) in
      let Right : A → Type 0 = λ y. fits (number y) × (unsigned_abs (number y) ≤ small.right) in
      let row = lane a (length a.lengths - 1) (take (length a.lengths - 1) is) in
      let column = lane b (length b.lengths - 2) (drop (length a.lengths - 1) is) in
      let most = length-lane b (length b.lengths - 2) (drop (length a.lengths - 1) is) in
      small-lists fits between zero_fits negated number row.cells column.cells (slice_index a.lengths (length a.lengths - 1)) small.left small.right
      (lane-each a whole_a Left (mapped-all (λ z. fits z × (unsigned_abs z ≤ small.left)) number a.cells small.left_up_to) (length a.lengths - 1) (take (length a.lengths - 1) is))
      (lane-each b whole_b Right (mapped-all (λ z. fits z × (unsigned_abs z ≤ small.right)) number b.cells small.right_up_to) (length b.lengths - 2) (drop (length a.lengths - 1) is))
      (subst (λ n. length column.cells ≤ n) (sym shapes.inner) most) small.in_range
