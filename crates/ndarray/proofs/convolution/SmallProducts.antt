-- Convolutions of arrays whose cells are small.
use Rattle.std.proofs.Common.{◌+◌, ◌-◌, ◌≤◌, ℕ, List, arith, drop, length, map, reverse, subst, sym}
use Rattle.std.specs.Prelude.{ℤ, pos, negsuc, neg_ℤ, ◌≤ℤ◌, unsigned_abs}
use Rattle.std.proofs.lemmas.List.{length-drop, reverse-reverse}
use Rattle.std.proofs.lemmas.List.Elements.{All-drop}
use Rattle.ndarray.specs.Convolution.{convolution_products, single_steps, window_products}
use Rattle.ndarray.specs.Grid.{Grid, IsGrid, cell, cells_by}
use Rattle.ndarray.specs.Index.{row_order}
use Rattle.ndarray.specs.Integers.{int_products, int_sums}
use Rattle.ndarray.specs.Products.{magnitude_sum, products_of}
use Rattle.ndarray.specs.reduce.SmallProducts.{HaveSmallProducts}
use Rattle.ndarray.specs.Subviews.{window, window_index}
use Rattle.ndarray.specs.Sums.{IsSummable}
use Rattle.ndarray.proofs.callers.EachCell.{at-each-cell}
use Rattle.ndarray.proofs.convolution.Overlaps.{overlap-products}
use Rattle.ndarray.proofs.lists.Elements.{all-found, mapped-all}
use Rattle.ndarray.proofs.sums.SmallProducts.{small-lists}

module _ {A : Type 0} (v : A → ℤ) (fits : ℤ → Type 0) (between : (x y z : ℤ) → fits x → fits z → x ≤ℤ y → y ≤ℤ z → fits y) (zero_fits : fits (pos 0)) (negated : (m n : ℕ) → fits (negsuc m) → fits (pos n) → fits (neg_ℤ (pos n))) where
  -- at each position of a window
  pub small-windows : (g h : Grid A) → IsGrid g → HaveSmallProducts fits (length h.cells) (map v g.cells) (map v h.cells) → (ps : List ℕ)
      → fits (pos (magnitude_sum (window_products int_products v g h ps))) × IsSummable int_sums fits (window_products int_products v g h ps)
  unfolding cells_by row_order
  small-windows g h whole small ps =
      let P : A → Type 0 = λ x. fits (v x) × (unsigned_abs (v x) ≤ small.left) in
      small-lists fits between zero_fits negated v (window g h.lengths (single_steps g.lengths) ps).cells h.cells (length h.cells) small.left small.right
      (all-found P (λ js. cell g (window_index (single_steps g.lengths) ps js)) (row_order h.lengths)
      (λ js x at. at-each-cell g whole P (mapped-all (λ z. fits z × (unsigned_abs z ≤ small.left)) v g.cells small.left_up_to) (window_index (single_steps g.lengths) ps js) x at))
      (mapped-all (λ z. fits z × (unsigned_abs z ≤ small.right)) v h.cells small.right_up_to) (omega arith) small.in_range

  -- at each place of the full convolution of a vector and another seen from its other end
  pub small-overlaps : (xs zs : List A) → HaveSmallProducts fits (length zs) (map v xs) (map v zs) → (s : ℕ)
      → fits (pos (magnitude_sum (convolution_products int_products v xs (reverse zs) s))) × IsSummable int_sums fits (convolution_products int_products v xs (reverse zs) s)
  small-overlaps xs zs small s =
      let left = s + 1 - length (reverse zs) in
      let right = length (reverse zs) - (s + 1) in
      let P : ℕ → A → Type 0 = λ k x. fits (v x) × (unsigned_abs (v x) ≤ k) in
      let fewer : length (drop right zs) ≤ length zs = let l = length-drop right zs in omega (arith, l) in
      let made = small-lists fits between zero_fits negated v (drop left xs) (drop right zs) (length zs) small.left small.right
      (All-drop (P small.left) left xs (mapped-all (λ z. fits z × (unsigned_abs z ≤ small.left)) v xs small.left_up_to))
      (All-drop (P small.right) right zs (mapped-all (λ z. fits z × (unsigned_abs z ≤ small.right)) v zs small.right_up_to)) fewer small.in_range in
      subst (λ l. fits (pos (magnitude_sum l)) × IsSummable int_sums fits l) (overlap-products int_products v xs (reverse zs) s)
      (subst (λ ws. fits (pos (magnitude_sum (products_of int_products v (drop left xs) (drop right ws)))) × IsSummable int_sums fits (products_of int_products v (drop left xs) (drop right ws))) (sym (reverse-reverse zs)) made)
