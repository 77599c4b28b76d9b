-- A test of each window says what it says of all positions.
use Rattle.std.proofs.Common.{◌≡◌, ◌∙◌, ℕ, List, Bool, false, Some, ap, rules, subst, sym}
use Rattle.std.specs.Prelude.{ℤ, pos, IsTrue, ◌↔◌}
use Rattle.ndarray.specs.Convolution.{TestsProducts, single_steps, valid_counts, window_products}
use Rattle.ndarray.specs.Grid.{Grid, array_by, cell}
use Rattle.ndarray.specs.Index.{InBox}
use Rattle.ndarray.specs.Integers.{int_products, int_sums}
use Rattle.ndarray.specs.Products.{magnitude_sum, products_of}
use Rattle.ndarray.specs.Subviews.{window}
use Rattle.ndarray.specs.Sums.{IsSummable}
use Rattle.ndarray.proofs.cells.Cells.{array_by-cell, cell-inside}

module _ {A : Type 0} (g m k : Grid A) (same : k ≡ m) (ws : Grid (Grid A)) (is_windows : ws ≡ array_by (valid_counts g.lengths m.lengths) (window g m.lengths (single_steps g.lengths))) (i : List ℕ) (x : Grid A) (shown : cell ws i ≡ Some x) where
  window-is : x ≡ window g m.lengths (single_steps g.lengths) i
  window-is =
      let inside : InBox (valid_counts g.lengths m.lengths) i = subst (λ v. InBox v.lengths i) is_windows (cell-inside ws i x shown) in
      let there : cell ws i ≡ Some (window g m.lengths (single_steps g.lengths) i) = ap (λ v. cell v i) is_windows ∙ array_by-cell (valid_counts g.lengths m.lengths) (window g m.lengths (single_steps g.lengths)) i inside in
      cc

  -- a window has the lengths of what it is tested with
  pub window-lengths : x.lengths ≡ k.lengths
  window-lengths = ap (λ w. w.lengths) window-is ∙ sym (ap (λ w. w.lengths) same)

  -- at the window at a position the test is of the products there
  pub test-at : (value : A → ℤ) (fits : ℤ → Type 0) (r : Bool) → TestsProducts value fits x.cells k.cells r
      → (IsTrue r ↔ fits (pos (magnitude_sum (window_products int_products value g m i)))) × (IsTrue r → IsSummable int_sums fits (window_products int_products value g m i))
  test-at value fits r test =
      let products : products_of int_products value x.cells k.cells ≡ window_products int_products value g m i =
      ap (λ w. products_of int_products value w.cells k.cells) window-is ∙ ap (λ w. products_of int_products value (window g m.lengths (single_steps g.lengths) i).cells w.cells) same in
      subst (λ l. (IsTrue r ↔ fits (pos (magnitude_sum l))) × (IsTrue r → IsSummable int_sums fits l)) products test

pub not_true : (P : Type 0) → IsTrue false ↔ P → P → ⊥
not_true P h p = let off : IsTrue false = h.1 p in absurd (search rules)
