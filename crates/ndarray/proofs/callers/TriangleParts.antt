-- An array from its two triangles.
use Rattle.std.proofs.Common.{◌≡◌, ◌∙◌, ℕ, List, Some, inl, inr, ap, subst, sym}
use Rattle.ndarray.specs.Elementwise.{Combines}
use Rattle.ndarray.specs.Grid.{Grid, IsGrid, array_by, cell}
use Rattle.ndarray.specs.Index.{InBox}
use Rattle.ndarray.specs.Laws.{ArePartsOf, IsKeptOnce}
use Rattle.ndarray.specs.Products.{value_or}
use Rattle.ndarray.proofs.callers.Elementwise.{combine-follows}
use Rattle.ndarray.proofs.cells.Cells.{array_by-cell, array_by-whole, cell-inside, cell-Some, same_grid}

module _ {A : Type 0} (zero : A) (g u l : Grid A) (parts : ArePartsOf zero g u l) where
  pub parts-same : u.lengths ≡ l.lengths
  parts-same = parts.upper_lengths ∙ sym parts.lower_lengths

  -- what an operator makes of the two is the array, of an operation that gives x of x and zero, in either order
  pub parts-combine : IsGrid g → (gives : A → A → A → Type 0) → ((x z : A) → gives x zero z → z ≡ x) → ((x z : A) → gives zero x z → z ≡ x) → (r : Grid A) → Combines u l gives r → r ≡ g
  parts-combine whole gives right left r made =
      combine-follows u l parts.upper_whole parts.lower_whole parts-same gives r at each made
      ∙ same_grid (array_by u.lengths at) g (array_by-whole u.lengths at) whole parts.upper_lengths
      (λ is b.
      let (x, there) = cell-Some g whole is (subst (λ ns. InBox ns is) parts.upper_lengths b) in
      array_by-cell u.lengths at is b ∙ (ap (λ o. Some (value_or (λ y. y) zero o)) there ∙ sym there))
    where
      at : List ℕ → A
      at is = value_or (λ y. y) zero (cell g is)

      one-of : (is : List ℕ) (x y z : A) → cell u is ≡ Some x → cell l is ≡ Some y → gives x y z → IsKeptOnce zero g u l is → z ≡ at is
      one-of is x y z p q given (inl (kept, none)) =
          let last : y ≡ zero = cc in
          right x z (subst (λ w. gives x w z) last given) ∙ ap (value_or (λ w. w) zero) (sym p ∙ kept)
      one-of is x y z p q given (inr (none, kept)) =
          let first : x ≡ zero = cc in
          left y z (subst (λ w. gives w y z) first given) ∙ ap (value_or (λ w. w) zero) (sym q ∙ kept)

      each : (is : List ℕ) (x y z : A) → cell u is ≡ Some x → cell l is ≡ Some y → gives x y z → z ≡ at is
      each is x y z p q given = one-of is x y z p q given (parts.once is (subst (λ ns. InBox ns is) parts.upper_lengths (cell-inside u is x p)))
