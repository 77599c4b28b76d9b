-- The ranges of the sums of a product, tested row by row and column by column.
use Rattle.std.proofs.Common.{◌≡◌, ◌∙◌, ◌↔◌, ◌-◌, ◌<◌, ◌⊎◌, ℕ, ℤ, pos, List, [], ◌∷◌, All, ap, arith, drop, get_or, inl, inr, insert, length, refl, remove, subst, sym, take}
use Rattle.std.proofs.lemmas.Bool.{cases_eq}
use Rattle.ndarray.specs.Algebra.{CommutativeMonoid}
use Rattle.ndarray.specs.DotRanges.{HasInnerMagnitudeInRange, HasInnerSumInRange, HasLaneMagnitudesInRange}
use Rattle.ndarray.specs.Grid.{Grid}
use Rattle.ndarray.specs.Index.{InBox, size}
use Rattle.ndarray.specs.Integers.{int_products, int_sums}
use Rattle.ndarray.specs.Products.{HasLaneSumsInRange, ShapesMultiply, magnitude_sum, product_lengths, products_of}
use Rattle.ndarray.specs.Subviews.{lane}
use Rattle.ndarray.specs.Sums.{IsSummable}
use Rattle.ndarray.specs.WholeValues.{whole_numbers}
use Rattle.ndarray.proofs.boxes.Boxes.{InBox-some}
use Rattle.ndarray.proofs.cells.LaneCells.{no-lane}
use Rattle.ndarray.proofs.cells.LanePairs.{EachColumn, at-index_list, inner, last, of-rows_and_columns, parts, rows_of}
use Rattle.ndarray.proofs.views.Items.{InBox-insert}

-- one axis has no index where there is no index list, but one of the others
pub none-along : (ns js : List ℕ) (k : ℕ) → k < length ns → size ns ≡ 0 → InBox (remove ns k) js → get_or ns k 0 ≡ 0
none-along ns js k lt none inside = elim (cases_eq (get_or ns k 0) 0) [
  | inl zero ↦ zero
  | inr some ↦ (let positive = InBox-some ns (insert js k 0) (InBox-insert ns js k 0 lt (omega arith) inside) in absurd (omega (arith, positive, none)))
]

products-with_none : {A C : Type 0} (times : CommutativeMonoid C) (value : A → C) (xs : List A) → products_of times value xs [] ≡ []
products-with_none times value [] = refl
products-with_none times value (x ∷ xs) = refl

module _ {A : Type 0} (a b : Grid A) (shapes : ShapesMultiply a.lengths b.lengths) where
  -- where one of the arrays has no cells, there are no products
  no-products : {C : Type 0} (times : CommutativeMonoid C) (value : A → C) → (size a.lengths ≡ 0) ⊎ (size b.lengths ≡ 0) → (is : List ℕ) → InBox (product_lengths a.lengths b.lengths) is
      → products_of times value (lane a (length a.lengths - 1) (take (length a.lengths - 1) is)).cells (lane b (length b.lengths - 2) (drop (length a.lengths - 1) is)).cells ≡ []
  no-products times value none is inside =
      let (first, second) = parts a b shapes is inside in
      let xs = (lane a (length a.lengths - 1) (take (length a.lengths - 1) is)).cells in
      let ys = (lane b (length b.lengths - 2) (drop (length a.lengths - 1) is)).cells in
      elim none [
        | inl left ↦ ap (λ l. products_of times value l ys) (no-lane a (length a.lengths - 1) _ (none-along a.lengths _ (length a.lengths - 1) (last a b shapes) left first))
        | inr right ↦ ap (products_of times value xs) (no-lane b (length b.lengths - 2) _ (none-along b.lengths _ (length b.lengths - 2) (inner a b shapes) right second)) ∙ products-with_none times value xs
      ]

  -- ---- the tests of the ranges of a product

  module _ (number : A → ℤ) (fits : ℤ → Type 0) where
    pub magnitudes-exact : All (EachColumn (HasInnerMagnitudeInRange number fits) b) (rows_of a).cells ↔ HasLaneMagnitudesInRange number fits a b
    magnitudes-exact = (
      λ all is inside. (at-index_list a b shapes (HasInnerMagnitudeInRange number fits) all is inside).1,
      λ each. of-rows_and_columns a b shapes (HasInnerMagnitudeInRange number fits) (λ is inside. (ap (λ n. n ∷ []) shapes.inner, each is inside)),
    )

    pub sums-all : All (EachColumn (HasInnerSumInRange number fits) b) (rows_of a).cells → HasLaneSumsInRange (whole_numbers number fits) a b
    sums-all all is inside = at-index_list a b shapes (HasInnerSumInRange number fits) all is inside

    module _ (zero : fits (pos 0)) (none : (size a.lengths ≡ 0) ⊎ (size b.lengths ≡ 0)) where
      pub magnitudes-none : HasLaneMagnitudesInRange number fits a b
      magnitudes-none is inside = subst (λ zs. fits (pos (magnitude_sum zs))) (sym (no-products int_products number none is inside)) zero

      pub sums-none : HasLaneSumsInRange (whole_numbers number fits) a b
      sums-none is inside = subst (IsSummable int_sums fits) (sym (no-products int_products number none is inside)) (λ _. zero)
