-- The products of the cells of two matrices, by the lists of their cells.
use Rattle.std.proofs.Common.{◌≡◌, ◌⊎◌, ◌∙◌, ◌∷◌, [], ◌<◌, ℕ, ℤ, List, ap, arith, get_or, inl, inr, length, map, pos, subst, sym}
use Rattle.std.specs.Prelude.{◌*ℤ◌, ◌↔◌, Contains}
use Rattle.std.proofs.lemmas.List.Elements.{All-contains_itself}
use Rattle.ndarray.specs.Grid.{Grid, IsGrid}
use Rattle.ndarray.specs.Index.{InBox, size}
use Rattle.ndarray.specs.Matrices.{Matrix}
use Rattle.ndarray.specs.Products.{HasProductsInRange, matrix_of, value_at, value_or}
use Rattle.ndarray.specs.reduce.SmallProducts.{HaveProductsInRange}
use Rattle.ndarray.specs.WholeValues.{whole_numbers}
use Rattle.ndarray.proofs.boxes.Boxes.{InBox-length, InBox-some}
use Rattle.ndarray.proofs.callers.EachCell.{at-each-cell, some-cell}
use Rattle.ndarray.proofs.cells.Cells.{cell-Some, cell-inside}
use Rattle.ndarray.proofs.cells.Matrices.{two-lengths}
use Rattle.ndarray.proofs.lists.Parts.{Contains-map, Contains-map_back}

-- a box of size 0 has no index list
none-inside : (ns : List ℕ) → length ns ≡ 2 → size ns ≡ 0 → (i j : ℕ) → i < get_or ns 0 0 → j < get_or ns 1 0 → ⊥
none-inside ns two none i j row column =
    let some = InBox-some ns (i ∷ j ∷ []) (subst (λ ms. InBox ms (i ∷ j ∷ [])) (sym (two-lengths ns two)) (row, (column, tt))) in
    omega (arith, some, none)

module _ {A : Type 0} (number : A → ℤ) (fits : ℤ → Type 0) where
  -- the matrix of an array's values has them at the index lists of the box, and only there
  module _ (g : Grid A) (whole : IsGrid g) (two : length g.lengths ≡ 2) where
    value-listed : (i j : ℕ) → i < get_or g.lengths 0 0 → j < get_or g.lengths 1 0 → Contains (map number g.cells) (value_at (whole_numbers number fits) g (i ∷ j ∷ []))
    value-listed i j row column =
        let inside : InBox g.lengths (i ∷ j ∷ []) = subst (λ ns. InBox ns (i ∷ j ∷ [])) (sym (two-lengths g.lengths two)) (row, (column, tt)) in
        let (x, at) = cell-Some g whole (i ∷ j ∷ []) inside in
        subst (Contains (map number g.cells)) (sym (ap (value_or number (pos 0)) at)) (Contains-map number g.cells x (at-each-cell g whole (Contains g.cells) (All-contains_itself g.cells) (i ∷ j ∷ []) x at))

    value-placed : (z : ℤ) → Contains (map number g.cells) z → (i : ℕ) × (j : ℕ) × (i < get_or g.lengths 0 0) × (j < get_or g.lengths 1 0) × (value_at (whole_numbers number fits) g (i ∷ j ∷ []) ≡ z)
    value-placed z there =
        let (x, listed, is) = Contains-map_back number g.cells z there in
        let (js, at) = some-cell g whole x listed in
        let inside = cell-inside g js x at in
        let long : js ≡ get_or js 0 0 ∷ get_or js 1 0 ∷ [] = two-lengths js (InBox-length g.lengths js inside ∙ two) in
        let (row, (column, end)) : InBox (get_or g.lengths 0 0 ∷ get_or g.lengths 1 0 ∷ []) (get_or js 0 0 ∷ get_or js 1 0 ∷ []) = subst (λ ns. InBox ns (get_or js 0 0 ∷ get_or js 1 0 ∷ [])) (two-lengths g.lengths two) (subst (InBox g.lengths) long inside) in
        (get_or js 0 0, get_or js 1 0, row, column, ap (λ ks. value_at (whole_numbers number fits) g ks) (sym long) ∙ (ap (value_or number (pos 0)) at ∙ is))

  module _ (g h : Grid A) (whole_g : IsGrid g) (whole_h : IsGrid h) (two_g : length g.lengths ≡ 2) (two_h : length h.lengths ≡ 2) where
    abbrev of : Grid A → Matrix ℤ
    of = matrix_of (whole_numbers number fits)

    -- so all products are those of the numbers of the two lists
    pub listed-products : HaveProductsInRange fits (map number g.cells) (map number h.cells) ↔ HasProductsInRange (whole_numbers number fits) (of g) (of h)
    listed-products = (
      λ lists i j k l row column below across. lists _ _ (value-listed g whole_g two_g i j row column) (value-listed h whole_h two_h k l below across),
      λ each x y there also.
          let (i, j, row, column, left) = value-placed g whole_g two_g x there in
          let (k, l, below, across, right) = value-placed h whole_h two_h y also in
          subst (λ z. fits (z *ℤ y)) left (subst (λ z. fits (value_at (whole_numbers number fits) g (i ∷ j ∷ []) *ℤ z)) right (each i j k l row column below across)),
    )

  -- where one of them has no cells, nothing is asked
  module _ (g h : Grid A) (two_g : length g.lengths ≡ 2) (two_h : length h.lengths ≡ 2) where
    pub no-products : (size g.lengths ≡ 0) ⊎ (size h.lengths ≡ 0) → HasProductsInRange (whole_numbers number fits) (matrix_of (whole_numbers number fits) g) (matrix_of (whole_numbers number fits) h)
    no-products (inl none) i j k l row column below across = absurd (none-inside g.lengths two_g none i j row column)
    no-products (inr none) i j k l row column below across = absurd (none-inside h.lengths two_h none k l below across)
