-- Whether two arrays are the same, by a test of their elements.
use Rattle.std.proofs.Common.{◌≡◌, ◌∙◌, ◌&&◌, ℕ, Bool, true, false, List, [], ◌∷◌, map, Some, Option, refl, sym, subst, ap, nat_eq}
use Rattle.std.specs.Prelude.{IsTrue, ◌↔◌}
use Rattle.std.specs.Cmp.{first_so, second_so}
use Rattle.std.specs.Cmp.Lexicographic.{bytes_decides, nat_list_eq_equiv, pointwise, pointwise_decides}
use Rattle.std.specs.List.{list_all}
use Rattle.std.specs.Option.{option_eq}
use Rattle.ndarray.specs.Everyday.{same_arrays}
use Rattle.ndarray.specs.Grid.{Grid, IsGrid, cell, grid}
use Rattle.ndarray.specs.Index.{row_order}
use Rattle.ndarray.proofs.callers.RowOrder.{in_row}
use Rattle.ndarray.proofs.cells.Mapped.{in_row-of}

module _ {A : Type 0} (eq : A → A → Bool) where
  module _ (at bt : List ℕ → Option A) where
    -- the test at index lists is the test of what is there
    tests-along : (is : List (List ℕ)) (xs ys : List A) → map at is ≡ map Some xs → map bt is ≡ map Some ys → list_all (λ i. option_eq eq (at i) (bt i)) is ≡ pointwise eq xs ys
    tests-along [] [] [] d e = refl
    tests-along [] [] (y ∷ ys) d e = absurd (cc)
    tests-along [] (x ∷ xs) ys d e = absurd (cc)
    tests-along (i ∷ is) [] ys d e = absurd (cc)
    tests-along (i ∷ is) (x ∷ xs) [] d e = absurd (cc)
    tests-along (i ∷ is) (x ∷ xs) (y ∷ ys) d e =
        let first : at i ≡ Some x = cc in
        let second : bt i ≡ Some y = cc in
        let here : option_eq eq (at i) (bt i) ≡ eq x y = λ j. option_eq eq (first j) (second j) in
        let rest : list_all (λ i. option_eq eq (at i) (bt i)) is ≡ pointwise eq xs ys = tests-along is xs ys (cc) (cc) in
        λ j. here j && rest j

  -- of arrays of one shape that is the test along the box
  pub same-tested : (g k : Grid A) → IsGrid g → IsGrid k → k.lengths ≡ g.lengths → list_all (λ i. option_eq eq (cell g i) (cell k i)) (row_order g.lengths) ≡ same_arrays eq g k
  same-tested g k whole second same =
      let shapes : pointwise nat_eq g.lengths k.lengths ≡ true = subst (λ ns. pointwise nat_eq g.lengths ns ≡ true) (sym same) (nat_list_eq_equiv.refl g.lengths) in
      tests-along (cell g) (cell k) (row_order g.lengths) g.cells k.cells (in_row g whole) (in_row-of k g.lengths second same)
      ∙ sym (ap (λ b. b && pointwise eq g.cells k.cells) shapes)

  -- and arrays of two shapes are not the same
  pub differ-in_shape : (g k : Grid A) → pointwise nat_eq g.lengths k.lengths ≡ false → same_arrays eq g k ≡ false
  differ-in_shape g k other = ap (λ b. b && pointwise eq g.cells k.cells) other

  -- where the test tells whether two elements are the same one, this tells whether the arrays are
  pub same-decides : ((x y : A) → IsTrue (eq x y) ↔ (x ≡ y)) → (g k : Grid A) → IsTrue (same_arrays eq g k) ↔ (g ≡ k)
  same-decides decides g k =
      let shapes = bytes_decides g.lengths k.lengths in
      let elements = pointwise_decides {E = eq} decides g.cells k.cells in (
        λ yes.
            let ns = shapes.0 (first_so (pointwise nat_eq g.lengths k.lengths) (pointwise eq g.cells k.cells) yes) in
            let xs = elements.0 (second_so (pointwise nat_eq g.lengths k.lengths) (pointwise eq g.cells k.cells) yes) in
            (λ i. grid (ns i) (xs i)),
        λ same. (λ i. shapes.1 (ap (λ v. v.lengths) same) i && elements.1 (ap (λ v. v.cells) same) i),
      )
