-- Lower triangles that were made have zero above the diagonal, as matrices.
use Rattle.ndarray.proofs.Common.{◌≡◌, ◌∙◌, ◌∷◌, [], ap, arith, length, pos, subst, sym, int_le, ints, Grid, IsGrid, cell, InBox, column_minus_row, lower_triangle, matrix_of, value_or, cleared-cell, int_le-false, two-lengths}
use Rattle.ndarray.specs.TriangleLaws.{IsLower}
use Rattle.ndarray.specs.declared.elements.Valued.{Ghosts as ValuedGhosts}

pub lower-made : {A : Type 0} (e : ValuedGhosts A) (zero : A) → e.meaning zero ≡ e.addition.unit → (g r : Grid A) → length g.lengths ≡ 2 → r ≡ lower_triangle (pos 0) zero g → r.lengths ≡ g.lengths → IsGrid r
    → IsLower e.addition e.multiplication (matrix_of e r)
lower-made e zero none g r two made lengths whole i j l m below =
    let inside : InBox g.lengths (i ∷ j ∷ []) = subst (λ ns. InBox ns (i ∷ j ∷ [])) lengths (subst (λ ns. InBox ns (i ∷ j ∷ [])) (sym (two-lengths r.lengths (ap length lengths ∙ two))) (l, (m, tt))) in
    ap (value_or e.meaning e.addition.unit)
    (ap (λ h. cell h (i ∷ j ∷ [])) made
    ∙ cleared-cell (λ d. int_le d (pos 0)) zero g (omega (arith, two)) (subst IsGrid made whole) (i ∷ j ∷ []) inside (int_le-false (column_minus_row (i ∷ j ∷ [])) (pos 0) (λ le. omega (arith, ints))))
    ∙ none
