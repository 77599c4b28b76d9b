-- Triangles keep the diagonal: `triu` up to k = 0 and `tril` from k = 0 on.
use Rattle.std.proofs.Common.{◌≡◌, ◌∙◌, ◌-◌, ◌<◌, ◌≤◌, ◌-ℤ◌, ℕ, ℤ, [], ◌∷◌, Bool, Some, true, length, pos, get_or, ap, arith, if◌then◌else◌, replicate, subst}
use Rattle.std.proofs.lemmas.Bool.{le-ltb}
use Rattle.std.proofs.lemmas.Int.{ints}
use Rattle.std.proofs.lemmas.List.{length-replicate}
use Rattle.ndarray.specs.Diagonals.{diagonal_of, shortest}
use Rattle.ndarray.specs.Grid.{Grid, IsGrid, cell, tabulate}
use Rattle.ndarray.specs.Triangles.{column_minus_row, diagonals_kept}
use Rattle.ndarray.proofs.boxes.Boxes.{InBox-get}
use Rattle.ndarray.proofs.callers.Triangles.{kept-cell}
use Rattle.ndarray.proofs.cells.Cells.{tabulate-same}
use Rattle.ndarray.proofs.views.DiagonalViews.{InBox-alike, get_or-alike}

-- at equal indices the column is the row
on-diagonal : (n i : ℕ) → 2 ≤ n → column_minus_row (replicate n i) ≡ pos 0
on-diagonal n i axes =
    let l = length-replicate n i in
    let column : get_or (replicate n i) (length (replicate n i) - 1) 0 ≡ i = ap (λ m. get_or (replicate n i) (m - 1) 0) l ∙ get_or-alike n i (n - 1) (omega arith) in
    let row : get_or (replicate n i) (length (replicate n i) - 2) 0 ≡ i = ap (λ m. get_or (replicate n i) (m - 2) 0) l ∙ get_or-alike n i (n - 2) (omega arith) in
    ap (λ c. pos c -ℤ pos (get_or (replicate n i) (length (replicate n i) - 2) 0)) column ∙ (ap (λ r. pos i -ℤ pos r) row ∙ (let e : pos i -ℤ pos i ≡ pos 0 = omega (arith, ints) in e))

-- where the test of column less row passes on the diagonal, that stays
pub kept-diagonal : {A : Type 0} (keeps : ℤ → Bool) (zero : A) (g : Grid A) → 2 ≤ length g.lengths → IsGrid (diagonals_kept keeps zero g) → keeps (pos 0) ≡ true → diagonal_of (diagonals_kept keeps zero g) ≡ diagonal_of g
kept-diagonal keeps zero g axes whole passes =
    let d = diagonals_kept keeps zero g in
    let lengths : d.lengths ≡ g.lengths = ap (λ t. (if t then g else tabulate g.lengths (λ is. if keeps (column_minus_row is) then cell g is else Some zero)).lengths) (le-ltb (length g.lengths) 2 axes) in
    tabulate-same (shortest d.lengths ∷ []) (shortest g.lengths ∷ []) (λ is. cell d (replicate (length d.lengths) (get_or is 0 0))) (λ is. cell g (replicate (length g.lengths) (get_or is 0 0)))
    (ap (λ ns. shortest ns ∷ []) lengths)
    (λ is b.
    let i : ℕ = get_or is 0 0 in
    let lt : i < shortest g.lengths = subst (λ ns. i < shortest ns) lengths (InBox-get (shortest d.lengths ∷ []) is 0 b (omega arith)) in
    ap (λ ns. cell d (replicate (length ns) i)) lengths
    ∙ kept-cell keeps zero g axes whole (replicate (length g.lengths) i) (InBox-alike g.lengths i lt) (ap keeps (on-diagonal (length g.lengths) i axes) ∙ passes))
