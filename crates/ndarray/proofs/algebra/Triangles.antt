-- Two triangles that have each cell once between them.
use Rattle.std.proofs.Common.{◌≡◌, ◌∙◌, ◌≤◌, ◌⊎◌, inl, inr, ℕ, Bool, true, false, if◌then◌else◌, List, length, map, Some, ap, sym, arith, subst}
use Rattle.std.specs.Prelude.{ℤ, pos, negsuc, ◌-ℤ◌, ◌≤ℤ◌, ◌<ℤ◌, int_le}
use Rattle.std.proofs.lemmas.Bool.{le-ltb}
use Rattle.std.proofs.lemmas.Int.{ints}
use Rattle.ndarray.specs.Algebra.{CommutativeMonoid}
use Rattle.ndarray.specs.Grid.{Grid, IsGrid, cell, cells_by, tabulate}
use Rattle.ndarray.specs.Index.{row_order}
use Rattle.ndarray.specs.Sums.{total, total_by}
use Rattle.ndarray.specs.Triangles.{column_minus_row, diagonals_kept}
use Rattle.ndarray.proofs.callers.Triangles.{cleared-cell, int_le-false, int_le-true, kept-cell}
use Rattle.ndarray.proofs.cells.Cells.{along-row_order}
use Rattle.ndarray.proofs.cells.Diagonals.{kept_at, length-all_kept}
use Rattle.ndarray.specs.Laws.{TriangleSumsAddUp, TrianglesPart}
use Rattle.ndarray.proofs.algebra.Totals.{op_unit, total-plus, total-same, total_by-filter_map, value_of}

either-sign : (z : ℤ) → (pos 0 ≤ℤ z) ⊎ (z <ℤ pos 0)
either-sign (pos n) = inl (omega (arith, ints))
either-sign (negsuc n) = inr (omega (arith, ints))

-- of the two tests exactly one passes
pub one-passes : (k d : ℤ) → ((int_le k d ≡ true) × (int_le d (k -ℤ pos 1) ≡ false)) ⊎ ((int_le k d ≡ false) × (int_le d (k -ℤ pos 1) ≡ true))
one-passes k d = elim (either-sign (d -ℤ k)) [
  | inl up ↦ inl (int_le-true k d (omega (arith, ints, up)), int_le-false d (k -ℤ pos 1) (λ h. omega (arith, ints, up, h)))
  | inr down ↦ inr (int_le-false k d (λ h. omega (arith, ints, down, h)), int_le-true d (k -ℤ pos 1) (omega (arith, ints, down)))
]

module _ {A : Type 0} (keeps : ℤ → Bool) (zero : A) (g : Grid A) (axes : 2 ≤ length g.lengths) where
  pub triangle-is : diagonals_kept keeps zero g ≡ tabulate g.lengths (kept_at keeps zero g)
  triangle-is = ap (λ t. if t then g else tabulate g.lengths (kept_at keeps zero g)) (le-ltb (length g.lengths) 2 axes)

  pub triangle-whole : IsGrid g → IsGrid (diagonals_kept keeps zero g)
  unfolding cells_by
  triangle-whole whole = subst IsGrid (sym triangle-is) (length-all_kept keeps zero g whole)

  pub triangle-total : {C : Type 0} (M : CommutativeMonoid C) (value : A → C) → total_by M value (diagonals_kept keeps zero g).cells ≡ total M (map (λ is. value_of M value (kept_at keeps zero g is)) (row_order g.lengths))
  unfolding cells_by
  triangle-total M value = ap (λ h. total_by M value h.cells) triangle-is ∙ total_by-filter_map M value (kept_at keeps zero g) (row_order g.lengths)

pub triangles_part : {A : Type 0} → TrianglesPart A
triangles_part {A} k zero g whole axes = record {
  upper_lengths = ap (λ h. h.lengths) (triangle-is (λ d. int_le k d) zero g axes);
  lower_lengths = ap (λ h. h.lengths) (triangle-is (λ d. int_le d (k -ℤ pos 1)) zero g axes);
  upper_whole = upper;
  lower_whole = lower;
  once = λ is b. elim (one-passes k (column_minus_row is)) [
    | inl t ↦ inl (kept-cell (λ d. int_le k d) zero g axes upper is b t.0, cleared-cell (λ d. int_le d (k -ℤ pos 1)) zero g axes lower is b t.1)
    | inr t ↦ inr (cleared-cell (λ d. int_le k d) zero g axes upper is b t.0, kept-cell (λ d. int_le d (k -ℤ pos 1)) zero g axes lower is b t.1)
  ];
}
  where
    upper : IsGrid (diagonals_kept (λ d. int_le k d) zero g)
    upper = triangle-whole (λ d. int_le k d) zero g axes whole

    lower : IsGrid (diagonals_kept (λ d. int_le d (k -ℤ pos 1)) zero g)
    lower = triangle-whole (λ d. int_le d (k -ℤ pos 1)) zero g axes whole

pub triangle_sums : {A C : Type 0} (M : CommutativeMonoid C) (value : A → C) → TriangleSumsAddUp M value
triangle_sums {A} {C} M value k zero g neutral whole axes =
    ap (λ t. M.op t (total_by M value (diagonals_kept (λ d. int_le d (k -ℤ pos 1)) zero g).cells)) (triangle-total (λ d. int_le k d) zero g axes M value)
    ∙ (ap (M.op (total M (map upper (row_order g.lengths)))) (triangle-total (λ d. int_le d (k -ℤ pos 1)) zero g axes M value)
    ∙ (sym (total-plus M upper lower (row_order g.lengths))
    ∙ (total-same M (λ is. M.op (upper is) (lower is)) (λ is. value_of M value (cell g is)) (row_order g.lengths) (λ is. each is (one-passes k (column_minus_row is)))
    ∙ (sym (total_by-filter_map M value (cell g) (row_order g.lengths)) ∙ ap (total_by M value) (along-row_order g whole)))))
  where
    upper : List ℕ → C
    upper is = value_of M value (kept_at (λ d. int_le k d) zero g is)

    lower : List ℕ → C
    lower is = value_of M value (kept_at (λ d. int_le d (k -ℤ pos 1)) zero g is)

    both : Bool → Bool → List ℕ → C
    both a b is = M.op (value_of M value (if a then cell g is else Some zero)) (value_of M value (if b then cell g is else Some zero))

    each : (is : List ℕ) → ((int_le k (column_minus_row is) ≡ true) × (int_le (column_minus_row is) (k -ℤ pos 1) ≡ false)) ⊎ ((int_le k (column_minus_row is) ≡ false) × (int_le (column_minus_row is) (k -ℤ pos 1) ≡ true))
        → M.op (upper is) (lower is) ≡ value_of M value (cell g is)
    each is (inl t) =
        ap (λ a. both a (int_le (column_minus_row is) (k -ℤ pos 1)) is) t.0
        ∙ (ap (λ b. both true b is) t.1
        ∙ (ap (M.op (value_of M value (cell g is))) neutral ∙ op_unit M (value_of M value (cell g is))))
    each is (inr t) =
        ap (λ a. both a (int_le (column_minus_row is) (k -ℤ pos 1)) is) t.0
        ∙ (ap (λ b. both false b is) t.1
        ∙ (ap (λ u. M.op u (value_of M value (cell g is))) neutral ∙ M.unit_op (value_of M value (cell g is))))
