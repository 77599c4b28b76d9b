-- Triangles of triangles, and products of triangular matrices.
use Rattle.std.proofs.Common.{◌≡◌, ◌∙◌, ◌≤◌, ◌<◌, ◌⊎◌, inl, inr, ℕ, zero, suc, Bool, true, false, if◌then◌else◌, List, length, Some, ap, refl, sym, arith, subst}
use Rattle.std.specs.Prelude.{ℤ, pos, negsuc, ◌-ℤ◌, ◌≤ℤ◌, ◌<ℤ◌, ◌&&◌, int_le}
use Rattle.std.specs.Int.{int_max, int_min}
use Rattle.std.proofs.lemmas.Bool.{lt-ltb}
use Rattle.std.proofs.lemmas.Int.{int_max_is, int_min_is, ints}
use Rattle.ndarray.specs.Algebra.{CommutativeMonoid}
use Rattle.ndarray.specs.Grid.{Grid, IsGrid, cell, tabulate}
use Rattle.ndarray.specs.Index.{InBox}
use Rattle.ndarray.specs.TriangleLaws.{LowerMatricesMultiply, LowerTrianglesMeet, TrianglesCommute, UpperTrianglesMeet}
use Rattle.ndarray.specs.Triangles.{column_minus_row, diagonals_kept}
use Rattle.ndarray.proofs.algebra.MatrixProducts.{sum_same, sum_zero}
use Rattle.ndarray.proofs.algebra.Triangles.{triangle-is, triangle-whole}
use Rattle.ndarray.proofs.callers.Triangles.{cleared-cell, int_le-false, int_le-true, kept-cell}
use Rattle.ndarray.proofs.cells.Cells.{tabulate-is}
use Rattle.ndarray.proofs.cells.Diagonals.{kept_at}

pub two-or-fewer : (n : ℕ) → (n < 2) ⊎ (2 ≤ n)
two-or-fewer zero = inl (omega arith)
two-or-fewer (suc zero) = inl (omega arith)
two-or-fewer (suc (suc n)) = inr (omega arith)

-- the diagonals that two tests keep, one after the other, are those that both keep
module _ {A : Type 0} (first second both : ℤ → Bool) (meet : (d : ℤ) → both d ≡ (first d && second d)) (zero_cell : A) (g : Grid A) (whole : IsGrid g) where
  pub kept-twice : diagonals_kept first zero_cell (diagonals_kept second zero_cell g) ≡ diagonals_kept both zero_cell g
  kept-twice = elim (two-or-fewer (length g.lengths)) [
    | inl few ↦
        let itself : (keeps : ℤ → Bool) → diagonals_kept keeps zero_cell g ≡ g =
        λ keeps. ap (λ t. if t then g else tabulate g.lengths (kept_at keeps zero_cell g)) (lt-ltb (length g.lengths) 2 few) in
        ap (diagonals_kept first zero_cell) (itself second) ∙ (itself first ∙ sym (itself both))
    | inr axes ↦ kept axes
  ]
    where
      kept : 2 ≤ length g.lengths → diagonals_kept first zero_cell (diagonals_kept second zero_cell g) ≡ diagonals_kept both zero_cell g
      kept axes = tabulate-is twice g.lengths (kept_at both zero_cell g) twice_whole (lengths_twice ∙ lengths_once) (λ is b. each is (subst (λ ns. InBox ns is) (lengths_twice ∙ lengths_once) b) (first (column_minus_row is)) (second (column_minus_row is)) refl refl)
          ∙ sym (triangle-is both zero_cell g axes)
        where
          once : Grid A
          once = diagonals_kept second zero_cell g

          lengths_once : once.lengths ≡ g.lengths
          lengths_once = ap (λ h. h.lengths) (triangle-is second zero_cell g axes)

          axes_once : 2 ≤ length once.lengths
          axes_once = subst (λ ns. 2 ≤ length ns) (sym lengths_once) axes

          whole_once : IsGrid once
          whole_once = triangle-whole second zero_cell g axes whole

          twice : Grid A
          twice = diagonals_kept first zero_cell once

          lengths_twice : twice.lengths ≡ once.lengths
          lengths_twice = ap (λ h. h.lengths) (triangle-is first zero_cell once axes_once)

          twice_whole : IsGrid twice
          twice_whole = triangle-whole first zero_cell once axes_once whole_once

          -- the answer of both tests
          answer : (is : List ℕ) (a b : Bool) → first (column_minus_row is) ≡ a → second (column_minus_row is) ≡ b → both (column_minus_row is) ≡ (a && b)
          answer is a b e f = meet (column_minus_row is) ∙ (ap (λ t. t && second (column_minus_row is)) e ∙ ap (λ t. a && t) f)

          each : (is : List ℕ) → InBox g.lengths is → (a b : Bool) → first (column_minus_row is) ≡ a → second (column_minus_row is) ≡ b → cell twice is ≡ kept_at both zero_cell g is
          each is box true true e f =
              kept-cell first zero_cell once axes_once twice_whole is (subst (λ ns. InBox ns is) (sym lengths_once) box) e
              ∙ (kept-cell second zero_cell g axes whole_once is box f
              ∙ sym (ap (λ t. if t then cell g is else Some zero_cell) (answer is true true e f)))
          each is box true false e f =
              kept-cell first zero_cell once axes_once twice_whole is (subst (λ ns. InBox ns is) (sym lengths_once) box) e
              ∙ (cleared-cell second zero_cell g axes whole_once is box f
              ∙ sym (ap (λ t. if t then cell g is else Some zero_cell) (answer is true false e f)))
          each is box false b e f =
              cleared-cell first zero_cell once axes_once twice_whole is (subst (λ ns. InBox ns is) (sym lengths_once) box) e
              ∙ sym (ap (λ t. if t then cell g is else Some zero_cell) (answer is false b e f))

-- a test passes or fails
pub passes-or_fails : (k d : ℤ) → ((int_le k d ≡ true) × (k ≤ℤ d)) ⊎ ((int_le k d ≡ false) × (d <ℤ k))
passes-or_fails k d = sign (d -ℤ k) refl
  where
    sign : (z : ℤ) → z ≡ d -ℤ k → ((int_le k d ≡ true) × (k ≤ℤ d)) ⊎ ((int_le k d ≡ false) × (d <ℤ k))
    sign (pos n) e = let up : k ≤ℤ d = omega (arith, ints, e) in inl (int_le-true k d up, up)
    sign (negsuc n) e = let down : d <ℤ k = omega (arith, ints, e) in inr (int_le-false k d (λ h. omega (arith, ints, down, h)), down)

above-both : (k l d : ℤ) → int_le (int_max k l) d ≡ (int_le k d && int_le l d)
above-both k l d = each (passes-or_fails k d) (passes-or_fails l d)
  where
    each : ((int_le k d ≡ true) × (k ≤ℤ d)) ⊎ ((int_le k d ≡ false) × (d <ℤ k)) → ((int_le l d ≡ true) × (l ≤ℤ d)) ⊎ ((int_le l d ≡ false) × (d <ℤ l)) → int_le (int_max k l) d ≡ (int_le k d && int_le l d)
    each (inl a) (inl b) =
        let up = a.1 in
        let also = b.1 in
        int_le-true (int_max k l) d (omega (arith, ints, int_max_is k l, up, also)) ∙ sym (ap (λ t. t && int_le l d) a.0 ∙ ap (λ t. true && t) b.0)
    each (inl a) (inr b) =
        let down = b.1 in
        int_le-false (int_max k l) d (λ h. omega (arith, ints, int_max_is k l, down, h)) ∙ sym (ap (λ t. t && int_le l d) a.0 ∙ ap (λ t. true && t) b.0)
    each (inr a) b =
        let down = a.1 in
        int_le-false (int_max k l) d (λ h. omega (arith, ints, int_max_is k l, down, h)) ∙ sym (ap (λ t. t && int_le l d) a.0)

below-both : (k l d : ℤ) → int_le d (int_min k l) ≡ (int_le d k && int_le d l)
below-both k l d = each (passes-or_fails d k) (passes-or_fails d l)
  where
    each : ((int_le d k ≡ true) × (d ≤ℤ k)) ⊎ ((int_le d k ≡ false) × (k <ℤ d)) → ((int_le d l ≡ true) × (d ≤ℤ l)) ⊎ ((int_le d l ≡ false) × (l <ℤ d)) → int_le d (int_min k l) ≡ (int_le d k && int_le d l)
    each (inl a) (inl b) =
        let up = a.1 in
        let also = b.1 in
        int_le-true d (int_min k l) (omega (arith, ints, int_min_is k l, up, also)) ∙ sym (ap (λ t. t && int_le d l) a.0 ∙ ap (λ t. true && t) b.0)
    each (inl a) (inr b) =
        let down = b.1 in
        int_le-false d (int_min k l) (λ h. omega (arith, ints, int_min_is k l, down, h)) ∙ sym (ap (λ t. t && int_le d l) a.0 ∙ ap (λ t. true && t) b.0)
    each (inr a) b =
        let down = a.1 in
        int_le-false d (int_min k l) (λ h. omega (arith, ints, int_min_is k l, down, h)) ∙ sym (ap (λ t. t && int_le d l) a.0)

module _ {A : Type 0} where
  pub upper-triangles_meet : UpperTrianglesMeet A
  upper-triangles_meet zero_cell k l g whole = kept-twice (λ d. int_le k d) (λ d. int_le l d) (λ d. int_le (int_max k l) d) (above-both k l) zero_cell g whole

  pub lower-triangles_meet : LowerTrianglesMeet A
  lower-triangles_meet zero_cell k l g whole = kept-twice (λ d. int_le d k) (λ d. int_le d l) (λ d. int_le d (int_min k l)) (below-both k l) zero_cell g whole

  pub triangles-commute : TrianglesCommute A
  triangles-commute zero_cell k l g whole =
      kept-twice (λ d. int_le k d) (λ d. int_le d l) (λ d. int_le k d && int_le d l) (λ d. refl) zero_cell g whole
      ∙ sym (kept-twice (λ d. int_le d l) (λ d. int_le k d) (λ d. int_le k d && int_le d l) (λ d. turned (int_le k d) (int_le d l)) zero_cell g whole)
    where
      turned : (a b : Bool) → (a && b) ≡ (b && a)
      turned true true = refl
      turned true false = refl
      turned false true = refl
      turned false false = refl

module _ {C : Type 0} (plus times : CommutativeMonoid C) (absorbs : (x : C) → times.op plus.unit x ≡ plus.unit) where
  pub lower-matrices_multiply : LowerMatricesMultiply plus times
  lower-matrices_multiply a b inner left right i j l m less =
      sum_same plus a.columns (λ k. times.op (a.cell i k) (b.cell k j)) (λ _. plus.unit) (λ k h. each k h (before i k)) ∙ sum_zero plus a.columns
    where
      before : (i k : ℕ) → (i < k) ⊎ (k ≤ i)
      before zero zero = inr (omega arith)
      before zero (suc k) = inl (omega arith)
      before (suc i) zero = inr (omega arith)
      before (suc i) (suc k) = elim (before i k) [
        | inl lt ↦ inl (omega (arith, lt))
        | inr le ↦ inr (omega (arith, le))
      ]

      each : (k : ℕ) → k < a.columns → (i < k) ⊎ (k ≤ i) → times.op (a.cell i k) (b.cell k j) ≡ plus.unit
      each k h (inl above) = ap (λ t. times.op t (b.cell k j)) (left i k l h above) ∙ absorbs (b.cell k j)
      each k h (inr le) =
          ap (times.op (a.cell i k)) (right k j (subst (λ n. k < n) inner h) m (omega (arith, le, less)))
          ∙ (times.commutes (a.cell i k) plus.unit ∙ absorbs (a.cell i k))
