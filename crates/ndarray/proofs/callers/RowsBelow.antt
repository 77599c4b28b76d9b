-- A row put under a table: the table joined along the first axis with the row as a table of one row.
use Rattle.std.proofs.Common.{◌≡◌, ◌∙◌, ◌+◌, ◌-◌, ◌<◌, ℕ, Bool, true, false, if◌then◌else◌, List, [], ◌∷◌, Option, Some, None, ap, arith, drop, refl, subst, sym}
use Rattle.std.specs.Prelude.{nat_lt, slice_index}
use Rattle.std.proofs.lemmas.Bool.{ltb-false}
use Rattle.ndarray.specs.Grid.{Grid, IsGrid, array_by, cell}
use Rattle.ndarray.specs.Index.{InBox}
use Rattle.ndarray.specs.Joining.{concatenation, concatenation_cell, concatenation_lengths}
use Rattle.ndarray.specs.Views.{axis_inserted}
use Rattle.ndarray.proofs.callers.Broadcasting.{axis_inserted-cell}
use Rattle.ndarray.proofs.callers.Elementwise.{array_by-follows}
use Rattle.ndarray.proofs.cells.Cells.{cell-inside, tabulate-cell}

module _ {A : Type 0} (g row : Grid A) (n : ℕ) (whole : IsGrid row) (long : g.lengths ≡ n ∷ row.lengths) where
  inserted : (js : List ℕ) → InBox row.lengths js → cell (axis_inserted row 0) (0 ∷ js) ≡ cell row js
  inserted js b = axis_inserted-cell row whole 0 (omega arith) (0 ∷ js) (omega arith, b)

  lengths : concatenation_lengths 0 (g.lengths ∷ (1 ∷ row.lengths) ∷ []) ≡ (n + 1) ∷ row.lengths
  lengths = ap (λ ns. concatenation_lengths 0 (ns ∷ (1 ∷ row.lengths) ∷ [])) long ∙ ap (λ k. k ∷ row.lengths) (omega arith)

  -- the cell at an index list, by whether the row is one of the table's
  named : ℕ → ℕ → List ℕ → Bool → Option A
  named k i js t = if t then cell g (i ∷ js) else if nat_lt (i - k) 1 then cell (axis_inserted row 0) ((i - k) ∷ js) else None

  module _ (upper lower : List ℕ → A) (above : (is : List ℕ) (x : A) → cell g is ≡ Some x → x ≡ upper is) (below : (js : List ℕ) (x : A) → cell row js ≡ Some x → x ≡ lower js) where
    by : (i : ℕ) (js : List ℕ) (z : A) → i < n + 1 → InBox row.lengths js → (t : Bool) → nat_lt i n ≡ t → named n i js t ≡ Some z → z ≡ (if t then upper (i ∷ js) else lower js)
    unfolding named
    by i js z lt b true on seen = above (i ∷ js) z seen
    by i js z lt b false off seen =
        let least = ltb-false i n off in
        let first : i - n ≡ 0 = omega (arith, lt, least) in
        below js z (sym (inserted js b) ∙ subst (λ k. (if nat_lt k 1 then cell (axis_inserted row 0) (k ∷ js) else None) ≡ Some z) first seen)

    cells : (r : Grid A) → IsGrid r → r ≡ concatenation 0 (g ∷ axis_inserted row 0 ∷ []) → (is : List ℕ) (z : A) → cell r is ≡ Some z → z ≡ (if nat_lt (slice_index is 0) n then upper is else lower (drop 1 is))
    unfolding named
    cells r made e [] z there = absurd (subst (λ ns. InBox ns []) (ap (λ v. v.lengths) e ∙ lengths) (cell-inside r [] z there))
    cells r made e (i ∷ js) z there =
        let inside = cell-inside r (i ∷ js) z there in
        let b : InBox ((n + 1) ∷ row.lengths) (i ∷ js) = subst (λ ns. InBox ns (i ∷ js)) (ap (λ v. v.lengths) e ∙ lengths) inside in
        let at : concatenation_cell 0 (g ∷ axis_inserted row 0 ∷ []) (i ∷ js) ≡ Some z =
        sym (tabulate-cell (concatenation_lengths 0 (g.lengths ∷ (1 ∷ row.lengths) ∷ [])) (concatenation_cell 0 (g ∷ axis_inserted row 0 ∷ [])) (i ∷ js) (subst IsGrid e made) (subst (λ v. InBox v.lengths (i ∷ js)) e inside))
        ∙ (ap (λ v. cell v (i ∷ js)) (sym e) ∙ there) in
        let seen : named n i js (nat_lt i n) ≡ Some z = ap (λ k. named k i js (nat_lt i k)) (sym (ap (λ ns. slice_index ns 0) long)) ∙ at in
        by i js z b.0 b.1 (nat_lt i n) refl seen

    -- The table joined with the row is the array that has the table's cells, and below them those of the row.
    pub row-below : (r : Grid A) → IsGrid r → r ≡ concatenation 0 (g ∷ axis_inserted row 0 ∷ []) → r ≡ array_by ((n + 1) ∷ row.lengths) (λ is. if nat_lt (slice_index is 0) n then upper is else lower (drop 1 is))
    row-below r made e = array_by-follows r ((n + 1) ∷ row.lengths) (λ is. if nat_lt (slice_index is 0) n then upper is else lower (drop 1 is)) made (ap (λ v. v.lengths) e ∙ lengths) (cells r made e)
