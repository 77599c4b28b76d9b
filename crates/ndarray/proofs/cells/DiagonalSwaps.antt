-- Diagonals of an array whose last two axes are exchanged.
use Rattle.std.proofs.Common.{◌≡◌, ◌-◌, ◌≤◌, ℕ, List, Some, Bool, true, false, length, get_or, set, swap, refl, sym, ◌∙◌, ap, arith, subst}
use Rattle.std.specs.Prelude.{ℤ, neg_ℤ, ◌≤ℤ◌, int_le, ◌&&◌, if◌then◌else◌}
use Rattle.std.proofs.Math.Bool.{and_comm}
use Rattle.std.proofs.lemmas.Bool.{false≢true, le-ltb}
use Rattle.std.proofs.lemmas.Float.{T_from_true}
use Rattle.std.proofs.lemmas.Int.{ints}
use Rattle.std.proofs.lemmas.List.{length-set, get_or-set_same, get_or-set_other}
use Rattle.std.proofs.lemmas.List.Edits.{length-swap, swap_is}
use Rattle.ndarray.specs.Grid.{Grid, IsGrid, cell, tabulate}
use Rattle.ndarray.specs.Index.{InBox}
use Rattle.ndarray.specs.Triangles.{column_minus_row, diagonals_kept}
use Rattle.ndarray.specs.Views.{axes_swapped}
use Rattle.ndarray.proofs.boxes.Boxes.{InBox-length}
use Rattle.ndarray.proofs.cells.Cells.{tabulate-cell, tabulate-same}
use Rattle.ndarray.proofs.cells.Diagonals.{int_le-false, int_le-true, kept_at}
use Rattle.ndarray.proofs.lists.Elements.{swap-swap}
use Rattle.ndarray.proofs.views.Swaps.{InBox-swap}

-- the last index of a list in the place of the one before it
module _ (is : List ℕ) (axes : 2 ≤ length is) where
  abbrev p : ℕ
  p = length is - 2

  abbrev q : ℕ
  q = length is - 1

  pub diagonal-swapped : column_minus_row (swap is (length is - 2) (length is - 1)) ≡ neg_ℤ (column_minus_row is)
  diagonal-swapped =
      let once : List ℕ = set is p (get_or is q 0) in
      let e : set once q (get_or is p 0) ≡ swap is p q = swap_is is p q 0 (omega arith) (omega arith) in
      let l : length (swap is p q) ≡ length is = length-swap is p q in
      let m : length once ≡ length is = length-set is p (get_or is q 0) in
      let column : get_or (swap is p q) q 0 ≡ get_or is p 0 = ap (λ js. get_or js q 0) (sym e) ∙ get_or-set_same once q (get_or is p 0) 0 (omega arith) in
      let row : get_or (swap is p q) p 0 ≡ get_or is q 0 =
      ap (λ js. get_or js p 0) (sym e) ∙ (get_or-set_other once q p (get_or is p 0) 0 (λ same. omega arith) ∙ get_or-set_same is p (get_or is q 0) 0 (omega arith)) in
      rw (l, column, row) (omega (arith, ints))

-- what is kept of the diagonals in the other direction, of the array with its last two axes exchanged, and these exchanged back
module _ {A : Type 0} (keeps mirrored : ℤ → Bool) (mirror : (d : ℤ) → mirrored (neg_ℤ d) ≡ keeps d) (zero_cell : A) (g h r : Grid A) (p q : ℕ) (axes : 2 ≤ length g.lengths) (first : p ≡ length g.lengths - 2) (last : q ≡ length g.lengths - 1) (swapped : h ≡ axes_swapped g p q) (whole : IsGrid h) (kept : r ≡ diagonals_kept mirrored zero_cell h) (full : IsGrid r) where
  abbrev ns : List ℕ
  ns = g.lengths

  lengths : h.lengths ≡ swap ns p q
  lengths = ap (λ k. k.lengths) swapped

  tabulated : r ≡ tabulate h.lengths (kept_at mirrored zero_cell h)
  tabulated =
      let many : length h.lengths ≡ length ns = ap length lengths ∙ length-swap ns p q in
      kept ∙ ap (λ t. if t then h else tabulate h.lengths (kept_at mirrored zero_cell h)) (le-ltb (length h.lengths) 2 (omega (arith, many, axes)))

  same-at : (is : List ℕ) → InBox ns is → cell r (swap is p q) ≡ kept_at keeps zero_cell g is
  same-at is b =
      let l : length is ≡ length ns = InBox-length ns is b in
      let back : swap (swap is p q) p q ≡ is = swap-swap is p q (omega (arith, l, first, axes)) (omega (arith, l, last, axes)) in
      let there : InBox h.lengths (swap is p q) = subst (λ ms. InBox ms (swap is p q)) (sym lengths) (InBox-swap ns is p q (omega (arith, first, axes)) (omega (arith, last, axes)) b) in
      let of_h : cell h (swap is p q) ≡ cell g is =
      ap (λ k. cell k (swap is p q)) swapped
      ∙ (tabulate-cell (swap ns p q) (λ js. cell g (swap js p q)) (swap is p q) (subst IsGrid swapped whole) (subst (λ ms. InBox ms (swap is p q)) lengths there) ∙ ap (cell g) back) in
      let turned : column_minus_row (swap is p q) ≡ neg_ℤ (column_minus_row is) =
      ap (λ k. column_minus_row (swap is k q)) (first ∙ ap (λ n. n - 2) (sym l)) ∙ (ap (λ k. column_minus_row (swap is (length is - 2) k)) (last ∙ ap (λ n. n - 1) (sym l)) ∙ diagonal-swapped is (omega (arith, l, axes))) in
      ap (λ k. cell k (swap is p q)) tabulated
      ∙ (tabulate-cell h.lengths (kept_at mirrored zero_cell h) (swap is p q) (subst IsGrid tabulated full) there
      ∙ (ap (λ d. if mirrored d then cell h (swap is p q) else Some zero_cell) turned
      ∙ (ap (λ t. if t then cell h (swap is p q) else Some zero_cell) (mirror (column_minus_row is))
      ∙ ap (λ c. if keeps (column_minus_row is) then c else Some zero_cell) of_h)))

  pub diagonals-swapped : axes_swapped r p q ≡ diagonals_kept keeps zero_cell g
  diagonals-swapped =
      let back : swap r.lengths p q ≡ ns = ap (λ k. swap k.lengths p q) tabulated ∙ (ap (λ ms. swap ms p q) lengths ∙ swap-swap ns p q (omega (arith, first, axes)) (omega (arith, last, axes))) in
      tabulate-same (swap r.lengths p q) ns (λ is. cell r (swap is p q)) (kept_at keeps zero_cell g) back (λ is b. same-at is (subst (λ ms. InBox ms is) back b))
      ∙ sym (ap (λ t. if t then g else tabulate ns (kept_at keeps zero_cell g)) (le-ltb (length ns) 2 axes))

-- bounds of diagonals in the other direction
pub between-mirrored : (first last d : ℤ) → (int_le (neg_ℤ last) (neg_ℤ d) && int_le (neg_ℤ d) (neg_ℤ first)) ≡ (int_le first d && int_le d last)
between-mirrored first last d = and_comm (int_le (neg_ℤ last) (neg_ℤ d)) (int_le (neg_ℤ d) (neg_ℤ first)) ∙ (ap (λ t. t && int_le (neg_ℤ last) (neg_ℤ d)) (negated d first) ∙ ap (λ t. int_le first d && t) (negated last d))
  where
    negated : (x y : ℤ) → int_le (neg_ℤ x) (neg_ℤ y) ≡ int_le y x
    negated x y = decided (int_le y x) refl
      where
        below : (a b : ℤ) → int_le a b ≡ true → a ≤ℤ b
        below a b e = record { le = T_from_true (int_le a b) e }

        decided : (t : Bool) → int_le y x ≡ t → int_le (neg_ℤ x) (neg_ℤ y) ≡ int_le y x
        decided true e = int_le-true (neg_ℤ x) (neg_ℤ y) (let h = below y x e in omega (arith, ints, h)) ∙ sym e
        decided false e = int_le-false (neg_ℤ x) (neg_ℤ y) (λ h. false≢true (sym e ∙ int_le-true y x (omega (arith, ints, h)))) ∙ sym e
