-- Differences of running sums of whole numbers are in range where every selection of the numbers has its sum in range.
use Rattle.std.proofs.Common.{set}
use Rattle.std.proofs.lemmas.List.{get_or-set_same, length-set, set-get_or, set-set}
use Rattle.ndarray.proofs.Common.{◌≡◌, ◌∙◌, ◌+◌, ◌-◌, ◌-ℤ◌, ◌<◌, [], ◌∷◌, ℕ, ℤ, All, All-cons, All-nil, List, Some, ap, arith, at_front, false, true, get_or, int_sums, ints, length, op_unit, refl, select-none, subst, sym, total, Grid, IsGrid, InBox, InBox-get, InBox-length, InBox-set_both, array_by, array_by-at, array_by-cell, array_by-whole, at-each-cell, axis_part, cell, cell-inside, cell-Some, tabulate-cell}
use Rattle.ndarray.specs.AlongAxis.{IsDifference, one_further}
use Rattle.ndarray.specs.ScanLaws.{DifferencesGiveBack, HasRunningTotals}
use Rattle.ndarray.specs.Sums.{IsSummable}
use Rattle.ndarray_examples.specs.Callers.{whole_number}
use Rattle.ndarray_examples.proofs.SameValues.{rest-whole}

summable-all : (fits : ℤ → Type 0) (xs : List ℤ) → IsSummable int_sums fits xs → All fits xs
summable-all fits [] s = All-nil fits
summable-all fits (x ∷ xs) s =
    All-cons fits x xs (subst fits (ap (λ l. int_sums.op x (total int_sums l)) (select-none xs) ∙ op_unit int_sums x) (s (at_front true (λ _. false)))) (summable-all fits xs (λ keep. s (at_front false keep)))

module _ (fits : ℤ → Type 0) (a sums : Grid ℤ) (k : ℕ) (whole : IsGrid a) (lt : k < length a.lengths) (running : HasRunningTotals int_sums (λ x. x) k a sums)
    (law : DifferencesGiveBack int_sums (λ x. x) (λ y x z. z ≡ y -ℤ x)) (each : IsSummable int_sums fits a.cells) where
  now : k < length sums.lengths
  now = subst (λ ns. k < length ns) (sym running.lengths) lt

  abbrev m : ℕ
  m = get_or sums.lengths k 0

  abbrev at : List ℕ → ℤ
  at is = whole_number (cell sums (one_further k is)) -ℤ whole_number (cell sums is)

  abbrev d : Grid ℤ
  d = array_by (set sums.lengths k (m - 1)) at

  both-inside : (is : List ℕ) → InBox (set sums.lengths k (m - 1)) is → InBox sums.lengths is × InBox sums.lengths (one_further k is)
  both-inside is b =
      let many = length-set sums.lengths k (m - 1) in
      let low = InBox-get (set sums.lengths k (m - 1)) is k b (omega (arith, many, now)) in
      let room = get_or-set_same sums.lengths k (m - 1) 0 now in
      let back : set (set sums.lengths k (m - 1)) k m ≡ sums.lengths = set-set sums.lengths k (m - 1) m ∙ set-get_or sums.lengths k 0 in (
        subst (InBox sums.lengths) (set-get_or is k 0) (subst (λ ns. InBox ns (set is k (get_or is k 0))) back (InBox-set_both (set sums.lengths k (m - 1)) is k m (get_or is k 0) b (omega (arith, low, room)))),
        subst (λ ns. InBox ns (set is k (get_or is k 0 + 1))) back (InBox-set_both (set sums.lengths k (m - 1)) is k m (get_or is k 0 + 1) b (omega (arith, low, room))),
      )

  differs : IsDifference (λ y x z. z ≡ y -ℤ x) k sums d
  differs = record {
    lengths = refl;
    whole = array_by-whole (set sums.lengths k (m - 1)) at;
    cells = λ is z here.
        let b : InBox (set sums.lengths k (m - 1)) is = cell-inside d is z here in
        let (x, before) = cell-Some sums running.whole is (both-inside is b).0 in
        let (y, after) = cell-Some sums running.whole (one_further k is) (both-inside is b).1 in
        (y, x, after, before, array_by-at (set sums.lengths k (m - 1)) at d is z refl b here ∙ (ap (λ o. whole_number o -ℤ whole_number (cell sums is)) after ∙ ap (λ o. y -ℤ whole_number o) before));
  }

  -- each difference of order 1
  pub difference-fits : (is : List ℕ) (y x : ℤ) → cell sums (one_further k is) ≡ Some y → cell sums is ≡ Some x → fits (y -ℤ x)
  difference-fits is y x after before =
      let b = cell-inside sums is x before in
      let long = InBox-length sums.lengths is b in
      let place = get_or-set_same is k (get_or is k 0 + 1) 0 (omega (arith, long, now)) in
      let below = InBox-get sums.lengths (one_further k is) k (cell-inside sums (one_further k is) y after) now in
      let inside : InBox (set sums.lengths k (m - 1)) is = subst (InBox (set sums.lengths k (m - 1))) (set-get_or is k 0) (InBox-set_both sums.lengths is k (m - 1) (get_or is k 0) b (omega (arith, place, below))) in
      let rest = rest-whole a k whole lt in
      let same = law (λ x y z e. omega (arith, ints, e)) (λ y x z e. omega (arith, ints, e)) k a sums d whole lt running differs in
      let own : InBox (set a.lengths k (get_or a.lengths k 0 - 1)) is = subst (λ ns. InBox ns is) same.lengths inside in
      let (w, there) = cell-Some (axis_part a k 1 (get_or a.lengths k 0)) rest is own in
      let here : cell d is ≡ Some (y -ℤ x) = array_by-cell (set sums.lengths k (m - 1)) at is inside ∙ ap Some (ap (λ o. whole_number o -ℤ whole_number (cell sums is)) after ∙ ap (λ o. y -ℤ whole_number o) before) in
      let seen = sym (tabulate-cell (set a.lengths k (get_or a.lengths k 0 - 1)) _ is rest own) ∙ there in
      subst fits (sym (same.values is (y -ℤ x) w here there)) (at-each-cell a whole fits (summable-all fits a.cells each) (set is k (1 + get_or is k 0)) w seen)
