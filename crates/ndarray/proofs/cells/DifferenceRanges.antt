-- Differences of whole numbers along an axis, of which each that is taken is tested.
use Rattle.std.proofs.Common.{◌≡◌, ◌∙◌, ℕ, ℤ, zero, suc, ◌+◌, ◌-◌, ◌<◌, ◌⊎◌, List, Some, ap, arith, get_or, inl, inr, length, refl, set, subst, sym}
use Rattle.std.specs.Prelude.{◌-ℤ◌, ◌↔◌}
use Rattle.std.proofs.lemmas.Bool.{cases_lt}
use Rattle.std.proofs.lemmas.List.{get_or-set_same, set-get_or}
use Rattle.ndarray.specs.AlongAxis.{CanDiffer, IsDifferenceOf, one_further}
use Rattle.ndarray.specs.AlongAxisRanges.{HasDifferencesInRange, SubtractsAlong}
use Rattle.ndarray.specs.Grid.{Grid, IsGrid, cell}
use Rattle.ndarray.specs.Index.{InBox, size}
use Rattle.ndarray.specs.Views.{axis_part}
use Rattle.ndarray.proofs.boxes.Boxes.{InBox-get, InBox-length, InBox-set_both}
use Rattle.ndarray.proofs.callers.Differences.{differ-without_cells}
use Rattle.ndarray.proofs.cells.Cells.{cell-Some, cell-inside, tabulate-cell}
use Rattle.ndarray.proofs.cells.Differences.{neighbours-at, part-lengths}

-- ---- two parts of an axis, one place apart

module _ {A : Type 0} (g view later earlier : Grid A) (k rest : ℕ) (below : k < length g.lengths) (long : rest + 1 ≡ get_or g.lengths k 0) (same : view ≡ g)
    (is_later : later ≡ axis_part view k 1 (1 + rest)) (is_earlier : earlier ≡ axis_part view k 0 (0 + rest)) (whole_l : IsGrid later) (whole_e : IsGrid earlier) where
  -- an index list with a next one lies in the parts
  inside-part : (is : List ℕ) → InBox g.lengths is → InBox g.lengths (one_further k is) → InBox (set g.lengths k rest) is
  inside-part is b next =
      let lt = InBox-get g.lengths (one_further k is) k next below in
      let own = get_or-set_same is k (get_or is k 0 + 1) 0 (let l = InBox-length g.lengths is b in omega (arith, l, below)) in
      subst (InBox (set g.lengths k rest)) (set-get_or is k 0) (InBox-set_both g.lengths is k rest (get_or is k 0) b (omega (arith, lt, own, long)))

  -- the cell that a part has there
  part-at : (part : Grid A) (from : ℕ) → part ≡ axis_part view k from (from + rest) → IsGrid part → (is : List ℕ) → InBox (set g.lengths k rest) is → cell part is ≡ cell g (set is k (from + get_or is k 0))
  part-at part from is_part whole is b =
      let inside : InBox (axis_part view k from (from + rest)).lengths is = subst (λ ns. InBox ns is) (sym (part-lengths g view (axis_part view k from (from + rest)) k from rest same refl)) b in
      ap (λ h. cell h is) is_part ∙ (tabulate-cell (set view.lengths k (from + rest - from)) (λ js. cell view (set js k (from + get_or js k 0))) is (subst IsGrid is_part whole) inside ∙ ap (λ h. cell h (set is k (from + get_or is k 0))) same)

  -- what holds of the cells of both parts holds of each two neighbours
  pub each-neighbours : (P : A → A → Type 0) → ((is : List ℕ) (y x : A) → cell later is ≡ Some y → cell earlier is ≡ Some x → P y x) ↔ ((is : List ℕ) (y x : A) → cell g (one_further k is) ≡ Some y → cell g is ≡ Some x → P y x)
  each-neighbours P = (
    λ all is y x p q.
        let b = inside-part is (cell-inside g is x q) (cell-inside g (one_further k is) y p) in
        let next : 1 + get_or is k 0 ≡ get_or is k 0 + 1 = omega arith in
        let here : 0 + get_or is k 0 ≡ get_or is k 0 = omega arith in
        all is y x
        (part-at later 1 is_later whole_l is b ∙ (ap (λ n. cell g (set is k n)) next ∙ p))
        (part-at earlier 0 is_earlier whole_e is b ∙ (ap (λ n. cell g (set is k n)) here ∙ (ap (cell g) (set-get_or is k 0) ∙ q))),
    λ each is y x p q. (let at = neighbours-at g view later earlier k rest same is_later is_earlier whole_l whole_e is y x p q in each is y x at.0 at.1),
  )

-- ---- differences of elements and of their numbers

module _ {A : Type 0} (number : A → ℤ) (fits : ℤ → Type 0) (axis : ℕ) (g : Grid A) where
  -- the difference of two numbers
  abbrev Subtracts : A → A → A → Type 0
  Subtracts y x r = number r ≡ number y -ℤ number x

  fewer : (n : ℕ) → HasDifferencesInRange number fits axis (suc n) g → HasDifferencesInRange number fits axis n g
  fewer n range = λ k h is y x lt d p q. range k h is y x (omega (arith, lt)) d p q

  -- of order 0 nothing is subtracted
  pub no-differences : HasDifferencesInRange number fits axis 0 g
  no-differences = λ k h is y x lt d p q. absurd (omega (arith, lt))

  pub range-without_cells : (n : ℕ) → size g.lengths ≡ 0 → axis < length g.lengths → (n ≡ 0) ⊎ (n < get_or g.lengths axis 0) → HasDifferencesInRange number fits axis n g
  range-without_cells = differ-without_cells (λ y x. fits (number y -ℤ number x)) Subtracts axis g

  -- what is asked of the neighbours in a difference that is taken on the way
  pub range-needed : (m n : ℕ) (h : Grid A) → HasDifferencesInRange number fits axis m g → n < m → IsDifferenceOf Subtracts axis n g h → SubtractsAlong number fits axis h
  range-needed m n h range lt d = λ is y x p q. range n h is y x lt d p q

  -- two differences of the same order have the same numbers
  module _ (whole : IsGrid g) where
    numbers-same : (n : ℕ) (h f : Grid A) → IsDifferenceOf Subtracts axis n g h → IsDifferenceOf Subtracts axis n g f
        → IsGrid h × (h.lengths ≡ f.lengths) × ((is : List ℕ) (x y : A) → cell h is ≡ Some x → cell f is ≡ Some y → number x ≡ number y)
    numbers-same zero h f d e = (
      subst IsGrid (sym d) whole,
      ap (λ w. w.lengths) (d ∙ sym e),
      λ is x y p q. (let same : Some x ≡ Some y = sym p ∙ (ap (λ w. cell w is) (d ∙ sym e) ∙ q) in let own : x ≡ y = cc in ap number own),
    )
    numbers-same (suc n) h f d e =
        let (s, before, last) = d in
        let (t, also, end) = e in
        let (whole_s, lengths, cells) = numbers-same n s t before also in (
          last.whole,
          last.lengths ∙ (ap (λ ns. set ns axis (get_or ns axis 0 - 1)) lengths ∙ sym end.lengths),
          λ is x y p q.
              let (b, a, next, here, is_x) = last.cells is x p in
              let (u, w, there, then, is_y) = end.cells is y q in
              is_x ∙ (ap (λ z. z -ℤ number a) (cells (one_further axis is) b u next there) ∙ (ap (λ z. number u -ℤ z) (cells is a w here then) ∙ sym is_y)),
        )

    -- the next order may be taken where the neighbours have passed
    pub range-next : (n : ℕ) (h : Grid A) → HasDifferencesInRange number fits axis n g → IsDifferenceOf Subtracts axis n g h → SubtractsAlong number fits axis h → HasDifferencesInRange number fits axis (n + 1) g
    range-next n h range d passed = λ k f is y x lt e p q.
        elim (cases_lt k n) [
          | inl below ↦ range k f is y x below e p q
          | inr least ↦
              let same : k ≡ n = omega (arith, lt, least) in
              let (whole_h, lengths, cells) = numbers-same n h f d (subst (λ m. IsDifferenceOf Subtracts axis m g f) same e) in
              let (v, at_v) = cell-Some h whole_h (one_further axis is) (subst (λ ns. InBox ns (one_further axis is)) (sym lengths) (cell-inside f (one_further axis is) y p)) in
              let (w, at_w) = cell-Some h whole_h is (subst (λ ns. InBox ns is) (sym lengths) (cell-inside f is x q)) in
              subst (λ z. fits (z -ℤ number x)) (cells (one_further axis is) v y at_v p) (subst (λ z. fits (number v -ℤ z)) (cells is w x at_w q) (passed is v w at_v at_w))
        ]

  module _ (gives : A → A → A → Type 0) (exact : (y x r : A) → gives y x r → fits (number y -ℤ number x) → number r ≡ number y -ℤ number x) where
    -- a difference of elements has the differences of their numbers
    pub of-numbers : (n : ℕ) (h : Grid A) → HasDifferencesInRange number fits axis n g → IsDifferenceOf gives axis n g h → IsDifferenceOf Subtracts axis n g h
    of-numbers zero h range d = d
    of-numbers (suc n) h range d =
        let (s, before, last) = d in
        let numbers = of-numbers n s (fewer n range) before in (
          s,
          numbers,
          record {
            lengths = last.lengths;
            whole = last.whole;
            cells = λ is z at.
                let (y, x, next, here, given) = last.cells is z at in
                (y, x, next, here, exact y x z given (range n s is y x (omega arith) numbers next here));
          },
        )

    -- where each difference of numbers fits, each of elements is defined
    pub differ-in_range : (can : A → A → Type 0) → ((y x : A) → fits (number y -ℤ number x) → can y x) → (n : ℕ) → HasDifferencesInRange number fits axis n g → CanDiffer gives axis can n g
    differ-in_range can defined n range = λ k h is y x lt d p q.
        defined y x (range k h is y x lt (of-numbers k h (λ i f js b a le e r t. range i f js b a (omega (arith, le, lt)) e r t) d) p q)
