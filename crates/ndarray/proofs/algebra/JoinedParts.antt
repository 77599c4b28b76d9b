-- The parts of an array joined again, and the items of a stack.
use Rattle.std.proofs.Common.{◌≡◌, ◌∙◌, ℕ, ◌+◌, ◌-◌, ◌<◌, ◌≤◌, true, if◌then◌else◌, inl, inr, List, [], ◌∷◌, length, set, get_or, Option, None, ap, sym, refl, arith, subst, insert, remove}
use Rattle.std.specs.Prelude.{nat_lt, not, ◌&&◌, slice_get, option_and_then}
use Rattle.std.specs.List.{list_all}
use Rattle.std.proofs.lemmas.Bool.{cases_lt, le-ltb, lt-ltb, not_from_true}
use Rattle.std.proofs.lemmas.List.{get_or-set_same, length-map, length-set, set-get_or, set-set}
use Rattle.std.proofs.lemmas.Option.{slice_get-get_or, slice_get_within}
use Rattle.std.proofs.lemmas.List.Edits.{get_or-insert_at, length-insert}
use Rattle.ndarray.specs.Grid.{Grid, IsGrid, cell, same_index}
use Rattle.ndarray.specs.Index.{InBox}
use Rattle.ndarray.specs.Joining.{concatenate_error, concatenation, concatenation_cell, concatenation_lengths, is_same_but_along, is_within_limit, shapes_of, stack_cell, stack_of}
use Rattle.ndarray.specs.JoiningLaws.{ItemsOfStackAreParts, PartsCanBeJoined, PartsJoin, two_parts}
use Rattle.ndarray.specs.Limits.{IsWithinLimit}
use Rattle.ndarray.specs.Views.{axis_item, axis_part}
use Rattle.ndarray.proofs.algebra.Stacks.{may-stack, tabulate-whole}
use Rattle.ndarray.proofs.boxes.Boxes.{InBox-get, InBox-length, InBox-removed, InBox-set_both}
use Rattle.ndarray.proofs.cells.Cells.{cell-Some, tabulate-cell, tabulate-is}
use Rattle.ndarray.proofs.joining.Errors.{if-false, if-true}
use Rattle.ndarray.proofs.lists.CellLookup.{same_index-refl}
use Rattle.ndarray.proofs.lists.Elements.{remove-inserted}
use Rattle.ndarray.proofs.views.Items.{InBox-insert}

-- a list with the element at a place put there again
set-again : (xs : List ℕ) (k v w : ℕ) → v ≡ get_or xs k 0 → set (set xs k w) k v ≡ xs
set-again xs k v w e = set-set xs k w v ∙ (ap (set xs k) e ∙ set-get_or xs k 0)

module _ {A : Type 0} (g : Grid A) (axis index : ℕ) (lt : axis < length g.lengths) (most : index ≤ get_or g.lengths axis 0) where
  abbrev n : ℕ
  n = get_or g.lengths axis 0

  abbrev low : Grid A
  low = axis_part g axis 0 index

  abbrev high : Grid A
  high = axis_part g axis index n

  low-length : get_or low.lengths axis 0 ≡ index
  low-length = let all : index - 0 ≡ index = omega arith in get_or-set_same g.lengths axis (index - 0) 0 lt ∙ all

  high-length : get_or high.lengths axis 0 ≡ n - index
  high-length = get_or-set_same g.lengths axis (n - index) 0 lt

  -- the lengths of both parts joined are those of the array
  both-lengths : concatenation_lengths axis (shapes_of (two_parts g axis index)) ≡ g.lengths
  both-lengths =
      let a = low-length in
      let b = high-length in
      set-again g.lengths axis (0 + get_or low.lengths axis 0 + get_or high.lengths axis 0) (index - 0) (omega (arith, a, b, most))

  parts-allowed : IsWithinLimit g.lengths → list_all (is_same_but_along axis low.lengths) (high.lengths ∷ []) ≡ true
  parts-allowed limit =
      ap (λ ms. same_index low.lengths ms && true) (set-set g.lengths axis (n - index) (get_or low.lengths axis 0) ∙ (sym (set-set g.lengths axis (index - 0) (get_or low.lengths axis 0)) ∙ set-get_or low.lengths axis 0))
      ∙ ap (λ b. b && true) (same_index-refl low.lengths)

  pub parts-can_join : IsWithinLimit g.lengths → concatenate_error axis (shapes_of (two_parts g axis index)) ≡ None
  parts-can_join limit =
      let long = length-set g.lengths axis (index - 0) in
      if-false (not (nat_lt axis (length low.lengths))) _ _ (not_from_true _ (lt-ltb axis (length low.lengths) (omega (arith, long, lt))))
      ∙ (if-false (not (list_all (is_same_but_along axis low.lengths) (high.lengths ∷ []))) _ _ (not_from_true _ (parts-allowed limit))
      ∙ if-false (not (is_within_limit (concatenation_lengths axis (shapes_of (two_parts g axis index))))) _ _ (not_from_true _ (ap is_within_limit both-lengths ∙ lt-ltb _ _ limit)))

  module _ (whole : IsGrid g) where
    -- a part has the cell of the array, at the index along the axis counted from where it begins
    part-cell : (from to : ℕ) → from ≤ to → to ≤ n → (is : List ℕ) → InBox g.lengths is → (i : ℕ) → from + i ≡ get_or is axis 0 → i < to - from → cell (axis_part g axis from to) (set is axis i) ≡ cell g is
    part-cell from to up within is b i e below =
        let long = InBox-length g.lengths is b in
        let made : IsGrid (axis_part g axis from to) = tabulate-whole (set g.lengths axis (to - from)) (λ js. cell g (set js axis (from + get_or js axis 0)))
        (λ js inside. cell-Some g whole (set js axis (from + get_or js axis 0)) (back js inside)) in
        tabulate-cell (set g.lengths axis (to - from)) (λ js. cell g (set js axis (from + get_or js axis 0))) (set is axis i) made (InBox-set_both g.lengths is axis (to - from) i b below)
        ∙ ap (cell g) (set-again is axis (from + get_or (set is axis i) axis 0) i (ap (λ k. from + k) (get_or-set_same is axis i 0 (omega (arith, long, lt))) ∙ e))
      where
        back : (js : List ℕ) → InBox (set g.lengths axis (to - from)) js → InBox g.lengths (set js axis (from + get_or js axis 0))
        back js inside =
            let many = length-set g.lengths axis (to - from) in
            let there = InBox-get (set g.lengths axis (to - from)) js axis inside (omega (arith, many, lt)) in
            let room = get_or-set_same g.lengths axis (to - from) 0 lt in
            subst (λ ns. InBox ns (set js axis (from + get_or js axis 0))) (set-again g.lengths axis n (to - from) refl)
            (InBox-set_both (set g.lengths axis (to - from)) js axis n (from + get_or js axis 0) inside (omega (arith, there, room, up, within)))

    pub parts-joined : concatenation axis (two_parts g axis index) ≡ g
    parts-joined = sym (tabulate-is g (concatenation_lengths axis (shapes_of (two_parts g axis index))) (concatenation_cell axis (two_parts g axis index)) whole (sym both-lengths) each)
      where
        choice : List ℕ → ℕ → Option A
        choice is p = if nat_lt (get_or is axis 0) p then cell low is else concatenation_cell axis (high ∷ []) (set is axis (get_or is axis 0 - p))

        last : List ℕ → ℕ → ℕ → Option A
        last is i p = if nat_lt i p then cell high is else None

        each : (is : List ℕ) → InBox g.lengths is → cell g is ≡ concatenation_cell axis (two_parts g axis index) is
        each is b = elim (cases_lt (get_or is axis 0) index) [
          | inl first ↦
              sym (ap (choice is) low-length ∙ (if-true (nat_lt (get_or is axis 0) index) _ _ (lt-ltb (get_or is axis 0) index first)
              ∙ (ap (cell low) (sym (set-get_or is axis 0)) ∙ part-cell 0 index (omega arith) most is b (get_or is axis 0) (omega arith) (omega (arith, first)))))
          | inr later ↦
              let i : ℕ = get_or is axis 0 - index in
              let long = InBox-length g.lengths is b in
              let there = InBox-get g.lengths is axis b lt in
              sym (ap (choice is) low-length ∙ (if-false (nat_lt (get_or is axis 0) index) _ _ (le-ltb (get_or is axis 0) index later)
              ∙ (ap (λ k. last (set is axis i) k (get_or high.lengths axis 0)) (get_or-set_same is axis i 0 (omega (arith, long, lt)))
              ∙ (ap (last (set is axis i) i) high-length
              ∙ (if-true (nat_lt i (n - index)) _ _ (lt-ltb i (n - index) (omega (arith, there, later)))
              ∙ part-cell index n most (omega arith) is b i (omega (arith, later)) (omega (arith, there, later)))))))
        ]

pub parts-join : {A : Type 0} → PartsJoin A
parts-join g axis index whole lt most = parts-joined g axis index lt most whole

pub parts-can_be_joined : {A : Type 0} → PartsCanBeJoined A
parts-can_be_joined g axis index limit lt most = parts-can_join g axis index lt most limit

pub items-of_stack : {A : Type 0} → ItemsOfStackAreParts A
items-of_stack axis k [] h whole none here = absurd (cc)
items-of_stack {A} axis k (g ∷ gs) h whole none here =
    let below = slice_get_within (g ∷ gs) k h here in
    let own : get_or (g ∷ gs) k g ≡ h = (let there = slice_get-get_or (g ∷ gs) k g below in cc) in
    each k below ∙ own
  where
    ns : List ℕ
    ns = g.lengths

    many : ℕ
    many = length (shapes_of (g ∷ gs))

    le : axis ≤ length ns
    le = (may-stack axis g gs none).bound

    stack : Grid A
    stack = stack_of axis (g ∷ gs)

    count : many ≡ length (g ∷ gs)
    count = length-map (g ∷ gs) (λ h. h.lengths)

    -- the cell of a stack at an index list with the place of an array put in
    there : (k : ℕ) (js : List ℕ) → k < many → InBox ns js → InBox (insert ns axis many) (insert js axis k)
    there k js below b =
        let l = length-insert ns axis many le in
        let room = get_or-insert_at ns axis many 0 le in
        InBox-insert (insert ns axis many) js axis k (omega (arith, l, le)) (omega (arith, room, below)) (subst (λ ms. InBox ms js) (sym (remove-inserted ns axis many le)) b)

    own : (k : ℕ) → k < length (g ∷ gs) → IsGrid (get_or (g ∷ gs) k g) × ((get_or (g ∷ gs) k g).lengths ≡ ns)
    own k below = (whole k g below, (may-stack axis g gs none).same k g below)

    named : (js : List ℕ) (k : ℕ) → k < length (g ∷ gs) → axis ≤ length js → stack_cell axis (g ∷ gs) (insert js axis k) ≡ cell (get_or (g ∷ gs) k g) js
    named js k below most =
        ap (λ p. option_and_then (λ h. cell h (remove (insert js axis k) axis)) (slice_get (g ∷ gs) p)) (get_or-insert_at js axis k 0 most)
        ∙ (ap (option_and_then (λ h. cell h (remove (insert js axis k) axis))) (slice_get-get_or (g ∷ gs) k g below)
        ∙ ap (cell (get_or (g ∷ gs) k g)) (remove-inserted js axis k most))

    stack_whole : IsGrid stack
    stack_whole = tabulate-whole (insert ns axis many) (stack_cell axis (g ∷ gs)) (λ is b.
        let l = length-insert ns axis many le in
        let room = get_or-insert_at ns axis many 0 le in
        let below = InBox-get (insert ns axis many) is axis b (omega (arith, l, le)) in
        let k : ℕ = get_or is axis 0 in
        let lt : k < length (g ∷ gs) = omega (arith, below, room, count) in
        let o = own k lt in
        let (x, here) = cell-Some (get_or (g ∷ gs) k g) o.0 (remove is axis) (subst (λ ms. InBox ms (remove is axis)) (remove-inserted ns axis many le ∙ sym o.1) (InBox-removed (insert ns axis many) is axis (omega (arith, l, le)) b)) in
        (x, ap (option_and_then (λ h. cell h (remove is axis))) (slice_get-get_or (g ∷ gs) k g lt) ∙ here))

    each : (k : ℕ) → k < length (g ∷ gs) → axis_item stack axis k ≡ get_or (g ∷ gs) k g
    each k below =
        let o = own k below in
        let l : k < many = omega (arith, count, below) in
        sym (tabulate-is (get_or (g ∷ gs) k g) (remove stack.lengths axis) (λ js. cell stack (insert js axis k)) o.0 (o.1 ∙ sym (remove-inserted ns axis many le))
        (λ js b.
        let b2 : InBox ns js = subst (λ ms. InBox ms js) o.1 b in
        let long = InBox-length ns js b2 in
        sym (tabulate-cell (insert ns axis many) (stack_cell axis (g ∷ gs)) (insert js axis k) stack_whole (there k js l b2) ∙ named js k below (omega (arith, long, le)))))
