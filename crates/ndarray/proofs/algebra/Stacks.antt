-- A stack as a concatenation.
use Rattle.std.proofs.Common.{◌≡◌, ◌∙◌, ℕ, zero, suc, ◌+◌, ◌-◌, ◌<◌, ◌≤◌, true, false, if◌then◌else◌, inl, inr, List, [], ◌∷◌, length, map, set, get_or, Option, Some, None, ap, sym, refl, arith, subst, insert, remove}
use Rattle.std.specs.Prelude.{All, nat_lt, not, ◌&&◌, slice_get, sum_by, option_and_then}
use Rattle.std.specs.List.{list_all}
use Rattle.std.proofs.lemmas.Bool.{cases_lt, le-ltb, lt-ltb, not_from_true}
use Rattle.std.proofs.lemmas.List.{set-get_or}
use Rattle.std.proofs.lemmas.List.Edits.{get_or-insert_at, length-insert}
use Rattle.std.proofs.lemmas.List.Elements.{All-cons, All-head, All-tail}
use Rattle.std.proofs.lemmas.List.Sums.{sum_by-cons}
use Rattle.ndarray.specs.Grid.{Grid, IsGrid, cell, cells_by, same_index, tabulate}
use Rattle.ndarray.specs.Index.{InBox, row_order}
use Rattle.ndarray.specs.Joining.{concatenation_cell, concatenation_lengths, is_same_but_along, is_within_limit, shapes_of, stack_cell, stack_error, stack_lengths}
use Rattle.ndarray.specs.Views.{axis_inserted}
use Rattle.ndarray.specs.declared.base.error.ErrorKind.TheVariants.{IncompatibleShape, RangeLimited, OutOfBounds, Overflow}
use Rattle.ndarray.proofs.boxes.Boxes.{InBox-length, InBox-removed}
use Rattle.ndarray.proofs.boxes.Orders.{length-row_order, row_order-is}
use Rattle.ndarray.proofs.cells.Cells.{cell-Some, tabulate-cell, tabulate-same}
use Rattle.ndarray.proofs.cells.LaneCells.{insert-removed}
use Rattle.ndarray.proofs.joining.Errors.{each-same, if-false, if-none, not-false, set-inserted}
use Rattle.ndarray.proofs.lists.CellLookup.{same_index-refl}
use Rattle.ndarray.proofs.lists.Elements.{length-filter_map_all, remove-inserted}
use Rattle.ndarray.proofs.views.Items.{InBox-insert}
use Rattle.ndarray.specs.Laws.{StackIsConcatenation}

-- an index list without the index at an axis that was put in
without : (ns : List ℕ) (axis n : ℕ) (is : List ℕ) → axis ≤ length ns → InBox (insert ns axis n) is → InBox ns (remove is axis)
without ns axis n is le b =
    let l = length-insert ns axis n le in
    subst (λ ms. InBox ms (remove is axis)) (remove-inserted ns axis n le) (InBox-removed (insert ns axis n) is axis (omega (arith, l, le)) b)

module _ {A : Type 0} where
  -- where a function names a cell at each index list of a box, the array is whole
  pub tabulate-whole : (ns : List ℕ) (f : List ℕ → Option A) → ((is : List ℕ) → InBox ns is → (x : A) × (f is ≡ Some x)) → IsGrid (tabulate ns f)
  unfolding cells_by
  tabulate-whole ns f h = length-filter_map_all f (row_order ns) (λ k d lt. h (get_or (row_order ns) k d) ((row_order-is ns).within k d lt)) ∙ length-row_order ns

  abbrev inserted : ℕ → List (Grid A) → List (Grid A)
  inserted axis gs = map (λ g. axis_inserted g axis) gs

  module _ (axis : ℕ) (ns : List ℕ) (le : axis ≤ length ns) where
    -- the cells of an array with the axis inserted
    inserted-cell : (g : Grid A) (js : List ℕ) → IsGrid g → g.lengths ≡ ns → InBox ns js → cell (axis_inserted g axis) (insert js axis 0) ≡ cell g js
    inserted-cell g js whole e b =
        let le2 : axis ≤ length g.lengths = subst (λ ms. axis ≤ length ms) (sym e) le in
        let long = InBox-length ns js b in
        let l = length-insert g.lengths axis 1 le2 in
        let one = get_or-insert_at g.lengths axis 1 0 le2 in
        let made : IsGrid (axis_inserted g axis) = tabulate-whole (insert g.lengths axis 1) (λ is. cell g (remove is axis)) (λ is b. cell-Some g whole (remove is axis) (without g.lengths axis 1 is le2 b)) in
        let there : InBox (remove (insert g.lengths axis 1) axis) js = subst (λ ms. InBox ms js) (sym (remove-inserted g.lengths axis 1 le2 ∙ e)) b in
        tabulate-cell (insert g.lengths axis 1) (λ is. cell g (remove is axis)) (insert js axis 0) made (InBox-insert (insert g.lengths axis 1) js axis 0 (omega (arith, l, le2)) (omega (arith, one)) there)
        ∙ ap (cell g) (remove-inserted js axis 0 (omega (arith, long, le)))

    -- the cell of the arrays with the axis inserted, joined along it: that of the array that the index names
    joined-cell : (js : List ℕ) → InBox ns js → (gs : List (Grid A)) → All IsGrid gs → All (λ g. g.lengths ≡ ns) gs → (i : ℕ)
        → concatenation_cell axis (inserted axis gs) (insert js axis i) ≡ option_and_then (λ g. cell g js) (slice_get gs i)
    joined-cell js b [] whole same i = refl
    joined-cell js b (g ∷ gs) whole same i = step ∙ at i (λ j. joined-cell js b gs (All-tail IsGrid g gs whole) (All-tail (λ g. g.lengths ≡ ns) g gs same) j)
      where
        e : g.lengths ≡ ns
        e = All-head (λ g. g.lengths ≡ ns) g gs same

        at_most : axis ≤ length js
        at_most = let long = InBox-length ns js b in omega (arith, long, le)

        choice : ℕ → ℕ → ℕ → Option A
        choice i p q = if nat_lt p q then cell (axis_inserted g axis) (insert js axis i) else concatenation_cell axis (inserted axis gs) (set (insert js axis i) axis (p - q))

        step : concatenation_cell axis (inserted axis (g ∷ gs)) (insert js axis i) ≡ choice i i 1
        step =
            ap (λ p. choice i p (get_or (insert g.lengths axis 1) axis 0)) (get_or-insert_at js axis i 0 at_most)
            ∙ ap (choice i i) (get_or-insert_at g.lengths axis 1 0 (subst (λ ms. axis ≤ length ms) (sym e) le))

        at : (i : ℕ) → ((j : ℕ) → concatenation_cell axis (inserted axis gs) (insert js axis j) ≡ option_and_then (λ g. cell g js) (slice_get gs j))
            → choice i i 1 ≡ option_and_then (λ g. cell g js) (slice_get (g ∷ gs) i)
        at zero rest = inserted-cell g js (All-head IsGrid g gs whole) e b
        at (suc j) rest =
            let back : suc j - 1 ≡ j = omega arith in
            if-false (nat_lt (suc j) 1) _ _ (le-ltb (suc j) 1 (omega arith))
            ∙ (ap (concatenation_cell axis (inserted axis gs)) (set-inserted js axis (suc j) (suc j - 1) at_most ∙ ap (insert js axis) back)
            ∙ rest j)

    -- the inserted axes have length 1, so their sum is the number of arrays
    ones : (gs : List (Grid A)) → All (λ g. g.lengths ≡ ns) gs → sum_by (λ ms. get_or ms axis 0) (shapes_of (inserted axis gs)) ≡ length (shapes_of gs)
    ones [] same = refl
    ones (g ∷ gs) same =
        let e : g.lengths ≡ ns = All-head (λ g. g.lengths ≡ ns) g gs same in
        let one = get_or-insert_at g.lengths axis 1 0 (subst (λ ms. axis ≤ length ms) (sym e) le) in
        let rest = ones gs (All-tail (λ g. g.lengths ≡ ns) g gs same) in
        sum_by-cons (λ ms. get_or ms axis 0) (insert g.lengths axis 1) (shapes_of (inserted axis gs)) ∙ omega (arith, one, rest)

    -- and nothing is wrong with their shapes
    all-alike : (gs : List (Grid A)) → All (λ g. g.lengths ≡ ns) gs → list_all (is_same_but_along axis (insert ns axis 1)) (shapes_of (inserted axis gs)) ≡ true
    all-alike [] same = refl
    all-alike (g ∷ gs) same =
        let e : g.lengths ≡ ns = All-head (λ g. g.lengths ≡ ns) g gs same in
        let here : is_same_but_along axis (insert ns axis 1) (insert g.lengths axis 1) ≡ true =
        ap (λ ms. is_same_but_along axis (insert ns axis 1) (insert ms axis 1)) e
        ∙ (ap (same_index (insert ns axis 1)) (set-get_or (insert ns axis 1) axis 0) ∙ same_index-refl (insert ns axis 1)) in
        ap (λ t. t && list_all (is_same_but_along axis (insert ns axis 1)) (shapes_of (inserted axis gs))) here
        ∙ all-alike gs (All-tail (λ g. g.lengths ≡ ns) g gs same)

  -- what is known of arrays that may be stacked
  pub record MayStack (axis : ℕ) (g : Grid A) (gs : List (Grid A)) : Type 0 where
    pub bound : axis ≤ length g.lengths
    pub room : length g.lengths < 32
    pub same : All (λ h. h.lengths ≡ g.lengths) (g ∷ gs)
    pub limit : is_within_limit (stack_lengths axis (shapes_of (g ∷ gs))) ≡ true

  pub may-stack : (axis : ℕ) (g : Grid A) (gs : List (Grid A)) → stack_error axis (shapes_of (g ∷ gs)) ≡ None → MayStack axis g gs
  may-stack axis g gs none =
      let ns : List ℕ = g.lengths in
      let bounds = if-none (nat_lt (length ns) axis) OutOfBounds _ none in
      let shapes = if-none (not (list_all (same_index ns) (shapes_of gs))) IncompatibleShape _ bounds.1 in
      let few = if-none (nat_lt 32 (length ns + 1)) RangeLimited _ shapes.1 in
      let limit = if-none (not (is_within_limit (stack_lengths axis (shapes_of (g ∷ gs))))) Overflow None few.1 in
      let many = most 32 (length ns + 1) few.0 in
      record {
        bound = most (length ns) axis bounds.0;
        room = omega (arith, many);
        same = All-cons (λ h. h.lengths ≡ ns) g gs refl (each-same ns gs (not-false _ shapes.0));
        limit = not-false _ limit.0;
      }
    where
      most : (n axis : ℕ) → nat_lt n axis ≡ false → axis ≤ n
      most n axis e = elim (cases_lt n axis) [ inl lt ↦ absurd (let t = lt-ltb n axis lt in cc) | inr ge ↦ ge ]

  pub stack_is_concat : StackIsConcatenation A
  stack_is_concat axis [] whole none = absurd (cc)
  stack_is_concat axis (g ∷ gs) whole none =
      let ns : List ℕ = g.lengths in
      let may = may-stack axis g gs none in
      let le : axis ≤ length ns = may.bound in
      let same : All (λ h. h.lengths ≡ ns) (g ∷ gs) = may.same in
      let lengths : stack_lengths axis (shapes_of (g ∷ gs)) ≡ concatenation_lengths axis (shapes_of (inserted axis (g ∷ gs))) =
      sym (ap (set (insert ns axis 1) axis) (ones axis ns le (g ∷ gs) same) ∙ set-inserted ns axis 1 (length (shapes_of (g ∷ gs))) le) in
      let l = length-insert ns axis 1 le in (
        if-false (not (nat_lt axis (length (insert ns axis 1)))) _ _ (not_from_true _ (lt-ltb axis (length (insert ns axis 1)) (omega (arith, l, le))))
            ∙ (if-false (not (list_all (is_same_but_along axis (insert ns axis 1)) (shapes_of (inserted axis gs)))) _ _ (not_from_true _ (all-alike axis ns le gs (All-tail (λ h. h.lengths ≡ ns) g gs same)))
            ∙ if-false (not (is_within_limit (concatenation_lengths axis (shapes_of (inserted axis (g ∷ gs)))))) _ _ (not_from_true _ (ap is_within_limit (sym lengths) ∙ may.limit))),
        tabulate-same (stack_lengths axis (shapes_of (g ∷ gs))) (concatenation_lengths axis (shapes_of (inserted axis (g ∷ gs)))) (stack_cell axis (g ∷ gs)) (concatenation_cell axis (inserted axis (g ∷ gs))) lengths
            (λ is b.
            let n : ℕ = length (shapes_of (g ∷ gs)) in
            let long = InBox-length (insert ns axis n) is b in
            let m = length-insert ns axis n le in
            sym (joined-cell axis ns le (remove is axis) (without ns axis n is le b) (g ∷ gs) whole same (get_or is axis 0))
            ∙ ap (concatenation_cell axis (inserted axis (g ∷ gs))) (insert-removed is axis (get_or is axis 0) (omega (arith, long, m, le)) ∙ set-get_or is axis 0)),
      )
