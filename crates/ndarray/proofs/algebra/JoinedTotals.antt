-- Totals of joined arrays.
use Rattle.std.proofs.Common.{◌≡◌, ◌∙◌, ℕ, ◌+◌, ◌-◌, ◌<◌, ◌≤◌, if◌then◌else◌, List, [], ◌∷◌, length, map, set, get_or, Option, ap, sym, refl, arith, subst, insert, remove}
use Rattle.std.specs.Prelude.{All, nat_lt, sum_by}
use Rattle.std.specs.List.{range_with_len}
use Rattle.std.proofs.lemmas.Bool.{le-ltb, lt-ltb}
use Rattle.std.proofs.lemmas.List.{get_or-set_same, length-set, map-append}
use Rattle.std.proofs.lemmas.List.Edits.{get_or-insert_at, length-remove}
use Rattle.std.proofs.lemmas.List.Sums.{sum_by-cons}
use Rattle.ndarray.specs.Algebra.{CommutativeMonoid}
use Rattle.ndarray.specs.Grid.{Grid, IsGrid, cell, cells_by}
use Rattle.ndarray.specs.Index.{InBox, row_order}
use Rattle.ndarray.specs.Joining.{concatenation, concatenation_cell, concatenation_lengths, shapes_of}
use Rattle.ndarray.specs.JoiningLaws.{TotalsJoin}
use Rattle.ndarray.specs.Sums.{total, total_by}
use Rattle.ndarray.proofs.algebra.AxisSums.{box-axis, cells-total}
use Rattle.ndarray.proofs.algebra.RangeTotals.{total-later}
use Rattle.ndarray.proofs.algebra.Totals.{total-append, total-swap, total_by-filter_map, value_of}
use Rattle.ndarray.proofs.boxes.Boxes.{InBox-length}
use Rattle.ndarray.proofs.boxes.LaneIndices.{remove-set}
use Rattle.ndarray.proofs.boxes.Orders.{row_order-is}
use Rattle.ndarray.proofs.joining.Errors.{if-false, if-true, set-inserted}
use Rattle.ndarray.proofs.joining.Joined.{are-along}
use Rattle.ndarray.proofs.lists.Elements.{map-same}
use Rattle.ndarray.proofs.lists.Ranges.{All-range, range-append}

module _ {A C : Type 0} (M : CommutativeMonoid C) (value : A → C) (axis : ℕ) where
  -- the value of joined arrays at an index list
  abbrev joined_at : List (Grid A) → List ℕ → C
  joined_at gs is = value_of M value (concatenation_cell axis gs is)

  -- their lengths along the axis, added up
  abbrev joined_length : List (Grid A) → ℕ
  joined_length gs = sum_by (λ ms. get_or ms axis 0) (shapes_of gs)

  -- the total of the lane of an array at an index list of the other axes
  abbrev along : List ℕ → Grid A → C
  along js g = total M (map (λ i. value_of M value (cell g (insert js axis i))) (range_with_len 0 (get_or g.lengths axis 0)))

  -- a lane of joined arrays is their lanes one after another
  lane-joined : (js : List ℕ) → axis ≤ length js → (gs : List (Grid A)) → total M (map (λ i. joined_at gs (insert js axis i)) (range_with_len 0 (joined_length gs))) ≡ total M (map (along js) gs)
  lane-joined js le [] = refl
  lane-joined js le (g ∷ gs) =
      ap (λ k. total M (map at (range_with_len 0 k))) (sum_by-cons (λ ms. get_or ms axis 0) g.lengths (shapes_of gs))
      ∙ (ap (λ l. total M (map at l)) (range-append 0 n (joined_length gs))
      ∙ (ap (total M) (map-append at (range_with_len 0 n) (range_with_len (0 + n) (joined_length gs)))
      ∙ (total-append M (map at (range_with_len 0 n)) (map at (range_with_len (0 + n) (joined_length gs)))
      ∙ (ap (λ l. M.op (total M l) (total M (map at (range_with_len (0 + n) (joined_length gs))))) (map-same at own (λ i. i < n) (range_with_len 0 n) first (All-range (λ i. i < n) n (λ k lt. lt)))
      ∙ ap (M.op (along js g)) (ap (λ b. total M (map at (range_with_len b (joined_length gs)))) begin ∙ (total-later M at (λ i. joined_at gs (insert js axis i)) n rest 0 (joined_length gs) ∙ lane-joined js le gs))))))
    where
      n : ℕ
      n = get_or g.lengths axis 0

      begin : 0 + n ≡ n + 0
      begin = omega arith

      at : ℕ → C
      at i = joined_at (g ∷ gs) (insert js axis i)

      own : ℕ → C
      own i = value_of M value (cell g (insert js axis i))

      choice : ℕ → ℕ → Option A
      choice i p = if nat_lt p n then cell g (insert js axis i) else concatenation_cell axis gs (set (insert js axis i) axis (p - n))

      chosen : (i : ℕ) → at i ≡ value_of M value (choice i i)
      chosen i = ap (λ p. value_of M value (choice i p)) (get_or-insert_at js axis i 0 le)

      first : (i : ℕ) → i < n → at i ≡ own i
      first i lt = chosen i ∙ ap (value_of M value) (if-true (nat_lt i n) _ _ (lt-ltb i n lt))

      rest : (i : ℕ) → at (n + i) ≡ joined_at gs (insert js axis i)
      rest i =
          let back : n + i - n ≡ i = omega arith in
          chosen (n + i)
          ∙ ap (value_of M value) (if-false (nat_lt (n + i) n) _ _ (le-ltb (n + i) n (omega arith))
          ∙ ap (concatenation_cell axis gs) (set-inserted js axis (n + i) (n + i - n) le ∙ ap (insert js axis) back))

  module _ (g : Grid A) (gs : List (Grid A)) (whole : All IsGrid (g ∷ gs)) (lt : axis < length g.lengths) (alike : All (λ h. h.lengths ≡ set g.lengths axis (get_or h.lengths axis 0)) (g ∷ gs)) where
    abbrev others : List ℕ
    others = remove g.lengths axis

    abbrev lengths : List ℕ
    lengths = concatenation_lengths axis (shapes_of (g ∷ gs))

    own-total : (h : Grid A) → IsGrid h × (h.lengths ≡ set g.lengths axis (get_or h.lengths axis 0)) → total M (map (λ js. along js h) (row_order others)) ≡ total_by M value h.cells
    own-total h (w, e) =
        let long = length-set g.lengths axis (get_or h.lengths axis 0) in
        let axes : axis < length h.lengths = subst (λ ns. axis < length ns) (sym e) (omega (arith, long, lt)) in
        ap (λ rs. total M (map (λ js. along js h) (row_order rs))) (sym (ap (λ ns. remove ns axis) e ∙ remove-set g.lengths axis (get_or h.lengths axis 0)))
        ∙ (sym (box-axis M (λ is. value_of M value (cell h is)) h.lengths axis axes) ∙ sym (cells-total M value h w))

    joined-total : total_by M value (concatenation axis (g ∷ gs)).cells ≡ total M (map (λ h. total_by M value h.cells) (g ∷ gs))
    unfolding cells_by
    joined-total =
        let long = length-set g.lengths axis (joined_length (g ∷ gs)) in
        let fewer = length-remove g.lengths axis lt in
        total_by-filter_map M value (concatenation_cell axis (g ∷ gs)) (row_order lengths)
        ∙ (box-axis M (joined_at (g ∷ gs)) lengths axis (omega (arith, long, lt))
        ∙ (ap (λ n. total M (map (λ js. total M (map (λ i. joined_at (g ∷ gs) (insert js axis i)) (range_with_len 0 n))) (row_order (remove lengths axis)))) (get_or-set_same g.lengths axis (joined_length (g ∷ gs)) 0 lt)
        ∙ (ap (λ rs. total M (map (λ js. total M (map (λ i. joined_at (g ∷ gs) (insert js axis i)) (range_with_len 0 (joined_length (g ∷ gs))))) (row_order rs))) (remove-set g.lengths axis (joined_length (g ∷ gs)))
        ∙ (ap (total M) (map-same (λ js. total M (map (λ i. joined_at (g ∷ gs) (insert js axis i)) (range_with_len 0 (joined_length (g ∷ gs))))) (λ js. total M (map (along js) (g ∷ gs))) (InBox others) (row_order others)
        (λ js b. let many = InBox-length others js b in lane-joined js (omega (arith, many, fewer, lt)) (g ∷ gs)) (row_order-is others).within)
        ∙ (total-swap M (λ js h. along js h) (row_order others) (g ∷ gs)
        ∙ ap (total M) (map-same (λ h. total M (map (λ js. along js h) (row_order others))) (λ h. total_by M value h.cells) (λ h. IsGrid h × (h.lengths ≡ set g.lengths axis (get_or h.lengths axis 0))) (g ∷ gs) own-total (λ k d below. (whole k d below, alike k d below))))))))

pub totals-join : {A C : Type 0} (M : CommutativeMonoid C) (value : A → C) → TotalsJoin M value
totals-join M value axis [] whole none = absurd (cc)
totals-join M value axis (g ∷ gs) whole none = let alike = are-along axis g gs none in joined-total M value axis g gs whole alike.below alike.each
