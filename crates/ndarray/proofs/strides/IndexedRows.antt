-- Index lists with the places of their cells, row by row.
use Rattle.std.proofs.Common.{◌≡◌, ◌∙◌, ℕ, zero, suc, ◌+◌, ◌*◌, ◌<◌, ◌≤◌, List, ◌∷◌, ◌++◌, All, ap, arith, get_or, inl, inr, length, map, subst, sym, zip}
use Rattle.std.proofs.lemmas.Bool.{cases_lt}
use Rattle.std.proofs.lemmas.List.{get_or_past, length-append, map-append}
use Rattle.std.proofs.lemmas.List.Elements.{All-head, All-tail}
use Rattle.std.proofs.lemmas.List.Folds.{flat_map-map}
use Rattle.ndarray.specs.Index.{InBox}
use Rattle.ndarray.specs.order.Rows.{joined}
use Rattle.ndarray.specs.base.Places.{place}
use Rattle.ndarray.specs.base.Ranks.{row_from}
use Rattle.ndarray.specs.base.Strided.{places_from}
use Rattle.ndarray.specs.order.Walks.{FitsOnAxis}
use Rattle.ndarray.specs.places.ElementPlaces.{HaveIndexedRows, with_places}
use Rattle.ndarray.proofs.boxes.Boxes.{InBox-length}
use Rattle.ndarray.proofs.boxes.ShiftedRows.{row-room}
use Rattle.ndarray.proofs.boxes.Sizes.{length-fits}
use Rattle.ndarray.proofs.joining.Blocks.{length-same_blocks}
use Rattle.ndarray.proofs.strides.Rows.{length-row_from, row-first, row-with_places}

-- how many index lists rows of one length have
pub length-rows : (axis n : ℕ) (firsts : List (List ℕ)) → length (joined (map (λ is. row_from is axis n) firsts)) ≡ length firsts * n
length-rows axis n firsts =
    ap length (flat_map-map (λ xs. xs) (λ is. row_from is axis n) firsts)
    ∙ length-same_blocks (λ is. row_from is axis n) n firsts (λ k d lt. length-row_from (get_or firsts k d) axis n)

bounded : (ns is : List ℕ) (axis n : ℕ) → 0 < n → All (InBox ns) (row_from is axis n) → length is ≡ length ns → axis < length ns → get_or is axis 0 + n ≤ get_or ns axis 0
bounded ns is axis zero some within l lt = absurd (omega (arith, some))
bounded ns is axis (suc n) some within l lt = row-room ns axis n is (omega (arith, l, lt)) lt within

module _ (start : ℕ) (ns bs : List ℕ) (rows rest : List (List (List ℕ))) (more : ℕ) (first : List ℕ) (axis count : ℕ) (next : rows ≡ row_from first axis count ∷ rest) (h : HaveIndexedRows ns bs rows more) where
  IsRow : List (List ℕ) → Type 0
  IsRow row = (0 < length row) × All (InBox ns) row

  here : IsRow (row_from first axis count)
  unfolding IsRow
  here = All-head IsRow (row_from first axis count) rest (subst (All IsRow) next h.each)

  -- of the next row
  pub row-some : 0 < count
  unfolding IsRow
  row-some = let l = length-row_from first axis count in omega (arith, l, here.0)

  inside : InBox ns first
  unfolding IsRow
  inside = row-first (InBox ns) first axis count row-some here.1

  pub first-as_many : length bs ≡ length first
  first-as_many = h.as_many ∙ sym (InBox-length ns first inside)

  pub rows-count : count + length (joined rest) ≡ length (joined rows)
  rows-count =
      let all = ap (λ l. length (joined l)) next in
      let both = length-append (row_from first axis count) (joined rest) in
      let l = length-row_from first axis count in
      omega (arith, all, both, l)

  pub row-fits : FitsOnAxis first axis count
  unfolding IsRow
  row-fits =
      let n = rows-count in
      let few = h.few in
      let l = InBox-length ns first inside in
      elim (cases_lt axis (length ns)) [
        | inl lt ↦ (let b = bounded ns first axis count row-some here.1 l lt in let f = length-fits ns axis lt h.limit in omega (arith, b, f))
        | inr past ↦ (let none = get_or_past first axis 0 (omega (arith, past, l)) in omega (arith, none, n, few))
      ]

  -- and of those behind it
  pub rows-behind : (left : ℕ) → left ≤ count → HaveIndexedRows ns bs rest left
  unfolding IsRow
  rows-behind left le = record {
    each = All-tail IsRow (row_from first axis count) rest (subst (All IsRow) next h.each);
    as_many = h.as_many;
    limit = h.limit;
    few = (let n = rows-count in let few = h.few in omega (arith, n, few, le));
  }

  pub rows-split : with_places start bs (joined rows) ≡ zip (row_from first axis count) (places_from (place start bs first) (get_or bs axis 0) count) ++ with_places start bs (joined rest)
  rows-split =
      ap (λ l. with_places start bs (joined l)) next
      ∙ (map-append (λ js. (js, place start bs js)) (row_from first axis count) (joined rest)
      ∙ ap (λ l. l ++ with_places start bs (joined rest)) (sym (row-with_places start bs axis count first first-as_many)))
