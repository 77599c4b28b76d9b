-- Lanes and rows as lists: each cell is in its lane, and a row of a table is a part of the list of the table's cells.
use Rattle.std.proofs.Common.{◌≡◌, ◌∙◌, ◌+◌, ◌*◌, ◌<◌, ◌≤◌, ℕ, List, suc, Some, [], ◌∷◌, ap, arith, drop, get_or, inl, inr, length, remove, subst, sym, take}
use Rattle.std.specs.Prelude.{Contains, slice_get}
use Rattle.std.proofs.lemmas.Bool.{cases_eq}
use Rattle.std.proofs.lemmas.Nat.{mul-le}
use Rattle.std.proofs.lemmas.List.{length-drop, length-take-le, set-get_or}
use Rattle.std.proofs.lemmas.Option.{get_or_from_slice_get, slice_get_within}
use Rattle.ndarray.specs.Grid.{Grid, IsGrid, cell}
use Rattle.ndarray.specs.Index.{InBox, size}
use Rattle.ndarray.specs.Subviews.{lane}
use Rattle.ndarray.specs.Views.{axis_item}
use Rattle.ndarray.specs.base.Ranks.{rank}
use Rattle.ndarray.proofs.boxes.Boxes.{InBox-get}
use Rattle.ndarray.proofs.callers.TableRows.{row-is}
use Rattle.ndarray.proofs.cells.Cells.{cell-inside, cell-within}
use Rattle.ndarray.proofs.cells.LaneCells.{lane-cell, lane-length, no-lane}
use Rattle.ndarray.proofs.cells.Matrices.{two-lengths}
use Rattle.ndarray.proofs.lists.Elements.{same_from_slice_get}
use Rattle.ndarray.proofs.runs.OneAxisProducers.{slice_get-part}

-- each cell is one of its lane
pub cell-in_lane : {A : Type 0} (g : Grid A) → IsGrid g → (k : ℕ) → k < length g.lengths → (is : List ℕ) (x : A) → cell g is ≡ Some x → Contains (lane g k (remove is k)).cells x
cell-in_lane g whole k lt is x there =
    let b = cell-inside g is x there in
    let i : ℕ = get_or is k 0 in
    let at : slice_get (lane g k (remove is k)).cells i ≡ Some x = lane-cell g whole k lt is b i (InBox-get g.lengths is k b lt) ∙ (ap (cell g) (set-get_or is k 0) ∙ there) in
    (i, slice_get_within (lane g k (remove is k)).cells i x at, get_or_from_slice_get (lane g k (remove is k)).cells i x x at)

times : (i n m : ℕ) → i < n → i * m + m ≤ n * m
times i n m lt = let e = mul-le (suc i) m n m lt (omega arith) in omega (arith, e)

ranked : (n m i j : ℕ) → rank (n ∷ m ∷ []) (i ∷ j ∷ []) ≡ i * m + j
unfolding rank
ranked n m i j = omega arith

lane-list : {A : Type 0} (g : Grid A) (n m i : ℕ) → IsGrid g → g.lengths ≡ n ∷ m ∷ [] → i < n → (lane g 1 (i ∷ [])).cells ≡ take m (drop (i * m) g.cells)
lane-list g n m i whole lengths below =
    elim (cases_eq m 0) [
      | inl none ↦ no-lane g 1 (i ∷ []) (ap (λ ns. get_or ns 1 0) lengths ∙ none) ∙ sym (ap (λ c. take c (drop (i * m) g.cells)) none)
      | inr some ↦
          let two : 1 < length g.lengths = (let l = ap length lengths in omega (arith, l)) in
          let inside : InBox g.lengths (i ∷ 0 ∷ []) = subst (λ ns. InBox ns (i ∷ 0 ∷ [])) (sym lengths) (below, (omega (arith, some), tt)) in
          let long : length (lane g 1 (i ∷ [])).cells ≡ m = lane-length g whole 1 two (i ∷ 0 ∷ []) inside ∙ ap (λ ns. get_or ns 1 0) lengths in
          let many : length g.cells ≡ n * m = (let s = ap size lengths in omega (arith, s, whole)) in
          let fits : i * m + m ≤ n * m = times i n m below in
          let part : length (take m (drop (i * m) g.cells)) ≡ m = length-take-le m (drop (i * m) g.cells) (let d = length-drop (i * m) g.cells in omega (arith, d, many, fits)) in
          same_from_slice_get (lane g 1 (i ∷ [])).cells (take m (drop (i * m) g.cells)) (omega (arith, long, part))
          (λ j lt.
          let here : j < m = omega (arith, lt, long) in
          let at : InBox g.lengths (i ∷ j ∷ []) = subst (λ ns. InBox ns (i ∷ j ∷ [])) (sym lengths) (below, (here, tt)) in
          lane-cell g whole 1 two (i ∷ 0 ∷ []) inside j (let c = ap (λ ns. get_or ns 1 0) lengths in omega (arith, here, c))
          ∙ (cell-within g whole (i ∷ j ∷ []) at
          ∙ (ap (slice_get g.cells) (ap (λ ns. rank ns (i ∷ j ∷ [])) lengths ∙ ranked n m i j)
          ∙ sym (slice_get-part g.cells m (i * m) j here (omega (arith, many, fits))))))
    ]

-- row i of a table: the cells from the first of the row on, as many as there are columns
pub row-list : {A : Type 0} (g : Grid A) → IsGrid g → length g.lengths ≡ 2 → (i : ℕ) → i < get_or g.lengths 0 0 → (axis_item g 0 i).cells ≡ take (get_or g.lengths 1 0) (drop (i * get_or g.lengths 1 0) g.cells)
row-list g whole two i below = ap (λ r. r.cells) (row-is g two i) ∙ lane-list g (get_or g.lengths 0 0) (get_or g.lengths 1 0) i whole (two-lengths g.lengths two) below
