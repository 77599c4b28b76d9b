-- The inner sums of the rows of one array and the columns of another are the cells of their product.
use Rattle.std.proofs.Common.{◌≡◌, ◌∙◌, ◌-◌, ◌<◌, ◌+◌, ℕ, List, [], ◌∷◌, All, ap, arith, drop, get_or, inl, inr, insert, length, map, refl, remove, sym, take}
use Rattle.std.specs.Prelude.{flat_map}
use Rattle.std.proofs.lemmas.Bool.{cases_eq}
use Rattle.std.proofs.lemmas.List.Edits.{length-remove}
use Rattle.ndarray.specs.Grid.{Grid, IsGrid, cell}
use Rattle.ndarray.specs.Index.{InBox, row_order}
use Rattle.ndarray.specs.Matrices.{values_below}
use Rattle.ndarray.specs.linalg.LaneSums.{CanSumLanes, lane_sum}
use Rattle.ndarray.specs.Products.{HasLaneSumsInRange, ShapesMultiply, dot_entries, product_lengths, value_or}
use Rattle.ndarray.specs.Subviews.{lane}
use Rattle.ndarray.specs.declared.elements.Valued.{Ghosts as ValuedGhosts}
use Rattle.ndarray.proofs.boxes.Boxes.{InBox-length}
use Rattle.ndarray.proofs.cells.Cells.{tabulate-cell}
use Rattle.ndarray.proofs.cells.LaneCells.{lane-length, no-lane}
use Rattle.ndarray.proofs.cells.LanePairs.{EachColumn, columns_of, in-row_order, inner, last, of-rows_and_columns, parts, rows_of}
use Rattle.ndarray.proofs.cells.Matrices.{below-same, vector-values}
use Rattle.ndarray.proofs.lists.Elements.{remove-inserted}
use Rattle.ndarray.proofs.views.Items.{InBox-insert}

-- a lane is as long as its axis
pub length-of_lane : {A : Type 0} (g : Grid A) → IsGrid g → (k : ℕ) → k < length g.lengths → (js : List ℕ) → InBox (remove g.lengths k) js → length (lane g k js).cells ≡ get_or g.lengths k 0
length-of_lane g whole k lt js b = elim (cases_eq (get_or g.lengths k 0) 0) [
  | inl none ↦ ap length (no-lane g k js none) ∙ sym none
  | inr some ↦
      (let is : List ℕ = insert js k 0 in
      let c : InBox g.lengths is = InBox-insert g.lengths js k 0 lt (omega arith) b in
      let back : remove is k ≡ js = remove-inserted js k 0 (let n = InBox-length (remove g.lengths k) js b in let r : length (remove g.lengths k) + 1 ≡ length g.lengths = length-remove g.lengths k lt in omega (arith, n, r, lt)) in
      ap (λ ls. length (lane g k ls).cells) (sym back) ∙ lane-length g whole k lt is c)
]

-- the values of a lane
pub lane-values : {A C : Type 0} (v : A → C) (d : C) (g : Grid A) → IsGrid g → (k : ℕ) → k < length g.lengths → (js : List ℕ) → InBox (remove g.lengths k) js
    → map v (lane g k js).cells ≡ values_below (get_or g.lengths k 0) (λ q. value_or v d (cell g (insert js k q)))
lane-values v d g whole k lt js b =
    let long = length-of_lane g whole k lt js b in
    let own : IsGrid (lane g k js) = omega (arith, long) in
    vector-values v d (lane g k js) own refl
    ∙ below-same (get_or g.lengths k 0) _ _ (λ q below. ap (value_or v d) (tabulate-cell (get_or g.lengths k 0 ∷ []) (λ is. cell g (insert js k (get_or is 0 0))) (q ∷ []) own (below, tt)))

module _ {A : Type 0} (e : ValuedGhosts A) (a b : Grid A) (shapes : ShapesMultiply a.lengths b.lengths) where
  -- each row and each column may be summed
  pub lanes-can_sum : IsGrid a → IsGrid b → HasLaneSumsInRange e a b → All (EachColumn (CanSumLanes e) b) (rows_of a).cells
  lanes-can_sum whole_a whole_b sums = of-rows_and_columns a b shapes (CanSumLanes e)
      (λ is inside.
      let (first, second) = parts a b shapes is inside in (
        length-of_lane a whole_a (length a.lengths - 1) (last a b shapes) (take (length a.lengths - 1) is) first
            ∙ (shapes.inner ∙ sym (length-of_lane b whole_b (length b.lengths - 2) (inner a b shapes) (drop (length a.lengths - 1) is) second)),
        sums is inside,
      ))

  -- the sums of each row with each column, row by row, are the entries of the product in row order
  pub sums-in_row_order : flat_map (λ x. map (lane_sum e x) (columns_of b).cells) (rows_of a).cells ≡ map (dot_entries e a b) (row_order (product_lengths a.lengths b.lengths))
  sums-in_row_order = in-row_order a b shapes (lane_sum e)
