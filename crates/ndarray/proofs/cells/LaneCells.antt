-- The cells of a lane.
use Rattle.std.proofs.Common.{◌≡◌, ◌<◌, ℕ, zero, suc, List, [], ◌∷◌, Option, Some, length, get_or, set, refl, ap, sym, ◌∙◌, arith, remove, insert, All}
use Rattle.ndarray.specs.Grid.{Grid, IsGrid, cell, cells_by}
use Rattle.ndarray.specs.Index.{InBox, row_order}
use Rattle.ndarray.specs.Subviews.{lane, lanes_of}
use Rattle.ndarray.specs.declared.base.shape.Order.TheVariants.{RowMajor}
use Rattle.std.specs.Prelude.{slice_get}
use Rattle.ndarray.proofs.boxes.Boxes.{InBox-length, InBox-set, InBox-removed}
use Rattle.ndarray.proofs.boxes.Orders.{box_in-at, length-box_in}
use Rattle.ndarray.proofs.boxes.Walks.{rank_in-one}
use Rattle.ndarray.proofs.callers.Collecting.{lanes_of-some}
use Rattle.ndarray.proofs.cells.Cells.{cell-Some, array_by-cell}
use Rattle.ndarray.proofs.lists.Elements.{length-filter_map_all, slice_get-filter_map_all}

pub insert-removed : (is : List ℕ) (k j : ℕ) → k < length is → insert (remove is k) k j ≡ set is k j
insert-removed [] k j lt = absurd (omega arith)
insert-removed (i ∷ is) zero j lt = refl
insert-removed (i ∷ is) (suc k) j lt = ap (λ l. i ∷ l) (insert-removed is k j (omega arith))

-- along an axis of length 0 a lane has no cells
pub no-lane : {A : Type 0} (g : Grid A) (k : ℕ) (js : List ℕ) → get_or g.lengths k 0 ≡ 0 → (lane g k js).cells ≡ []
unfolding cells_by row_order
no-lane g k js none = ap (λ n. cells_by (n ∷ []) (λ is. cell g (insert js k (get_or is 0 0)))) none

module _ {A : Type 0} (g : Grid A) (whole : IsGrid g) (k : ℕ) (lt : k < length g.lengths) (is : List ℕ) (b : InBox g.lengths is) where
  at : (j : ℕ) → cell g (insert (remove is k) k j) ≡ cell g (set is k j)
  at j = let l = InBox-length g.lengths is b in ap (cell g) (insert-removed is k j (omega arith))

  one : (q : ℕ) (d : List ℕ) → q < get_or g.lengths k 0 → get_or (row_order (get_or g.lengths k 0 ∷ [])) q d ≡ q ∷ []
  one q d below =
      let e = rank_in-one RowMajor (get_or g.lengths k 0) q in
      ap (λ r. get_or (row_order (get_or g.lengths k 0 ∷ [])) r d) (sym e) ∙ box_in-at RowMajor (get_or g.lengths k 0 ∷ []) (q ∷ []) d (below, tt)

  all-some : All (λ js. (x : A) × (cell g (insert (remove is k) k (get_or js 0 0)) ≡ Some x)) (row_order (get_or g.lengths k 0 ∷ []))
  all-some = λ q d h.
      let long = length-box_in RowMajor (get_or g.lengths k 0 ∷ []) in
      let below : q < get_or g.lengths k 0 = omega (arith, long, h) in
      let (x, e) = cell-Some g whole (set is k q) (InBox-set g.lengths is k q b below) in
      (x, ap (λ js. cell g (insert (remove is k) k (get_or js 0 0))) (one q d below) ∙ (at q ∙ e))

  pub lane-length : length (lane g k (remove is k)).cells ≡ get_or g.lengths k 0
  unfolding cells_by
  lane-length =
      let long = length-box_in RowMajor (get_or g.lengths k 0 ∷ []) in
      let all = length-filter_map_all (λ js. cell g (insert (remove is k) k (get_or js 0 0))) (row_order (get_or g.lengths k 0 ∷ [])) all-some in
      omega (arith, long, all)

  -- the cell of the lane through is, at an index
  pub lane-cell : (j : ℕ) → j < get_or g.lengths k 0 → slice_get (lane g k (remove is k)).cells j ≡ cell g (set is k j)
  unfolding cells_by
  lane-cell j below =
      let f : List ℕ → Option A = λ js. cell g (insert (remove is k) k (get_or js 0 0)) in
      let long = length-box_in RowMajor (get_or g.lengths k 0 ∷ []) in
      slice_get-filter_map_all f (row_order (get_or g.lengths k 0 ∷ [])) j [] all-some (omega (arith, long))
      ∙ (ap f (one j [] below) ∙ at j)

  -- and that lane among all lanes
  pub lane-among : cell (lanes_of g k) (remove is k) ≡ Some (lane g k (remove is k))
  lane-among =
      ap (λ w. cell w (remove is k)) (lanes_of-some g.lengths g k (omega arith))
      ∙ array_by-cell (remove g.lengths k) (lane g k) (remove is k) (InBox-removed g.lengths is k lt b)
