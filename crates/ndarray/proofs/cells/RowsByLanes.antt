-- The sums of a vector with the columns of a matrix, as sums of lanes.
use Rattle.std.proofs.Common.{◌≡◌, ◌∙◌, ◌-◌, ◌<◌, ◌≤◌, ℕ, [], ◌∷◌, All, ap, arith, get_or, length, map, refl, remove, subst, sym}
use Rattle.std.proofs.lemmas.List.Elements.{All-contains, All-map}
use Rattle.std.proofs.lemmas.Simd.{map-map}
use Rattle.ndarray.specs.Grid.{Grid, IsGrid}
use Rattle.ndarray.specs.Index.{InBox, row_order}
use Rattle.ndarray.specs.Matrices.{inner_products}
use Rattle.ndarray.specs.linalg.LaneSums.{CanSumLanes, lane_sum}
use Rattle.ndarray.specs.linalg.RowSums.{CanSumRow, row_sums}
use Rattle.ndarray.specs.Products.{matrix_of, products_of, row_of}
use Rattle.ndarray.specs.Subviews.{lane, lanes_of}
use Rattle.ndarray.specs.Sums.{IsSummable, total}
use Rattle.ndarray.specs.declared.elements.Valued.{Ghosts as ValuedGhosts}
use Rattle.ndarray.proofs.boxes.Orders.{row_order-is}
use Rattle.ndarray.proofs.callers.Collecting.{lanes_of-some}
use Rattle.ndarray.proofs.cells.LanePairs.{EachColumn, columns_of, rows_of}
use Rattle.ndarray.proofs.cells.LaneSums.{lane-values, length-of_lane}
use Rattle.ndarray.proofs.cells.Matrices.{below-same, two-lengths, vector-values}
use Rattle.ndarray.proofs.cells.RowProducts.{values-one}
use Rattle.ndarray.proofs.lists.Elements.{mapped-all}
use Rattle.ndarray.proofs.sums.InnerSums.{lists-meet}

-- a vector of n cells
pub record IsRow {A : Type 0} (n : ℕ) (x : Grid A) : Type 0 where
  pub lengths : x.lengths ≡ n ∷ []
  pub whole : IsGrid x

-- each lane along the last axis is one
pub rows-are : {A : Type 0} (a : Grid A) → IsGrid a → 1 ≤ length a.lengths → All (IsRow (get_or a.lengths (length a.lengths - 1) 0)) (rows_of a).cells
rows-are a whole some =
    let k = length a.lengths - 1 in
    let last : k < length a.lengths = omega (arith, some) in
    let each = ap (λ g. g.cells) (lanes_of-some a.lengths a k (omega (arith, some))) in
    subst (All (IsRow (get_or a.lengths k 0))) (sym each) (All-map (IsRow (get_or a.lengths k 0)) (lane a k) (row_order (remove a.lengths k))
    (λ q d below.
    let js = get_or (row_order (remove a.lengths k)) q d in
    let long = length-of_lane a whole k last js ((row_order-is (remove a.lengths k)).within q d below) in
    record { lengths = refl; whole = omega (arith, long) }))

module _ {A : Type 0} (e : ValuedGhosts A) (x b : Grid A) (row : IsRow (get_or b.lengths 0 0) x) (two : length b.lengths ≡ 2) (whole : IsGrid b) where
  columns-are : (columns_of b).cells ≡ map (lane b 0) (row_order (get_or b.lengths 1 0 ∷ []))
  columns-are =
      ap (λ k. (lanes_of b (k - 2)).cells) two
      ∙ (ap (λ g. g.cells) (lanes_of-some b.lengths b 0 (omega (arith, two)))
      ∙ ap (λ ns. map (lane b 0) (row_order (remove ns 0))) (two-lengths b.lengths two))

  one : length x.lengths ≡ 1
  one = ap length row.lengths

  meet : get_or x.lengths 0 0 ≡ get_or b.lengths 0 0
  meet = ap (λ ns. get_or ns 0 0) row.lengths

  products-are : (j : ℕ) → j < get_or b.lengths 1 0 → products_of e.multiplication e.meaning x.cells (lane b 0 (j ∷ [])).cells ≡ inner_products e.multiplication (row_of e x) (matrix_of e b) 0 j
  products-are j lt =
      let inside : InBox (remove b.lengths 0) (j ∷ []) = subst (λ ns. InBox (remove ns 0) (j ∷ [])) (sym (two-lengths b.lengths two)) (lt, tt) in
      (lists-meet e.multiplication e.meaning x.cells (lane b 0 (j ∷ [])).cells _ _ _ _
      (vector-values e.meaning e.addition.unit x row.whole one) (lane-values e.meaning e.addition.unit b whole 0 (omega (arith, two)) (j ∷ []) inside) meet).0

  pub sums-by_lanes : row_sums e x b ≡ map (lane_sum e x) (columns_of b).cells
  sums-by_lanes =
      let n = get_or b.lengths 1 0 in
      sym (ap (map (lane_sum e x)) columns-are
      ∙ (map-map (lane_sum e x) (lane b 0) (row_order (n ∷ []))
      ∙ (values-one (λ js. lane_sum e x (lane b 0 js)) n ∙ below-same n _ _ (λ j lt. ap (total e.addition) (products-are j lt)))))

  pub can-by_lanes : EachColumn (CanSumLanes e) b x → CanSumRow e x b
  can-by_lanes all = record {
    vector = one;
    whole = row.whole;
    inner = meet;
    sums = λ i j li lj.
        let n = get_or b.lengths 1 0 in
        let first : 0 ≡ i = omega arith in
        let lanes = mapped-all (CanSumLanes e x) (lane b 0) (row_order (n ∷ [])) (subst (All (CanSumLanes e x)) columns-are all) in
        let here = All-contains (λ js. CanSumLanes e x (lane b 0 js)) (row_order (n ∷ [])) (j ∷ []) lanes ((row_order-is (n ∷ [])).whole (j ∷ []) (lj, tt)) in
        subst (λ k. IsSummable e.addition e.InRange (inner_products e.multiplication (row_of e x) (matrix_of e b) k j)) first (subst (IsSummable e.addition e.InRange) (products-are j lj) here.1);
  }
