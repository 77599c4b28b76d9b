-- The rows of a table: items along its first axis, and lanes along its second.
use Rattle.std.proofs.Common.{◌≡◌, ◌∙◌, ◌<◌, ℕ, List, [], ◌∷◌, length, get_or, map, refl, ap, sym, subst, arith, remove, insert}
use Rattle.std.specs.List.{range_with_len}
use Rattle.std.proofs.lemmas.List.{length-map}
use Rattle.std.proofs.lemmas.List.FromFn.{length-range_with_len}
use Rattle.std.proofs.lemmas.Simd.{map-map}
use Rattle.ndarray.specs.Elementwise.{CanMap}
use Rattle.ndarray.specs.Everyday.{lanes_mapped}
use Rattle.ndarray.specs.Grid.{Grid, array_by, cell, grid, one_axis}
use Rattle.ndarray.specs.Index.{InBox, row_order}
use Rattle.ndarray.specs.Subviews.{axis_items, lane, lanes_of}
use Rattle.ndarray.specs.Views.{axis_item}
use Rattle.ndarray.proofs.callers.Collecting.{array_by-at, lanes_of-some}
use Rattle.ndarray.proofs.cells.Cells.{cell-inside, tabulate-same}
use Rattle.ndarray.proofs.cells.Matrices.{two-lengths}
use Rattle.ndarray.proofs.convolution.OneAxis.{row_order-one}

-- a row is the lane there
pub row-is : {A : Type 0} (g : Grid A) → length g.lengths ≡ 2 → (i : ℕ) → axis_item g 0 i ≡ lane g 1 (i ∷ [])
row-is g two i =
    tabulate-same (remove g.lengths 0) (get_or g.lengths 1 0 ∷ []) (λ is. cell g (insert is 0 i)) (λ is. cell g (insert (i ∷ []) 1 (get_or is 0 0))) (ap (λ ns. remove ns 0) (two-lengths g.lengths two))
    (λ is b. one is (subst (λ ns. InBox (remove ns 0) is) (two-lengths g.lengths two) b))
  where
    one : (is : List ℕ) → InBox (get_or g.lengths 1 0 ∷ []) is → cell g (insert is 0 i) ≡ cell g (insert (i ∷ []) 1 (get_or is 0 0))
    one [] b = absurd b
    one (j ∷ []) b = refl
    one (j ∷ k ∷ is) b = absurd b.1

-- h of each lane along the second axis is the list of h of each row
pub rows-mapped : {A B : Type 0} (h : Grid A → B) (g : Grid A) → length g.lengths ≡ 2 → lanes_mapped h g 1 ≡ one_axis (map h (axis_items g 0))
rows-mapped h g two =
    let n : ℕ = get_or g.lengths 0 0 in
    let rows = range_with_len 0 n in
    let list : map (λ js. h (lane g 1 js)) (row_order (n ∷ [])) ≡ map h (axis_items g 0) =
    ap (map (λ js. h (lane g 1 js))) (row_order-one n)
    ∙ (map-map (λ js. h (lane g 1 js)) (λ k. k ∷ []) rows ∙ ((λ i. map (λ k. h (sym (row-is g two k) i)) rows) ∙ sym (map-map h (axis_item g 0) rows))) in
    let long : n ≡ length (map h (axis_items g 0)) = sym (length-map (axis_items g 0) h ∙ (length-map rows (axis_item g 0) ∙ length-range_with_len 0 n)) in
    ap (λ ns. array_by (remove ns 1) (λ js. h (lane g 1 js))) (two-lengths g.lengths two) ∙ (λ i. grid (long i ∷ []) (list i))

-- what holds of each row holds of each lane
pub row-lanes : {A : Type 0} (g : Grid A) → length g.lengths ≡ 2 → (P : Grid A → Type 0) → ((i : ℕ) → i < get_or g.lengths 0 0 → P (axis_item g 0 i)) → CanMap P (lanes_of g 1)
row-lanes g two P each js l e =
    let among : lanes_of g 1 ≡ array_by (remove g.lengths 1) (lane g 1) = lanes_of-some g.lengths g 1 (omega (arith, two)) in
    let b = cell-inside (lanes_of g 1) js l e in
    one js (subst (λ ns. InBox (remove ns 1) js) (two-lengths g.lengths two) (subst (λ w. InBox w.lengths js) among b)) (array_by-at (remove g.lengths 1) (lane g 1) (lanes_of g 1) js l among b e)
  where
    one : (js : List ℕ) → InBox (get_or g.lengths 0 0 ∷ []) js → l ≡ lane g 1 js → P l
    one [] b is_lane = absurd b
    one (i ∷ []) b is_lane = subst P (row-is g two i ∙ sym is_lane) (each i b.0)
    one (i ∷ k ∷ js) b is_lane = absurd b.1
