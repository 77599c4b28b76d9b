-- An array that is broadcast to its own lengths, or to those with one more before them.
use Rattle.std.proofs.Common.{◌≡◌, ℕ, suc, ◌+◌, ◌-◌, List, [], ◌∷◌, Option, Some, inr, length, drop, get_or, refl, sym, ◌∙◌, ap, arith, cond}
use Rattle.std.proofs.lemmas.Bool.Decides.{nat_tests}
use Rattle.std.specs.Prelude.{◌==◌, ◌<◌}
use Rattle.ndarray.specs.Broadcast.{BroadcastsTo, broadcast_index, zero_on_unit_axes}
use Rattle.ndarray.specs.Grid.{Grid, IsGrid, cell, cells_by}
use Rattle.ndarray.specs.Index.{InBox, row_order}
use Rattle.ndarray.specs.Views.{broadcast_to}
use Rattle.ndarray.proofs.boxes.Boxes.{InBox-length}
use Rattle.ndarray.proofs.boxes.Orders.{length-row_order, row_order-is}
use Rattle.ndarray.proofs.cells.Cells.{cell-Some, tabulate-cell, tabulate-is}
use Rattle.ndarray.proofs.lists.Elements.{length-filter_map_all}

own-index : (n j : ℕ) → j < n → cond (n == 1) 0 j ≡ j
own-index n j lt = grind (arith, nat_tests)

own-indices : (ns is : List ℕ) → InBox ns is → zero_on_unit_axes ns is ≡ is
own-indices [] [] b = refl
own-indices [] (i ∷ is) b = absurd b
own-indices (n ∷ ns) [] b = absurd b
own-indices (n ∷ ns) (i ∷ is) b = ap (λ j. j ∷ zero_on_unit_axes ns is) (own-index n i b.0) ∙ ap (λ l. i ∷ l) (own-indices ns is b.1)

-- each index list is at its own
pub broadcast_index-own : (ns is : List ℕ) → InBox ns is → broadcast_index ns is ≡ is
unfolding broadcast_index
broadcast_index-own ns is b =
    let none : length is - length ns ≡ 0 = (let l = InBox-length ns is b in omega arith) in
    ap (λ k. zero_on_unit_axes ns (drop k is)) none ∙ own-indices ns is b

-- so it is the array itself
pub broadcast_to-own : {A : Type 0} (g : Grid A) → IsGrid g → broadcast_to g g.lengths ≡ g
broadcast_to-own g whole = sym (tabulate-is g g.lengths (λ is. cell g (broadcast_index g.lengths is)) whole refl (λ is b. ap (cell g) (sym (broadcast_index-own g.lengths is b))))

-- at one index more before an index list it is at that index list
pub broadcast_index-row : (ns : List ℕ) (i : ℕ) (js : List ℕ) → InBox ns js → broadcast_index ns (i ∷ js) ≡ js
unfolding broadcast_index
broadcast_index-row ns i js b =
    let one : suc (length js) - length ns ≡ 1 = (let l = InBox-length ns js b in omega arith) in
    ap (λ k. zero_on_unit_axes ns (drop k (i ∷ js))) one ∙ own-indices ns js b

-- with one axis more before its own, lengths are broadcast
pub broadcasts-row : (n : ℕ) (ns : List ℕ) → BroadcastsTo ns (n ∷ ns)
broadcasts-row n ns = record {
  fewer = omega arith;
  agree = λ k lt. inr (ap (λ j. get_or (n ∷ ns) j 0) (let e : suc k ≡ suc (length ns) - length ns + k = omega arith in e));
}

row-cell : {A : Type 0} (n : ℕ) (g : Grid A) → IsGrid g → (is : List ℕ) → InBox (n ∷ g.lengths) is → (x : A) × (cell g (broadcast_index g.lengths is) ≡ Some x)
row-cell n g whole [] b = absurd b
row-cell n g whole (i ∷ js) b = let c = cell-Some g whole js b.1 in (c.0, ap (cell g) (broadcast_index-row g.lengths i js b.1) ∙ c.1)

-- and so each index of that axis has the array's own cells
pub broadcast_to-row : {A : Type 0} (n : ℕ) (g : Grid A) → IsGrid g → (i : ℕ) (js : List ℕ) → InBox (n ∷ g.lengths) (i ∷ js) → cell (broadcast_to g (n ∷ g.lengths)) (i ∷ js) ≡ cell g js
unfolding cells_by
broadcast_to-row {A} n g whole i js b =
    let ns : List ℕ = n ∷ g.lengths in
    let f : List ℕ → Option A = λ is. cell g (broadcast_index g.lengths is) in
    tabulate-cell ns f (i ∷ js) (length-filter_map_all f (row_order ns) (λ k d lt. row-cell n g whole _ ((row_order-is ns).within k d lt)) ∙ length-row_order ns) b
    ∙ ap (cell g) (broadcast_index-row g.lengths i js b.1)
