-- The places of the cells of a lane, one after another.
use Rattle.std.proofs.Common.{◌≡◌, ◌≢◌, ◌+◌, ◌<◌, ℕ, zero, suc, List, Option, length, get_or, filter_map, set, remove, sym, ◌∙◌, ap, subst, arith, inl, inr}
use Rattle.std.specs.Prelude.{All, Contains, IsTrue}
use Rattle.std.specs.Option.{is_some}
use Rattle.std.proofs.lemmas.List.{get_or-map, get_or-set_same}
use Rattle.ndarray.specs.Grid.{Grid, IsGrid, cell}
use Rattle.ndarray.specs.Index.{InBox}
use Rattle.ndarray.specs.Subviews.{lane}
use Rattle.ndarray.specs.base.Places.{Reaches, grid_at, place}
use Rattle.ndarray.specs.base.Ranks.{row_at, row_from}
use Rattle.ndarray.specs.base.Strided.{places_from}
use Rattle.ndarray.specs.places.ElementPlaces.{AreDistinctPlaces}
use Rattle.ndarray.proofs.boxes.Boxes.{InBox-length, InBox-set}
use Rattle.ndarray.proofs.boxes.LaneIndices.{remove-set}
use Rattle.ndarray.proofs.boxes.RowParts.{row_at-further, row_at-none}
use Rattle.ndarray.proofs.cells.Cells.{cell-outside}
use Rattle.ndarray.proofs.cells.LaneCells.{lane-cell, lane-length}
use Rattle.ndarray.proofs.cells.LaneSteps.{InBox-or_not}
use Rattle.ndarray.proofs.lists.Elements.{length-filter_map_all, same_from_slice_get, slice_get-filter_map_all, some-of}
use Rattle.ndarray.proofs.lists.Parts.{Contains-or_not}
use Rattle.ndarray.proofs.strides.NestedPlaces.{Reaches-apart}
use Rattle.ndarray.proofs.strides.Reach.{cell-at}
use Rattle.ndarray.proofs.strides.Rows.{length-places_from, length-row_from, row-places}

-- the index list that comes j after the first of a row
pub row-get : (n : ℕ) (is : List ℕ) (axis j : ℕ) (d : List ℕ) → j < n → get_or (row_from is axis n) j d ≡ row_at is axis j
row-get zero is axis j d lt = absurd (omega (arith, lt))
row-get (suc n) is axis zero d lt = sym (row_at-none is axis)
row-get (suc n) is axis (suc j) d lt =
    let e : 1 + j ≡ suc j = omega arith in
    row-get n (row_at is axis 1) axis j d (omega (arith, lt)) ∙ (row_at-further is axis 1 j ∙ ap (row_at is axis) e)

-- the places of n cells along an axis, from an index list on
abbrev pub lane_places : ℕ → List ℕ → ℕ → List ℕ → ℕ → List ℕ
lane_places start bs k is n = places_from (place start bs is) (get_or bs k 0) n

module _ (ns : List ℕ) (start : ℕ) (bs : List ℕ) (k : ℕ) (lt : k < length ns) (is : List ℕ) (b : InBox ns is) (first : get_or is k 0 ≡ 0) (n : ℕ) (len : n ≡ get_or ns k 0) where
  inside : (j : ℕ) → j < n → InBox ns (set is k j)
  inside j less = InBox-set ns is k j b (omega (arith, less, len))

  module _ {A one : Type 0} (it : one) (at : ℕ → Option A) (h : Reaches one at ns start bs) where
    place-of : (j d : ℕ) → j < n → get_or (lane_places start bs k is n) j d ≡ place start bs (set is k j)
    place-of j d less =
        let long : length bs ≡ length is = h.as_many ∙ sym (InBox-length ns is b) in
        let many = length-row_from is k n in
        ap (λ l. get_or l j d) (sym (row-places start bs k n is long))
        ∙ (get_or-map (place start bs) (row_from is k n) j is d (omega (arith, many, less))
        ∙ (ap (place start bs) (row-get n is k j is less) ∙ ap (λ m. place start bs (set is k (m + j))) first ∙ ap (λ m. place start bs (set is k m)) (let e : 0 + j ≡ j = omega arith in e)))

    lane-held : All (λ p. IsTrue (is_some (at p))) (lane_places start bs k is n)
    lane-held = λ j d less.
        let l = length-places_from (place start bs is) (get_or bs k 0) n in
        let below : j < n = omega (arith, less, l) in
        subst (λ p. IsTrue (is_some (at p))) (sym (place-of j d below)) (h.inside (set is k j) (inside j below))

    pub lane-distinct : AreDistinctPlaces at (lane_places start bs k is n)
    lane-distinct = record {
      held = lane-held;
      once = λ i j d less below e.
          let l = length-places_from (place start bs is) (get_or bs k 0) n in
          let many = InBox-length ns is b in
          let i-below : i < n = omega (arith, less, below, l) in
          let j-below : j < n = omega (arith, below, l) in
          let same = Reaches-apart at ns start bs h it (set is k i) (set is k j) (inside i i-below) (inside j j-below) (sym (place-of i d i-below) ∙ (e ∙ place-of j d j-below)) in
          let equal : i ≡ j = sym (get_or-set_same is k i 0 (omega (arith, many, lt))) ∙ (ap (λ l. get_or l k 0) same ∙ get_or-set_same is k j 0 (omega (arith, many, lt))) in
          omega (arith, equal, less);
    }

    -- the elements there are the cells of the lane
    pub lane-elements : (g : Grid A) → grid_at at ns start bs ≡ g → IsGrid g → filter_map at (lane_places start bs k is n) ≡ (lane g k (remove is k)).cells
    lane-elements g is-g whole =
        let lengths : ns ≡ g.lengths = ap (λ w. w.lengths) is-g in
        let lt-g : k < length g.lengths = subst (λ ms. k < length ms) lengths lt in
        let b-g : InBox g.lengths is = subst (λ ms. InBox ms is) lengths b in
        let axis : get_or ns k 0 ≡ get_or g.lengths k 0 = ap (λ ms. get_or ms k 0) lengths in
        let some = λ (j d : ℕ) (less : j < length (lane_places start bs k is n)). some-of (at (get_or (lane_places start bs k is n) j d)) (lane-held j d less) in
        let l = length-places_from (place start bs is) (get_or bs k 0) n in
        let long = length-filter_map_all at (lane_places start bs k is n) some in
        let own = lane-length g whole k lt-g is b-g in
        same_from_slice_get (filter_map at (lane_places start bs k is n)) (lane g k (remove is k)).cells (omega (arith, long, l, own, axis, len))
        (λ j less.
        let below : j < n = omega (arith, less, long, l) in
        slice_get-filter_map_all at (lane_places start bs k is n) j 0 some (omega (arith, less, long))
        ∙ (ap at (place-of j 0 below)
        ∙ (sym (cell-at at ns start bs h (set is k j) (inside j below))
        ∙ (ap (λ w. cell w (set is k j)) is-g ∙ sym (lane-cell g whole k lt-g is b-g j (omega (arith, below, len, axis)))))))

    -- what is there after a scan of the lane
    module _ (after : ℕ → Option A) (distinct : AreDistinctPlaces after (lane_places start bs k is n)) (kept : (p : ℕ) → (Contains (lane_places start bs k is n) p → ⊥) → after p ≡ at p) where
      pub lane-reached : Reaches one after ns start bs
      lane-reached = record {
        as_many = h.as_many;
        limit = h.limit;
        inside = λ js c. elim (Contains-or_not (lane_places start bs k is n) (place start bs js)) [
          | inl there ↦ subst (λ p. IsTrue (is_some (after p))) there.2 (distinct.held there.0 (place start bs js) there.1)
          | inr none ↦ subst (λ o. IsTrue (is_some o)) (sym (kept (place start bs js) none)) (h.inside js c)
        ];
        nested = h.nested;
      }

      pub lane-others : (g : Grid A) → grid_at at ns start bs ≡ g → (js : List ℕ) → remove js k ≢ remove is k → cell (grid_at after ns start bs) js ≡ cell g js
      lane-others g is-g js ne = elim (InBox-or_not ns js) [
        | inl c ↦ cell-at after ns start bs lane-reached js c
            ∙ (kept (place start bs js)
            (λ there.
            let l = length-places_from (place start bs is) (get_or bs k 0) n in
            let less = there.1 in
            let below : there.0 < n = omega (arith, less, l) in
            let same = Reaches-apart at ns start bs h it (set is k there.0) js (inside there.0 below) c (sym (place-of there.0 (place start bs js) below) ∙ there.2) in
            ne (ap (λ l. remove l k) (sym same) ∙ remove-set is k there.0))
            ∙ (sym (cell-at at ns start bs h js c) ∙ ap (λ w. cell w js) is-g))
        | inr out ↦ cell-outside (grid_at after ns start bs) js out ∙ (sym (cell-outside (grid_at at ns start bs) js out) ∙ ap (λ w. cell w js) is-g)
      ]
