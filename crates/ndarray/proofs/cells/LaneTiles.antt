-- Lanes that are scanned side by side: of each the first cells are replaced, equally many.
use Rattle.std.proofs.Common.{◌≡◌, ◌≢◌, ◌+◌, ◌<◌, ℕ, List, Some, length, map, get_or, set, remove, replicate, refl, sym, ◌∙◌, ap, subst, arith}
use Rattle.std.specs.Prelude.{All, AllPairs, Contains, slice_get}
use Rattle.std.proofs.lemmas.List.{get_or-replicate, get_or-set_same, length-replicate}
use Rattle.std.proofs.lemmas.List.Elements.{All-map}
use Rattle.std.proofs.lemmas.Option.{get_or_from_slice_get, slice_get-get_or, slice_get-map, slice_get_within}
use Rattle.std.specs.Option.{option_map}
use Rattle.ndarray.specs.Grid.{Grid, IsGrid, cell}
use Rattle.ndarray.specs.Index.{InBox}
use Rattle.ndarray.specs.Scans.{MayScan, ScansTo}
use Rattle.ndarray.specs.Subviews.{lane}
use Rattle.ndarray.specs.base.LaneScans.{AreOnLanes, MayScanEach, MayStepEach, ScansEach, StepsEach, lanes_at}
use Rattle.ndarray.proofs.boxes.Boxes.{InBox-length, InBox-set}
use Rattle.ndarray.proofs.boxes.LaneIndices.{remove-set}
use Rattle.ndarray.proofs.cells.LaneCells.{lane-cell, lane-length}
use Rattle.ndarray.proofs.cells.Scans.{Along, Along-start, Along-asks, Along-next, Along-end, lane-replaced}
use Rattle.ndarray.proofs.lists.Elements.{mapped-all, slice_get-Some}
use Rattle.ndarray.proofs.lists.Pairs.{AllPairs-map}
use Rattle.ndarray.proofs.lists.Parts.{Contains-map, Contains-map_back, slice_get-map_back}

module _ {A B : Type 0} (gives : B → A → B × A → Type 0) (init : B) (old : Grid A) (k : ℕ) (iss : List (List ℕ)) where
  -- on each lane the cells before i are replaced, and its chain of steps is at its value
  pub record TileState (values : List B) (a : Grid A) (i : ℕ) : Type 0 where
    pub lengths : a.lengths ≡ old.lengths
    pub whole : IsGrid a
    pub many : length values ≡ length iss
    pub each : (t : ℕ) (is : List ℕ) (v : B) → slice_get iss t ≡ Some is → slice_get values t ≡ Some v → Along gives init (lane old k (remove is k)).cells v (lane a k (remove is k)).cells i
    pub kept : (is : List ℕ) → (Contains (lanes_at k iss) (remove is k) → ⊥) → cell a is ≡ cell old is

  pub Tile-start : IsGrid old → TileState (replicate (length iss) init) old 0
  Tile-start whole = record {
    lengths = refl;
    whole = whole;
    many = length-replicate (length iss) init;
    each = λ t is v ei ev.
        let within = slice_get_within iss t is ei in
        let n = length-replicate (length iss) init in
        let own : init ≡ v = sym (get_or-replicate (length iss) t init v (omega (arith, within, n))) ∙ get_or_from_slice_get (replicate (length iss) init) t v v ev in
        subst (λ u. Along gives init (lane old k (remove is k)).cells u (lane old k (remove is k)).cells 0) own (Along-start gives init (lane old k (remove is k)).cells);
    kept = λ is no. refl;
  }

  module _ (lt : k < length old.lengths) (on : AreOnLanes old.lengths k iss) {values : List B} {a : Grid A} {i : ℕ} (s : TileState values a i) where
    lt-now : k < length a.lengths
    lt-now = subst (λ ns. k < length ns) (sym s.lengths) lt

    inside : (t : ℕ) (is : List ℕ) → slice_get iss t ≡ Some is → InBox a.lengths is
    inside t is e = subst (λ ns. InBox ns is) (sym s.lengths) (subst (InBox old.lengths) (get_or_from_slice_get iss t is is e) (on.within t is (slice_get_within iss t is e)))

    module _ (below : i < get_or old.lengths k 0) where
      below-now : i < get_or a.lengths k 0
      below-now = subst (λ ns. i < get_or ns k 0) (sym s.lengths) below

      -- the index lists of the cells i are in the box, and on lanes of their own
      pub Tile-within : All (InBox a.lengths) (map (λ is. set is k i) iss)
      Tile-within = All-map (InBox a.lengths) (λ is. set is k i) iss (λ t d at. InBox-set a.lengths (get_or iss t d) k i (subst (λ ns. InBox ns (get_or iss t d)) (sym s.lengths) (on.within t d at)) below-now)

      pub Tile-apart : AllPairs (λ is js. is ≢ js) (map (λ is. set is k i) iss)
      Tile-apart = AllPairs-map (λ is js. is ≢ js) (λ is. set is k i) iss
          (λ p q d less at e. on.apart p q d less at (sym (remove-set (get_or iss p d) k i) ∙ (ap (λ l. remove l k) e ∙ remove-set (get_or iss q d) k i)))

      here : (t : ℕ) (is : List ℕ) → slice_get iss t ≡ Some is → slice_get (lane a k (remove is k)).cells i ≡ cell a (set is k i)
      here t is e = lane-cell a s.whole k lt-now is (inside t is e) i below-now

      pub Tile-callable : (can : B → A → Type 0) → MayScanEach gives can k init (lanes_at k iss) old → MayStepEach can (map (λ is. set is k i) iss) values (cell a)
      Tile-callable can may = record {
        each = λ t p v x ep ev ex.
            let (is, e, own) = slice_get-map_back (λ is. set is k i) iss t p ep in
            let callable : MayScan gives can init (lane old k (remove is k)).cells = subst (λ l. MayScan gives can init (lane old k (remove l k)).cells) (get_or_from_slice_get iss t is is e)
            (mapped-all (λ js. MayScan gives can init (lane old k js).cells) (λ is. remove is k) iss may.each t is (slice_get_within iss t is e)) in
            Along-asks gives init (s.each t is v e ev) (here t is e ∙ (ap (cell a) own ∙ ex)) can callable;
      }

      pub Tile-next : (after : List B) (b : Grid A) → b.lengths ≡ a.lengths → IsGrid b → StepsEach gives (map (λ is. set is k i) iss) values (cell a) after (cell b) → TileState after b (i + 1)
      Tile-next after b lengths whole did = record {
        lengths = lengths ∙ s.lengths;
        whole = whole;
        many = did.values ∙ s.many;
        each = λ t is w ei ew.
            let within = slice_get_within iss t is ei in
            let many = s.many in
            let (v, ev) = slice_get-Some values t (omega (arith, within, many)) in
            let (x, y, c, ex, ey, ec, given) = did.steps t (set is k i) v (slice_get-map (λ is. set is k i) iss t ∙ ap (option_map (λ is. set is k i)) ei) ev in
            let same : c ≡ w = cc in
            let long = InBox-length a.lengths is (inside t is ei) in
            let index = lt-now in
            let replaced : (lane b k (remove is k)).cells ≡ set (lane a k (remove is k)).cells i y =
            lane-replaced a b s.whole whole lengths k lt-now is (inside t is ei) i below-now y ey
            (λ j ne. did.kept (set is k j)
            (λ there.
            let (js, among, e) = Contains-map_back (λ is. set is k i) iss (set is k j) there in
            let n = InBox-length old.lengths js (subst (InBox old.lengths) among.2 (on.within among.0 js among.1)) in
            ne (sym (get_or-set_same is k j 0 (omega (arith, long, index))) ∙ (ap (λ l. get_or l k 0) (sym e) ∙ get_or-set_same js k i 0 (omega (arith, n, lt)))))) in
            subst (λ l. Along gives init (lane old k (remove is k)).cells w l (i + 1)) (sym replaced)
            (subst (λ u. Along gives init (lane old k (remove is k)).cells u (set (lane a k (remove is k)).cells i y) (i + 1)) same
            (Along-next gives init (s.each t is v ei ev) (here t is ei ∙ ex) c y given));
        kept = λ is no.
            did.kept is
            (λ there.
            let (js, among, e) = Contains-map_back (λ is. set is k i) iss is there in
            no (subst (Contains (lanes_at k iss)) (sym (remove-set js k i) ∙ ap (λ l. remove l k) e) (Contains-map (λ is. remove is k) iss js among)))
            ∙ s.kept is no;
      }

    pub Tile-end : i ≡ get_or old.lengths k 0 → ScansEach gives k init (lanes_at k iss) old a
    Tile-end full = record {
      lengths = s.lengths;
      whole = s.whole;
      scanned = All-map (λ js. ScansTo gives init (lane old k js).cells (lane a k js).cells) (λ is. remove is k) iss
          (λ t d at.
          let is : List ℕ = get_or iss t d in
          let e : slice_get iss t ≡ Some is = slice_get-get_or iss t d at in
          let many = s.many in
          let (v, ev) = slice_get-Some values t (omega (arith, at, many)) in
          let long = lane-length a s.whole k lt-now is (inside t is e) in
          Along-end gives init (s.each t is v e ev) (full ∙ (ap (λ ns. get_or ns k 0) (sym s.lengths) ∙ sym long)));
      kept = s.kept;
    }
