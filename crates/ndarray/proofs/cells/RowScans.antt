-- Lanes that are scanned some after others, or row by row of their first cells.
use Rattle.std.proofs.Common.{◌≡◌, ◌≢◌, ◌<◌, ◌≤◌, ℕ, List, [], ◌∷◌, ◌++◌, length, get_or, set, insert, remove, refl, sym, ◌∙◌, ap, subst, arith, append-nil, append_assoc}
use Rattle.std.specs.Prelude.{All, Contains}
use Rattle.std.proofs.lemmas.List.{get_or_default, map-append}
use Rattle.std.proofs.lemmas.List.Edits.{length-remove}
use Rattle.std.proofs.lemmas.List.Elements.{All-append, All-contains, All-map, All-weaker, Contains-append_left, Contains-append_right, Contains-get_or}
use Rattle.ndarray.specs.Grid.{Grid, IsGrid}
use Rattle.ndarray.specs.Index.{InBox}
use Rattle.ndarray.specs.Orders.{box_in}
use Rattle.ndarray.specs.order.Rows.{joined, rows_in}
use Rattle.ndarray.specs.Scans.{MayScan, MayScanLanes, ScansLanes, ScansTo}
use Rattle.ndarray.specs.Subviews.{lane}
use Rattle.ndarray.specs.base.LaneScans.{AreOnLanes, MayScanEach, ScansEach, lanes_at}
use Rattle.ndarray.specs.base.Ranks.{rank_in}
use Rattle.ndarray.specs.declared.base.shape.Order.{Order}
use Rattle.ndarray.proofs.boxes.Boxes.{InBox-length}
use Rattle.ndarray.proofs.boxes.LaneIndices.{AreOnLanes-first, AreOnLanes-second}
use Rattle.ndarray.proofs.boxes.Orders.{box_in-at, box_in-back, box_in-within, length-box_in, rank_in-lt}
use Rattle.ndarray.proofs.boxes.Rows.{rows-joined}
use Rattle.ndarray.proofs.cells.LaneCells.{lane-among}
use Rattle.ndarray.proofs.cells.Scans.{first-inside, first-of_lane, lane-kept, lane-of_first, lanes-scanned, same-first}
use Rattle.ndarray.proofs.lists.Elements.{mapped-all}
use Rattle.ndarray.proofs.lists.Parts.{All-first, All-second, AllPairs-across, Contains-map, Contains-map_back}

-- some of the lanes of an array are scanned, and then others
module _ {A B : Type 0} (gives : B → A → B × A → Type 0) (init : B) (k : ℕ) (old : Grid A) where
  pub none-scanned : IsGrid old → ScansEach gives k init [] old old
  none-scanned whole = record { lengths = refl; whole = whole; scanned = λ j d at. absurd (omega (arith, at)); kept = λ is no. refl }

  module _ (lt : k < length old.lengths) (done part rest : List (List ℕ)) (on : AreOnLanes old.lengths k (done ++ (part ++ rest))) (a : Grid A) (before : ScansEach gives k init (lanes_at k done) old a) where
    pub part-on : AreOnLanes a.lengths k part
    part-on = subst (λ ns. AreOnLanes ns k part) (sym before.lengths) (AreOnLanes-first old.lengths k part rest (AreOnLanes-second old.lengths k done (part ++ rest) on))

    apart : (is js : List ℕ) → Contains done is → Contains part js → remove is k ≢ remove js k
    apart is js d p = AllPairs-across (λ is js. remove is k ≢ remove js k) done (part ++ rest) is js on.apart d (Contains-append_left part rest js p)

    short : (ls : List (List ℕ)) → All (InBox old.lengths) ls → All (λ js. k ≤ length js) (lanes_at k ls)
    short ls within = All-map (λ js. k ≤ length js) (λ is. remove is k) ls
        (λ j d at. let b = InBox-length old.lengths (get_or ls j d) (within j d at) in let r = length-remove (get_or ls j d) k (omega (arith, b, lt)) in omega (arith, b, r, lt))

    -- the lanes of the part are as they were
    lane-before : All (λ js. lane a k js ≡ lane old k js) (lanes_at k part)
    lane-before = All-map (λ js. lane a k js ≡ lane old k js) (λ is. remove is k) part
        (λ j d at. lane-kept a old k (remove (get_or part j d) k) before.lengths
        (mapped-all (λ js. k ≤ length js) (λ is. remove is k) part (short part (AreOnLanes-first old.lengths k part rest (AreOnLanes-second old.lengths k done (part ++ rest) on)).within) j d at)
        (λ is e. before.kept is (λ c. let (s, d', q) = Contains-map_back (λ js. remove js k) done (remove is k) c in apart s (get_or part j d) d' (Contains-get_or part j d at) (q ∙ e))))

    pub part-callable : (can : B → A → Type 0) → MayScanEach gives can k init (lanes_at k (done ++ (part ++ rest))) old → MayScanEach gives can k init (lanes_at k part) a
    part-callable can may = record {
      each = All-map (λ js. MayScan gives can init (lane a k js).cells) (λ is. remove is k) part
          (λ j d at. subst (λ w. MayScan gives can init w.cells) (sym (mapped-all (λ js. lane a k js ≡ lane old k js) (λ is. remove is k) part lane-before j d at))
          (All-first (λ is. MayScan gives can init (lane old k (remove is k)).cells) part rest
          (All-second (λ is. MayScan gives can init (lane old k (remove is k)).cells) done (part ++ rest)
          (mapped-all (λ js. MayScan gives can init (lane old k js).cells) (λ is. remove is k) (done ++ (part ++ rest)) may.each)) j d at));
    }

    pub part-scanned : (b : Grid A) → ScansEach gives k init (lanes_at k part) a b → ScansEach gives k init (lanes_at k (done ++ part)) old b
    part-scanned b after = record {
      lengths = after.lengths ∙ before.lengths;
      whole = after.whole;
      scanned = subst (All (λ js. ScansTo gives init (lane old k js).cells (lane b k js).cells)) (sym (map-append (λ is. remove is k) done part))
          (All-append (λ js. ScansTo gives init (lane old k js).cells (lane b k js).cells) (lanes_at k done) (lanes_at k part)
          (All-map (λ js. ScansTo gives init (lane old k js).cells (lane b k js).cells) (λ is. remove is k) done
          (λ j d at.
          let t : List ℕ = get_or done j d in
          let long = mapped-all (λ js. k ≤ length js) (λ is. remove is k) done (short done (AreOnLanes-first old.lengths k done (part ++ rest) on).within) j d at in
          let same : lane b k (remove t k) ≡ lane a k (remove t k) = lane-kept b a k (remove t k) after.lengths long
          (λ is e. after.kept is (λ c. let (s, d', q) = Contains-map_back (λ js. remove js k) part (remove is k) c in apart t s (Contains-get_or done j d at) d' (sym (q ∙ e)))) in
          subst (λ w. ScansTo gives init (lane old k (remove t k)).cells w.cells) (sym same)
          (mapped-all (λ js. ScansTo gives init (lane old k js).cells (lane a k js).cells) (λ is. remove is k) done before.scanned j d at)))
          (All-map (λ js. ScansTo gives init (lane old k js).cells (lane b k js).cells) (λ is. remove is k) part
          (λ j d at. subst (λ w. ScansTo gives init w.cells (lane b k (remove (get_or part j d) k)).cells) (mapped-all (λ js. lane a k js ≡ lane old k js) (λ is. remove is k) part lane-before j d at)
          (mapped-all (λ js. ScansTo gives init (lane a k js).cells (lane b k js).cells) (λ is. remove is k) part after.scanned j d at))));
      kept = λ is no.
          let split = map-append (λ js. remove js k) done part in
          after.kept is (λ c. no (subst (λ l. Contains l (remove is k)) (sym split) (Contains-append_right (lanes_at k done) (lanes_at k part) (remove is k) c)))
          ∙ before.kept is (λ c. no (subst (λ l. Contains l (remove is k)) (sym split) (Contains-append_left (lanes_at k done) (lanes_at k part) (remove is k) c)));
    }

-- the index lists of the first cells of lanes along an axis are on lanes of their own
module _ (ns : List ℕ) (k m : ℕ) (lt : k < length ns) (one : m ≤ 1) (most : m ≤ get_or ns k 0) where
  pub firsts-on : (o : Order) → AreOnLanes ns k (box_in o (set ns k m))
  firsts-on o = record {
    within = All-weaker (InBox (set ns k m)) (InBox ns) (first-inside ns k m lt one most) (box_in o (set ns k m)) (box_in-within o (set ns k m));
    apart = λ i j d below at e.
        let many = length-box_in o (set ns k m) in
        let s : List ℕ = get_or (box_in o (set ns k m)) i d in
        let t : List ℕ = get_or (box_in o (set ns k m)) j d in
        let same : s ≡ t = same-first ns k m lt one most s t (box_in-within o (set ns k m) i d (omega (arith, below, at))) (box_in-within o (set ns k m) j d at) e in
        let bi = (box_in-back o (set ns k m) i (omega (arith, below, at, many))).1 in
        let bj = (box_in-back o (set ns k m) j (omega (arith, at, many))).1 in
        let di = get_or_default (box_in o (set ns k m)) i [] d (omega (arith, below, at)) in
        let dj = get_or_default (box_in o (set ns k m)) j [] d at in
        let z : i ≡ j = sym bi ∙ (ap (rank_in o (set ns k m)) (di ∙ (same ∙ sym dj)) ∙ bj) in
        omega (arith, below, z);
  }

-- all lanes along an axis, by the index lists of their first cells
module _ {A B : Type 0} (gives : B → A → B × A → Type 0) (init : B) (old : Grid A) (k m : ℕ) (o : Order) (lt : k < length old.lengths) (some : 0 < get_or old.lengths k 0 → m ≡ 1) where
  pub firsts-callable : (can : B → A → Type 0) → IsGrid old → m ≤ 1 → m ≤ get_or old.lengths k 0 → MayScanLanes gives can k init old → MayScanEach gives can k init (lanes_at k (box_in o (set old.lengths k m))) old
  firsts-callable can whole one most may = record {
    each = All-map (λ js. MayScan gives can init (lane old k js).cells) (λ is. remove is k) (box_in o (set old.lengths k m))
        (λ j d at.
        let s : List ℕ = get_or (box_in o (set old.lengths k m)) j d in
        let inside : InBox old.lengths s = (firsts-on old.lengths k m lt one most o).within j d at in
        may.lanes (remove s k) (lane old k (remove s k)) (lane-among old whole k lt s inside));
  }

  -- each lane begins in the box
  begins : (js : List ℕ) → InBox (remove old.lengths k) js → 0 < get_or old.lengths k 0 → Contains (lanes_at k (box_in o (set old.lengths k m))) js
  begins js b more =
      let d = first-of_lane old.lengths k lt js b m more (some more) in
      let many = length-box_in o (set old.lengths k m) in
      let rank = rank_in-lt o (set old.lengths k m) (insert js k 0) d in
      subst (Contains (lanes_at k (box_in o (set old.lengths k m)))) (lane-of_first old.lengths k lt js b)
      (Contains-map (λ is. remove is k) (box_in o (set old.lengths k m)) (insert js k 0)
      (rank_in o (set old.lengths k m) (insert js k 0), omega (arith, rank, many), box_in-at o (set old.lengths k m) (insert js k 0) (insert js k 0) d))

  pub firsts-end : (a : Grid A) → ScansEach gives k init (lanes_at k (box_in o (set old.lengths k m))) old a → ScansLanes gives k init old a
  firsts-end a l = lanes-scanned gives init old a k lt l.lengths l.whole
      (λ js b more. All-contains (λ js. ScansTo gives init (lane old k js).cells (lane a k js).cells) (lanes_at k (box_in o (set old.lengths k m))) js l.scanned (begins js b more))

-- all lanes along an axis, by rows of the index lists of their first cells, of which some are done
module _ {A B : Type 0} (gives : B → A → B × A → Type 0) (init : B) (old : Grid A) (k m : ℕ) where
  pub record RowsState (rows : List (List (List ℕ))) (a : Grid A) : Type 0 where
    pub order : Order
    pub done : List (List ℕ)
    pub parts : done ++ joined rows ≡ box_in order (set old.lengths k m)
    pub scanned : ScansEach gives k init (lanes_at k done) old a

  pub Rows-start : (o : Order) (rows : List (List (List ℕ))) → rows ≡ rows_in o (set old.lengths k m) → IsGrid old → RowsState rows old
  Rows-start o rows e whole = record { order = o; done = []; parts = ap joined e ∙ rows-joined o (set old.lengths k m); scanned = none-scanned gives init k old whole }

  module _ (lt : k < length old.lengths) (one : m ≤ 1) (most : m ≤ get_or old.lengths k 0) {rows rest : List (List (List ℕ))} {row : List (List ℕ)} {a : Grid A} (s : RowsState rows a) (next : rows ≡ row ∷ rest) where
    parts-now : s.done ++ (row ++ joined rest) ≡ box_in s.order (set old.lengths k m)
    parts-now = ap (λ ls. s.done ++ joined ls) (sym next) ∙ s.parts

    on : AreOnLanes old.lengths k (s.done ++ (row ++ joined rest))
    on = subst (AreOnLanes old.lengths k) (sym parts-now) (firsts-on old.lengths k m lt one most s.order)

    pub Rows-on : AreOnLanes a.lengths k row
    Rows-on = part-on gives init k old lt s.done row (joined rest) on a s.scanned

    pub Rows-callable : (can : B → A → Type 0) → (0 < get_or old.lengths k 0 → m ≡ 1) → IsGrid old → MayScanLanes gives can k init old → MayScanEach gives can k init (lanes_at k row) a
    Rows-callable can some whole may = part-callable gives init k old lt s.done row (joined rest) on a s.scanned can
        (subst (λ ls. MayScanEach gives can k init (lanes_at k ls) old) (sym parts-now) (firsts-callable gives init old k m s.order lt some can whole one most may))

    pub Rows-next : (b : Grid A) → ScansEach gives k init (lanes_at k row) a b → RowsState rest b
    Rows-next b after = record {
      order = s.order;
      done = s.done ++ row;
      parts = append_assoc s.done row (joined rest) ∙ parts-now;
      scanned = part-scanned gives init k old lt s.done row (joined rest) on a s.scanned b after;
    }

  pub Rows-end : k < length old.lengths → (0 < get_or old.lengths k 0 → m ≡ 1) → {rows : List (List (List ℕ))} {a : Grid A} → RowsState rows a → rows ≡ [] → ScansLanes gives k init old a
  Rows-end lt some {rows} {a} s none = firsts-end gives init old k m s.order lt some a
      (subst (λ ls. ScansEach gives k init (lanes_at k ls) old a) (sym (append-nil s.done) ∙ (ap (λ ls. s.done ++ joined ls) (sym none) ∙ s.parts)) s.scanned)
