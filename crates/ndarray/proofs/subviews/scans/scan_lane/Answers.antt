use Rattle.std.proofs.Common.{◌≡◌, ◌∙◌, ◌<◌, List, ℕ, filter_map, length, get_or, ap, refl, remove, subst, sym}
use Rattle.std.specs.Prelude.{Contains, ⊤}
use Rattle.ndarray.specs.Grid.{IsGrid}
use Rattle.ndarray.specs.Scans.{MayScan, ScansTo, can_step, step_gives}
use Rattle.ndarray.specs.base.Places.{Reaches, grid_at, place}
use Rattle.ndarray.specs.base.Strided.{places_from}
use Rattle.ndarray.specs.Index.{InBox}
use Rattle.ndarray.specs.Subviews.{lane}
use Rattle.ndarray.specs.places.ElementPlaces.{AreDistinctPlaces}
use Rattle.ndarray.proofs.boxes.Boxes.{InBox-length}
use Rattle.ndarray.proofs.cells.LanePlaces.{lane-distinct, lane-elements, lane-others, lane-reached, lane_places}
use Rattle.ndarray.proofs.strides.Reach.{length-cells_at}
use Rattle.ndarray.proofs.subviews.scans.scan_lane.Goals.{After-array, After-scan_places}
use Rattle.ndarray.proofs.subviews.scans.scan_lane.Goals as goal

-- the places of the row are those of the lane's cells
same-places : (start : ℕ) (bs is : List ℕ) (k n p s : ℕ) → p ≡ place start bs is → s ≡ get_or bs k 0 → lane_places start bs k is n ≡ places_from p s n
same-places start bs is k n p s here step = ap (λ q. places_from q (get_or bs k 0) n) (sym here) ∙ ap (λ t. places_from p t n) (sym step)

module _ (g : _) (c : After-array g) where
  lengths : g.D.Lengths.numbers c.array.inside.layout.dim ≡ c.args.array.now.lengths
  lengths = ap (λ v. v.lengths) c.array.view_is

  within : InBox (g.D.Lengths.numbers c.array.inside.layout.dim) (g.D.Lengths.numbers c.args.first.now)
  within = subst (λ ns. InBox ns (g.D.Lengths.numbers c.args.first.now)) (sym lengths) c.requires.within

  axis : c.args.axis < length (g.D.Lengths.numbers c.array.inside.layout.dim)
  axis = subst (λ ns. c.args.axis < length ns) (sym lengths) c.requires.axis

  len : c.args.len ≡ get_or (g.D.Lengths.numbers c.array.inside.layout.dim) c.args.axis 0
  len = c.requires.len ∙ ap (λ ns. get_or ns c.args.axis 0) (sym lengths)

  as-long : length (g.D.Lengths.numbers c.array.inside.layout.strides) ≡ length (g.D.Lengths.numbers c.args.first.now)
  as-long = c.array.invariant.as_many ∙ sym (InBox-length _ _ within)

  reach : Reaches ⊤ (g.S.Data.at c.array.inside.storage) (g.D.Lengths.numbers c.array.inside.layout.dim) c.array.inside.layout.start (g.D.Lengths.numbers c.array.inside.layout.strides)
  reach =
      let h = c.array.invariant in
      record { as_many = h.as_many; limit = h.limit; inside = h.inside; nested = λ _. h.nested (g.met.S.DataMut.is_apart c.array.inside.storage) }

  -- the elements at the places are the cells of the lane
  elements : filter_map (g.S.Data.at c.array.inside.storage) (lane_places c.array.inside.layout.start (g.D.Lengths.numbers c.array.inside.layout.strides) c.args.axis (g.D.Lengths.numbers c.args.first.now) c.args.len) ≡ (lane c.args.array.now c.args.axis (remove (g.D.Lengths.numbers c.args.first.now) c.args.axis)).cells
  elements = lane-elements (g.D.Lengths.numbers c.array.inside.layout.dim) c.array.inside.layout.start (g.D.Lengths.numbers c.array.inside.layout.strides) c.args.axis axis (g.D.Lengths.numbers c.args.first.now) within c.requires.first c.args.len len tt
      (g.S.Data.at c.array.inside.storage) reach c.args.array.now c.array.view_is c.requires.whole

pub place-requires : goal.place-requires
place-requires g c = as-long g c

pub scan_places-requires-clause-distinct : goal.scan_places-requires-clause-distinct
scan_places-requires-clause-distinct g c =
    let a = c.array.inside in
    let x = (goal.at.scan_places-requires-clause-distinct g c).After-array in
    subst (AreDistinctPlaces (g.S.Data.at a.storage)) (same-places a.layout.start (g.D.Lengths.numbers a.layout.strides) (g.D.Lengths.numbers c.args.first.now) c.args.axis c.args.len c.place.result c.stride.result c.place.ensures c.stride.ensures)
    (lane-distinct (g.D.Lengths.numbers a.layout.dim) a.layout.start (g.D.Lengths.numbers a.layout.strides) c.args.axis (axis g x) (g.D.Lengths.numbers c.args.first.now) (within g x) c.requires.first c.args.len (len g x) tt (g.S.Data.at a.storage) (reach g x))

pub scan_places-requires-clause-callable : goal.scan_places-requires-clause-callable
scan_places-requires-clause-callable g c =
    let a = c.array.inside in
    let x = (goal.at.scan_places-requires-clause-callable g c).After-array in
    let same = same-places a.layout.start (g.D.Lengths.numbers a.layout.strides) (g.D.Lengths.numbers c.args.first.now) c.args.axis c.args.len c.place.result c.stride.result c.place.ensures c.stride.ensures in
    subst (MayScan (step_gives g.F.Fn c.args.f.now) (can_step g.F.Fn c.args.f.now) c.args.init) (sym (elements g x) ∙ ap (filter_map (g.S.Data.at a.storage)) same) c.requires.callable

module _ (g : _) (c : After-scan_places g) (axis-of : c.args.axis < length (g.D.Lengths.numbers c.array.inside.layout.dim)) (within-of : InBox (g.D.Lengths.numbers c.array.inside.layout.dim) (g.D.Lengths.numbers c.args.first.now))
    (len-of : c.args.len ≡ get_or (g.D.Lengths.numbers c.array.inside.layout.dim) c.args.axis 0)
    (reach-of : Reaches ⊤ (g.S.Data.at c.array.inside.storage) (g.D.Lengths.numbers c.array.inside.layout.dim) c.array.inside.layout.start (g.D.Lengths.numbers c.array.inside.layout.strides)) where
  same : lane_places c.array.inside.layout.start (g.D.Lengths.numbers c.array.inside.layout.strides) c.args.axis (g.D.Lengths.numbers c.args.first.now) c.args.len ≡ places_from c.place.result c.stride.result c.args.len
  same = same-places c.array.inside.layout.start (g.D.Lengths.numbers c.array.inside.layout.strides) (g.D.Lengths.numbers c.args.first.now) c.args.axis c.args.len c.place.result c.stride.result c.place.ensures c.stride.ensures

  distinct : AreDistinctPlaces (g.S.Data.at c.scan_places.new.storage) (lane_places c.array.inside.layout.start (g.D.Lengths.numbers c.array.inside.layout.strides) c.args.axis (g.D.Lengths.numbers c.args.first.now) c.args.len)
  distinct = subst (AreDistinctPlaces (g.S.Data.at c.scan_places.new.storage)) (sym same) c.scan_places.ensures.distinct

  kept : (p : ℕ) → (Contains (lane_places c.array.inside.layout.start (g.D.Lengths.numbers c.array.inside.layout.strides) c.args.axis (g.D.Lengths.numbers c.args.first.now) c.args.len) p → ⊥) → g.S.Data.at c.scan_places.new.storage p ≡ g.S.Data.at c.array.inside.storage p
  kept p none = c.scan_places.ensures.kept p (λ there. none (subst (λ ps. Contains ps p) (sym same) there))

  reached : Reaches ⊤ (g.S.Data.at c.scan_places.new.storage) (g.D.Lengths.numbers c.array.inside.layout.dim) c.array.inside.layout.start (g.D.Lengths.numbers c.array.inside.layout.strides)
  reached = lane-reached (g.D.Lengths.numbers c.array.inside.layout.dim) c.array.inside.layout.start (g.D.Lengths.numbers c.array.inside.layout.strides) c.args.axis axis-of (g.D.Lengths.numbers c.args.first.now) within-of c.requires.first c.args.len len-of tt
      (g.S.Data.at c.array.inside.storage) reach-of (g.S.Data.at c.scan_places.new.storage) distinct kept

  whole : IsGrid (grid_at (g.S.Data.at c.scan_places.new.storage) (g.D.Lengths.numbers c.array.inside.layout.dim) c.array.inside.layout.start (g.D.Lengths.numbers c.array.inside.layout.strides))
  whole = length-cells_at _ _ _ _ reached

pub invariant_of-array : goal.invariant_of-array
invariant_of-array g c =
    let x = (goal.at.invariant_of-array g c).After-array in
    let r = reached g (goal.at.invariant_of-array g c).After-scan_places (axis g x) (within g x) (len g x) (reach g x) in
    record { as_many = r.as_many; limit = r.limit; inside = r.inside; nested = λ _. r.nested tt }

pub returns-clause-lengths : goal.returns-clause-lengths
returns-clause-lengths g c = lengths g (goal.at.returns-clause-lengths g c).After-array

pub returns-clause-whole : goal.returns-clause-whole
returns-clause-whole g c =
    let x = (goal.at.returns-clause-whole g c).After-array in
    whole g (goal.at.returns-clause-whole g c).After-scan_places (axis g x) (within g x) (len g x) (reach g x)

pub returns-clause-scan : goal.returns-clause-scan
returns-clause-scan g c =
    let a = c.array.inside in
    let x = (goal.at.returns-clause-scan g c).After-array in
    let y = (goal.at.returns-clause-scan g c).After-scan_places in
    let after = g.S.Data.at c.scan_places.new.storage in
    let was = sym (ap (filter_map (g.S.Data.at a.storage)) (same g y (axis g x) (within g x) (len g x) (reach g x))) ∙ elements g x in
    let is = sym (ap (filter_map after) (same g y (axis g x) (within g x) (len g x) (reach g x)))
    ∙ lane-elements (g.D.Lengths.numbers a.layout.dim) a.layout.start (g.D.Lengths.numbers a.layout.strides) c.args.axis (axis g x) (g.D.Lengths.numbers c.args.first.now) (within g x) c.requires.first c.args.len (len g x) tt
    after (reached g y (axis g x) (within g x) (len g x) (reach g x)) (grid_at after (g.D.Lengths.numbers a.layout.dim) a.layout.start (g.D.Lengths.numbers a.layout.strides)) refl (whole g y (axis g x) (within g x) (len g x) (reach g x)) in
    subst (λ xs. ScansTo (step_gives g.F.Fn c.args.f.now) c.args.init xs (lane (grid_at after (g.D.Lengths.numbers a.layout.dim) a.layout.start (g.D.Lengths.numbers a.layout.strides)) c.args.axis (remove (g.D.Lengths.numbers c.args.first.now) c.args.axis)).cells) was
    (subst (ScansTo (step_gives g.F.Fn c.args.f.now) c.args.init (filter_map (g.S.Data.at a.storage) (places_from c.place.result c.stride.result c.args.len))) is c.scan_places.ensures.scan)

pub returns-clause-others : goal.returns-clause-others
returns-clause-others g c =
    let a = c.array.inside in
    let x = (goal.at.returns-clause-others g c).After-array in
    let y = (goal.at.returns-clause-others g c).After-scan_places in
    lane-others (g.D.Lengths.numbers a.layout.dim) a.layout.start (g.D.Lengths.numbers a.layout.strides) c.args.axis (axis g x) (g.D.Lengths.numbers c.args.first.now) (within g x) c.requires.first c.args.len (len g x) tt
    (g.S.Data.at a.storage) (reach g x) (g.S.Data.at c.scan_places.new.storage) (distinct g y (axis g x) (within g x) (len g x) (reach g x)) (kept g y (axis g x) (within g x) (len g x) (reach g x)) c.args.array.now c.array.view_is
