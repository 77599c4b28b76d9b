use Rattle.std.proofs.Common.{◌≡◌, ◌∙◌, List, ℕ, length, get_or, ap, subst, sym}
use Rattle.std.specs.Prelude.{⊤}
use Rattle.ndarray.specs.Index.{InBox}
use Rattle.ndarray.specs.Scans.{can_step, step_gives}
use Rattle.ndarray.specs.base.LaneScans.{MayStepEach, StepsEach}
use Rattle.ndarray.specs.base.Places.{Reaches, place}
use Rattle.ndarray.specs.base.Ranks.{row_from}
use Rattle.ndarray.specs.base.Strided.{places_from}
use Rattle.ndarray.specs.places.ElementPlaces.{AreDistinctPlaces, places_along}
use Rattle.ndarray.proofs.boxes.Boxes.{InBox-length}
use Rattle.ndarray.proofs.cells.LaneSteps.{Reaches-stepped, cells-stepped, places-callable, places-distinct}
use Rattle.ndarray.proofs.strides.Reach.{length-cells_at}
use Rattle.ndarray.proofs.strides.Rows.{length-places_from, length-row_from, row-first, row-places}
use Rattle.ndarray.proofs.subviews.lane_tiles.step_along.Goals.{After-array, After-step_each}
use Rattle.ndarray.proofs.subviews.lane_tiles.step_along.Goals as goal

as-long : (g : _) (c : After-array g) → length (g.D.Lengths.numbers c.array.inside.layout.strides) ≡ length (g.D.Lengths.numbers c.args.first.now)
as-long g c =
    let first = row-first (InBox c.args.array.now.lengths) (g.D.Lengths.numbers c.args.first.now) c.args.axis (length c.args.values.now) c.requires.some c.requires.within in
    c.array.invariant.as_many ∙ (ap (λ v. length v.lengths) c.array.view_is ∙ sym (InBox-length _ _ first))

reach : (g : _) (c : After-array g) → Reaches ⊤ (g.S.Data.at c.array.inside.storage) (g.D.Lengths.numbers c.array.inside.layout.dim) c.array.inside.layout.start (g.D.Lengths.numbers c.array.inside.layout.strides)
reach g c =
    let h = c.array.invariant in
    record { as_many = h.as_many; limit = h.limit; inside = h.inside; nested = λ _. h.nested (g.met.S.DataMut.is_apart c.array.inside.storage) }

-- the places are those of the index lists
places : (start : ℕ) (bs is : List ℕ) (axis n p s : ℕ) → length bs ≡ length is → p ≡ place start bs is → s ≡ get_or bs axis 0 → places_along start bs (row_from is axis n) ≡ places_from p s n
places start bs is axis n p s long here step = row-places start bs axis n is long ∙ (ap (λ q. places_from q (get_or bs axis 0) n) (sym here) ∙ ap (λ t. places_from p t n) (sym step))

pub place-requires : goal.place-requires
place-requires g c = as-long g c

pub step_each-requires-clause-many : goal.step_each-requires-clause-many
step_each-requires-clause-many g c = length-places_from c.place.result c.stride.result (length c.args.values.now)

pub step_each-requires-clause-distinct : goal.step_each-requires-clause-distinct
step_each-requires-clause-distinct g c =
    let a = c.array.inside in
    subst (AreDistinctPlaces (g.S.Data.at a.storage)) (places a.layout.start (g.D.Lengths.numbers a.layout.strides) (g.D.Lengths.numbers c.args.first.now) c.args.axis (length c.args.values.now) c.place.result c.stride.result (as-long g (goal.at.step_each-requires-clause-distinct g c).After-array) c.place.ensures c.stride.ensures)
    (places-distinct (step_gives g.F.Fn c.args.f.now) (g.S.Data.at a.storage) (g.D.Lengths.numbers a.layout.dim) a.layout.start (g.D.Lengths.numbers a.layout.strides) (reach g (goal.at.step_each-requires-clause-distinct g c).After-array) tt c.args.array.now c.array.view_is
    (row_from (g.D.Lengths.numbers c.args.first.now) c.args.axis (length c.args.values.now)) c.requires.within c.args.values.now c.requires.apart)

pub step_each-requires-clause-callable : goal.step_each-requires-clause-callable
step_each-requires-clause-callable g c =
    let a = c.array.inside in
    subst (λ ps. MayStepEach (can_step g.F.Fn c.args.f.now) ps c.args.values.now (g.S.Data.at a.storage)) (places a.layout.start (g.D.Lengths.numbers a.layout.strides) (g.D.Lengths.numbers c.args.first.now) c.args.axis (length c.args.values.now) c.place.result c.stride.result (as-long g (goal.at.step_each-requires-clause-callable g c).After-array) c.place.ensures c.stride.ensures)
    (places-callable (step_gives g.F.Fn c.args.f.now) (g.S.Data.at a.storage) (g.D.Lengths.numbers a.layout.dim) a.layout.start (g.D.Lengths.numbers a.layout.strides) (reach g (goal.at.step_each-requires-clause-callable g c).After-array) tt c.args.array.now c.array.view_is
    (row_from (g.D.Lengths.numbers c.args.first.now) c.args.axis (length c.args.values.now)) c.requires.within c.args.values.now (can_step g.F.Fn c.args.f.now) c.requires.callable)

-- what the steps did at the places of the index lists
did : (g : _) (c : After-step_each g) → length (g.D.Lengths.numbers c.array.inside.layout.strides) ≡ length (g.D.Lengths.numbers c.args.first.now)
    → StepsEach (step_gives g.F.Fn c.args.f.now) (places_along c.array.inside.layout.start (g.D.Lengths.numbers c.array.inside.layout.strides) (row_from (g.D.Lengths.numbers c.args.first.now) c.args.axis (length c.args.values.now))) c.args.values.now (g.S.Data.at c.array.inside.storage) c.step_each.new.values (g.S.Data.at c.step_each.new.storage)
did g c long =
    let a = c.array.inside in
    subst (λ ps. StepsEach (step_gives g.F.Fn c.args.f.now) ps c.args.values.now (g.S.Data.at a.storage) c.step_each.new.values (g.S.Data.at c.step_each.new.storage))
    (sym (places a.layout.start (g.D.Lengths.numbers a.layout.strides) (g.D.Lengths.numbers c.args.first.now) c.args.axis (length c.args.values.now) c.place.result c.stride.result long c.place.ensures c.stride.ensures)) c.step_each.ensures

pub invariant_of-array : goal.invariant_of-array
invariant_of-array g c =
    let a = c.array.inside in
    let r = Reaches-stepped (step_gives g.F.Fn c.args.f.now) (g.S.Data.at a.storage) (g.D.Lengths.numbers a.layout.dim) a.layout.start (g.D.Lengths.numbers a.layout.strides) (reach g (goal.at.invariant_of-array g c).After-array) tt c.args.array.now c.array.view_is
    (row_from (g.D.Lengths.numbers c.args.first.now) c.args.axis (length c.args.values.now)) c.requires.within c.args.values.now (length-row_from _ _ _) c.step_each.new.values (g.S.Data.at c.step_each.new.storage) (did g (goal.at.invariant_of-array g c).After-step_each (as-long g (goal.at.invariant_of-array g c).After-array)) in
    record { as_many = r.as_many; limit = r.limit; inside = r.inside; nested = λ _. r.nested tt }

pub returns-clause-steps : goal.returns-clause-steps
returns-clause-steps g c =
    let a = c.array.inside in
    cells-stepped (step_gives g.F.Fn c.args.f.now) (g.S.Data.at a.storage) (g.D.Lengths.numbers a.layout.dim) a.layout.start (g.D.Lengths.numbers a.layout.strides) (reach g (goal.at.returns-clause-steps g c).After-array) tt c.args.array.now c.array.view_is
    (row_from (g.D.Lengths.numbers c.args.first.now) c.args.axis (length c.args.values.now)) c.requires.within c.args.values.now (length-row_from _ _ _) c.step_each.new.values (g.S.Data.at c.step_each.new.storage) (did g (goal.at.returns-clause-steps g c).After-step_each (as-long g (goal.at.returns-clause-steps g c).After-array))

pub returns-clause-whole : goal.returns-clause-whole
returns-clause-whole g c =
    let a = c.array.inside in
    length-cells_at _ _ _ _ (Reaches-stepped (step_gives g.F.Fn c.args.f.now) (g.S.Data.at a.storage) (g.D.Lengths.numbers a.layout.dim) a.layout.start (g.D.Lengths.numbers a.layout.strides) (reach g (goal.at.returns-clause-whole g c).After-array) tt c.args.array.now c.array.view_is
    (row_from (g.D.Lengths.numbers c.args.first.now) c.args.axis (length c.args.values.now)) c.requires.within c.args.values.now (length-row_from _ _ _) c.step_each.new.values (g.S.Data.at c.step_each.new.storage) (did g (goal.at.returns-clause-whole g c).After-step_each (as-long g (goal.at.returns-clause-whole g c).After-array)))
