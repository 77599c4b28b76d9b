use Rattle.std.proofs.Common.{◌≡◌, ◌≢◌, ◌∙◌, ◌<◌, List, ℕ, length, map, set, ap, arith, subst, sym, remove, replicate}
use Rattle.std.proofs.lemmas.List.{length-set}
use Rattle.std.specs.Prelude.{All, AllPairs}
use Rattle.ndarray.specs.Grid.{cell}
use Rattle.ndarray.specs.Index.{InBox}
use Rattle.ndarray.specs.Scans.{can_step, step_gives}
use Rattle.ndarray.specs.base.LaneScans.{MayStepEach, StepsEach}
use Rattle.ndarray.specs.base.Ranks.{row_from}
use Rattle.ndarray.proofs.boxes.Boxes.{InBox-length}
use Rattle.ndarray.proofs.boxes.LaneIndices.{remove-set, row-at_index, same-lane}
use Rattle.ndarray.proofs.cells.LaneTiles.{TileState, Tile-start, Tile-within, Tile-apart, Tile-callable, Tile-next, Tile-end}
use Rattle.ndarray.proofs.strides.Rows.{length-row_from, row-first}
use Rattle.ndarray.proofs.subviews.lane_tiles.scan_side_by_side.Goals.{After-set_axis}
use Rattle.ndarray.proofs.subviews.lane_tiles.scan_side_by_side.Goals as goal

first-long : (ns is : List ℕ) (axis n : ℕ) → 0 < n → All (InBox ns) (row_from is axis n) → length is ≡ length ns
first-long ns is axis n some within = InBox-length ns is (row-first (InBox ns) is axis n some within)

pub loop-k-init : goal.loop-k-init
loop-k-init g c =
    let iss = row_from (g.D.Lengths.numbers c.args.row.now.first) c.args.row.now.axis c.args.row.now.count in
    let many : length c.args.values.now ≡ length iss = c.requires.many ∙ sym (length-row_from _ _ _) in
    record {
      tile = subst (λ vs. TileState (step_gives g.F.Fn c.args.f.now) c.args.init c.args.array.now c.args.axis iss vs c.args.array.now 0) (ap (λ n. replicate n c.args.init) (sym many) ∙ sym c.fill.ensures)
          (Tile-start (step_gives g.F.Fn c.args.f.now) c.args.init c.args.array.now c.args.axis iss c.requires.whole);
      own = ap (λ l. remove l c.args.axis) c.copied-index.ensures.value;
      long = ap length c.copied-index.ensures.value ∙ first-long c.args.array.now.lengths _ _ _ c.requires.some c.requires.lanes.within;
    }

pub set_axis-requires : goal.set_axis-requires
set_axis-requires g c = let long = c.loop-k.invariant.long in let axis = c.requires.axis in omega (arith, long, axis)

-- the index lists of the step
row-now : (g : _) (c : After-set_axis g) → row_from (g.D.Lengths.numbers c.set_axis.new.self) c.args.row.now.axis (length c.loop-k.values) ≡ map (λ is. set is c.args.axis c.loop-k.k) (row_from (g.D.Lengths.numbers c.args.row.now.first) c.args.row.now.axis c.args.row.now.count)
row-now g c =
    let first = g.D.Lengths.numbers c.args.row.now.first in
    let axis = c.requires.axis in
    let long = c.loop-k.invariant.long in
    let within = first-long c.args.array.now.lengths first c.args.row.now.axis c.args.row.now.count c.requires.some c.requires.lanes.within in
    let at : g.D.Lengths.numbers c.set_axis.new.self ≡ set first c.args.axis c.loop-k.k = c.set_axis.ensures ∙ same-lane (g.D.Lengths.numbers c.loop-k.index) first c.args.axis c.loop-k.k c.loop-k.invariant.own (omega (arith, long, axis)) (omega (arith, within, axis)) in
    let many : length c.loop-k.values ≡ c.args.row.now.count = c.loop-k.invariant.tile.many ∙ length-row_from _ _ _ in
    ap (λ n. row_from (g.D.Lengths.numbers c.set_axis.new.self) c.args.row.now.axis n) many
    ∙ (ap (λ is. row_from is c.args.row.now.axis c.args.row.now.count) at ∙ row-at_index c.args.array.now.lengths c.args.axis first c.args.row.now.axis c.args.row.now.count c.loop-k.k c.requires.lanes)

pub step_along-requires-clause-within : goal.step_along-requires-clause-within
step_along-requires-clause-within g c =
    let len = c.requires.len in
    let test = c.loop-k-test.true in
    subst (All (InBox c.loop-k.array.lengths)) (sym (row-now g (goal.at.step_along-requires-clause-within g c).After-set_axis))
    (Tile-within (step_gives g.F.Fn c.args.f.now) c.args.init c.args.array.now c.args.axis _ c.requires.axis c.requires.lanes c.loop-k.invariant.tile (omega (arith, len, test)))

pub step_along-requires-clause-apart : goal.step_along-requires-clause-apart
step_along-requires-clause-apart g c =
    let len = c.requires.len in
    let test = c.loop-k-test.true in
    subst (AllPairs (λ is js. is ≢ js)) (sym (row-now g (goal.at.step_along-requires-clause-apart g c).After-set_axis))
    (Tile-apart (step_gives g.F.Fn c.args.f.now) c.args.init c.args.array.now c.args.axis _ c.requires.axis c.requires.lanes c.loop-k.invariant.tile (omega (arith, len, test)))

pub step_along-requires-clause-callable : goal.step_along-requires-clause-callable
step_along-requires-clause-callable g c =
    let len = c.requires.len in
    let test = c.loop-k-test.true in
    subst (λ iss. MayStepEach (can_step g.F.Fn c.args.f.now) iss c.loop-k.values (cell c.loop-k.array)) (sym (row-now g (goal.at.step_along-requires-clause-callable g c).After-set_axis))
    (Tile-callable (step_gives g.F.Fn c.args.f.now) c.args.init c.args.array.now c.args.axis _ c.requires.axis c.requires.lanes c.loop-k.invariant.tile (omega (arith, len, test)) (can_step g.F.Fn c.args.f.now) c.requires.callable)

pub step_along-requires-clause-some : goal.step_along-requires-clause-some
step_along-requires-clause-some g c =
    let many = c.loop-k.invariant.tile.many ∙ length-row_from _ _ _ in
    let some = c.requires.some in
    omega (arith, many, some)

pub loop-k-preserved : goal.loop-k-preserved
loop-k-preserved g c =
    let len = c.requires.len in
    let test = c.loop-k-test.true in
    let own = remove-set (g.D.Lengths.numbers c.loop-k.index) c.args.axis c.loop-k.k in
    record {
      tile = Tile-next (step_gives g.F.Fn c.args.f.now) c.args.init c.args.array.now c.args.axis _ c.requires.axis c.requires.lanes c.loop-k.invariant.tile (omega (arith, len, test)) c.step_along.new.values c.step_along.new.array c.step_along.ensures.lengths c.step_along.ensures.whole
          (subst (λ iss. StepsEach (step_gives g.F.Fn c.args.f.now) iss c.loop-k.values (cell c.loop-k.array) c.step_along.new.values (cell c.step_along.new.array)) (row-now g (goal.at.loop-k-preserved g c).After-set_axis) c.step_along.ensures.steps);
      own = ap (λ l. remove l c.args.axis) c.set_axis.ensures ∙ (own ∙ c.loop-k.invariant.own);
      long = ap length c.set_axis.ensures ∙ (length-set (g.D.Lengths.numbers c.loop-k.index) c.args.axis c.loop-k.k ∙ c.loop-k.invariant.long);
    }

pub returns : goal.returns
returns g c =
    let len = c.requires.len in
    let test = c.loop-k-test.false in
    let end = c.loop-k.auto.k-end in
    Tile-end (step_gives g.F.Fn c.args.f.now) c.args.init c.args.array.now c.args.axis _ c.requires.axis c.requires.lanes c.loop-k.invariant.tile (omega (arith, len, test, end))
