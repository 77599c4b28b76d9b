use Rattle.std.proofs.Common.{◌≡◌, ◌∙◌, ◌+◌, ◌-◌, ◌≤◌, ◌++◌, ap, arith, subst, sym}
use Rattle.ndarray.specs.Scans.{can_step, step_gives}
use Rattle.ndarray.specs.base.LaneScans.{AreOnLanes, MayScanEach, ScansEach, lanes_at}
use Rattle.ndarray.specs.base.Ranks.{row_at, row_from}
use Rattle.ndarray.proofs.boxes.LaneIndices.{row-fits}
use Rattle.ndarray.proofs.boxes.RowParts.{row_from-append, row_from-middle}
use Rattle.ndarray.proofs.cells.RowScans.{part-callable, part-on, part-scanned}
use Rattle.ndarray.proofs.subviews.lane_tiles.scan_row.Goals.{After-part-tile}
use Rattle.ndarray.proofs.subviews.lane_tiles.scan_row.Goals as goal

pub part-tile-requires-clause-fits : goal.part-tile-requires-clause-fits
part-tile-requires-clause-fits g c =
    let test = c.tiles-test.true in
    row-fits c.args.array.now.lengths c.args.axis (g.D.Lengths.numbers c.args.row.now.first) c.args.row.now.axis c.args.row.now.count (omega (arith, test)) c.requires.limit c.requires.lanes

-- the tile's index lists, and how many they are
tile-row : (g : _) (c : After-part-tile g) → row_from (g.D.Lengths.numbers c.part-tile.result.first) c.part-tile.result.axis c.part-tile.result.count ≡ row_from (row_at (g.D.Lengths.numbers c.args.row.now.first) c.args.row.now.axis c.tiles.done) c.args.row.now.axis c.part-tile.result.count
tile-row g c =
    ap (λ a. row_from (g.D.Lengths.numbers c.part-tile.result.first) a c.part-tile.result.count) c.part-tile.ensures.axis
    ∙ ap (λ is. row_from is c.args.row.now.axis c.part-tile.result.count) c.part-tile.ensures.first

tile-within : (g : _) (c : After-part-tile g) → c.tiles.done + c.part-tile.result.count ≤ c.args.row.now.count
tile-within g c = let count = c.part-tile.ensures.count in let within = c.tiles.invariant.within in omega (arith, count, within)

-- the row's index lists: those done, those of the tile, and the others
parts : (g : _) (c : After-part-tile g) → row_from (g.D.Lengths.numbers c.args.row.now.first) c.args.row.now.axis c.args.row.now.count
    ≡ row_from (g.D.Lengths.numbers c.args.row.now.first) c.args.row.now.axis c.tiles.done
    ++ (row_from (row_at (g.D.Lengths.numbers c.args.row.now.first) c.args.row.now.axis c.tiles.done) c.args.row.now.axis c.part-tile.result.count
    ++ row_from (row_at (g.D.Lengths.numbers c.args.row.now.first) c.args.row.now.axis (c.tiles.done + c.part-tile.result.count)) c.args.row.now.axis (c.args.row.now.count - (c.tiles.done + c.part-tile.result.count)))
parts g c = row_from-middle c.tiles.done c.part-tile.result.count c.args.row.now.count (g.D.Lengths.numbers c.args.row.now.first) c.args.row.now.axis (tile-within g c)

pub scan_side_by_side-requires-clause-lanes : goal.scan_side_by_side-requires-clause-lanes
scan_side_by_side-requires-clause-lanes g c =
    let p = (goal.at.scan_side_by_side-requires-clause-lanes g c).After-part-tile in
    subst (AreOnLanes c.tiles.array.lengths c.args.axis) (sym (tile-row g p))
    (part-on (step_gives g.F.Fn c.args.f.now) c.args.init c.args.axis c.args.array.now c.requires.axis _ _ _ (subst (AreOnLanes c.args.array.now.lengths c.args.axis) (parts g p) c.requires.lanes) c.tiles.array c.tiles.invariant.scanned)

pub scan_side_by_side-requires-clause-callable : goal.scan_side_by_side-requires-clause-callable
scan_side_by_side-requires-clause-callable g c =
    let p = (goal.at.scan_side_by_side-requires-clause-callable g c).After-part-tile in
    subst (λ iss. MayScanEach (step_gives g.F.Fn c.args.f.now) (can_step g.F.Fn c.args.f.now) c.args.axis c.args.init (lanes_at c.args.axis iss) c.tiles.array) (sym (tile-row g p))
    (part-callable (step_gives g.F.Fn c.args.f.now) c.args.init c.args.axis c.args.array.now c.requires.axis _ _ _ (subst (AreOnLanes c.args.array.now.lengths c.args.axis) (parts g p) c.requires.lanes) c.tiles.array c.tiles.invariant.scanned (can_step g.F.Fn c.args.f.now)
    (subst (λ iss. MayScanEach (step_gives g.F.Fn c.args.f.now) (can_step g.F.Fn c.args.f.now) c.args.axis c.args.init (lanes_at c.args.axis iss) c.args.array.now) (parts g p) c.requires.callable))

pub overflow_add-done : goal.overflow_add-done
overflow_add-done g c =
    let test = c.tiles-test.true in
    let fits = row-fits c.args.array.now.lengths c.args.axis (g.D.Lengths.numbers c.args.row.now.first) c.args.row.now.axis c.args.row.now.count (omega (arith, test)) c.requires.limit c.requires.lanes in
    let within = tile-within g (goal.at.overflow_add-done g c).After-part-tile in
    omega (arith, fits, within)

pub tiles-preserved : goal.tiles-preserved
tiles-preserved g c =
    let p = (goal.at.tiles-preserved g c).After-part-tile in
    record {
      scanned = subst (λ iss. ScansEach (step_gives g.F.Fn c.args.f.now) c.args.axis c.args.init (lanes_at c.args.axis iss) c.args.array.now c.scan_side_by_side.new.array)
          (sym (row_from-append c.tiles.done c.part-tile.result.count (g.D.Lengths.numbers c.args.row.now.first) c.args.row.now.axis))
          (part-scanned (step_gives g.F.Fn c.args.f.now) c.args.init c.args.axis c.args.array.now c.requires.axis _ _ _ (subst (AreOnLanes c.args.array.now.lengths c.args.axis) (parts g p) c.requires.lanes) c.tiles.array c.tiles.invariant.scanned c.scan_side_by_side.new.array
          (subst (λ iss. ScansEach (step_gives g.F.Fn c.args.f.now) c.args.axis c.args.init (lanes_at c.args.axis iss) c.tiles.array c.scan_side_by_side.new.array) (tile-row g p) c.scan_side_by_side.ensures));
      within = tile-within g p;
    }
