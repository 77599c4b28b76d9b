use Rattle.std.proofs.Common.{◌∙◌, ◌<◌, min, length, get_or, set, ap, subst, sym}
use Rattle.ndarray.specs.Limits.{IsWithinLimit}
use Rattle.ndarray.specs.order.Rows.{rows_in}
use Rattle.ndarray.specs.Scans.{can_step, step_gives}
use Rattle.ndarray.proofs.cells.RowScans.{Rows-start, Rows-on, Rows-callable, Rows-next, Rows-end}
use Rattle.ndarray.proofs.cells.Scans.{at-most, at-most-one, is-one, set-smaller}
use Rattle.ndarray.proofs.subviews.lane_tiles.scan_by_tiles.Goals as goal

pub new-rows-requires : goal.new-rows-requires
new-rows-requires g c =
    let firsts = c.set_axis.ensures ∙ (ap (λ m. set (g.D.Lengths.numbers c.raw_dim-dim.result) c.args.axis.0 m) c.min.ensures ∙ ap (λ ns. set ns c.args.axis.0 (min c.axis-len.result 1)) c.raw_dim-dim.ensures.lengths) in
    subst IsWithinLimit (sym firsts) (set-smaller c.args.array.now.lengths c.args.axis.0 (min c.axis-len.result 1) (at-most-one c.axis-len.result) c.raw_dim-dim.ensures.limit)

pub loop-row-init : goal.loop-row-init
loop-row-init g c =
    let firsts = c.set_axis.ensures ∙ (ap (λ m. set (g.D.Lengths.numbers c.raw_dim-dim.result) c.args.axis.0 m) c.min.ensures ∙ ap (λ ns. set ns c.args.axis.0 (min c.axis-len.result 1)) c.raw_dim-dim.ensures.lengths) in
    Rows-start (step_gives g.F.Fn c.args.f.now) c.args.init c.args.array.now c.args.axis.0 (min c.axis-len.result 1) c.fast_order.result c.new-rows.result (c.new-rows.ensures ∙ ap (rows_in c.fast_order.result) firsts) c.raw_dim-dim.ensures.whole

pub scan_row-requires-clause-axis : goal.scan_row-requires-clause-axis
scan_row-requires-clause-axis g c = subst (λ ns. c.args.axis.0 < length ns) (sym c.loop-row.invariant.scanned.lengths) c.requires.axis

pub scan_row-requires-clause-whole : goal.scan_row-requires-clause-whole
scan_row-requires-clause-whole g c = c.loop-row.invariant.scanned.whole

pub scan_row-requires-clause-limit : goal.scan_row-requires-clause-limit
scan_row-requires-clause-limit g c = subst IsWithinLimit (sym c.loop-row.invariant.scanned.lengths) c.raw_dim-dim.ensures.limit

pub scan_row-requires-clause-lanes : goal.scan_row-requires-clause-lanes
scan_row-requires-clause-lanes g c =
    let len = c.axis-len.ensures ∙ ap (λ ns. get_or ns c.args.axis.0 0) c.raw_dim-dim.ensures.lengths in
    Rows-on (step_gives g.F.Fn c.args.f.now) c.args.init c.args.array.now c.args.axis.0 (min c.axis-len.result 1) c.requires.axis (at-most-one c.axis-len.result) (at-most c.axis-len.result _ len) c.loop-row.invariant c.in-Some.ensures

pub scan_row-requires-clause-callable : goal.scan_row-requires-clause-callable
scan_row-requires-clause-callable g c =
    let len = c.axis-len.ensures ∙ ap (λ ns. get_or ns c.args.axis.0 0) c.raw_dim-dim.ensures.lengths in
    Rows-callable (step_gives g.F.Fn c.args.f.now) c.args.init c.args.array.now c.args.axis.0 (min c.axis-len.result 1) c.requires.axis (at-most-one c.axis-len.result) (at-most c.axis-len.result _ len) c.loop-row.invariant c.in-Some.ensures
    (can_step g.F.Fn c.args.f.now) (is-one c.axis-len.result _ len) c.raw_dim-dim.ensures.whole c.requires.callable

pub loop-row-preserved : goal.loop-row-preserved
loop-row-preserved g c =
    let len = c.axis-len.ensures ∙ ap (λ ns. get_or ns c.args.axis.0 0) c.raw_dim-dim.ensures.lengths in
    Rows-next (step_gives g.F.Fn c.args.f.now) c.args.init c.args.array.now c.args.axis.0 (min c.axis-len.result 1) c.requires.axis (at-most-one c.axis-len.result) (at-most c.axis-len.result _ len) c.loop-row.invariant c.in-Some.ensures
    c.scan_row.new.array c.scan_row.ensures

pub returns : goal.returns
returns g c =
    let len = c.axis-len.ensures ∙ ap (λ ns. get_or ns c.args.axis.0 0) c.raw_dim-dim.ensures.lengths in
    Rows-end (step_gives g.F.Fn c.args.f.now) c.args.init c.args.array.now c.args.axis.0 (min c.axis-len.result 1) c.requires.axis (is-one c.axis-len.result _ len) c.loop-row.invariant c.in_default.ensures.0
