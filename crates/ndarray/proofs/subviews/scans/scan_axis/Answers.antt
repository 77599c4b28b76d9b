use Rattle.std.proofs.Common.{◌∙◌, ◌<◌, min, length, get_or, set, ap, subst, sym}
use Rattle.ndarray.specs.Index.{row_order}
use Rattle.ndarray.specs.Limits.{IsWithinLimit}
use Rattle.ndarray.specs.Scans.{can_step, step_gives}
use Rattle.ndarray.proofs.cells.Scans.{at-most, at-most-one, is-one, set-smaller, Lanes-start, Lanes-within, Lanes-asks, Lanes-first, Lanes-next, Lanes-end}
use Rattle.ndarray.proofs.subviews.scans.scan_axis.Goals as goal

pub new-first-items-requires : goal.new-first-items-requires
new-first-items-requires g c =
    let firsts = c.set_axis.ensures ∙ (ap (λ m. set (g.D.Lengths.numbers c.raw_dim-dim.result) c.args.axis.0 m) c.min.ensures ∙ ap (λ ns. set ns c.args.axis.0 (min c.axis-len.result 1)) c.raw_dim-dim.ensures.lengths) in
    subst IsWithinLimit (sym firsts) (set-smaller c.args.array.now.lengths c.args.axis.0 (min c.axis-len.result 1) (at-most-one c.axis-len.result) c.raw_dim-dim.ensures.limit)

pub loop-first-init : goal.loop-first-init
loop-first-init g c =
    let firsts = c.set_axis.ensures ∙ (ap (λ m. set (g.D.Lengths.numbers c.raw_dim-dim.result) c.args.axis.0 m) c.min.ensures ∙ ap (λ ns. set ns c.args.axis.0 (min c.axis-len.result 1)) c.raw_dim-dim.ensures.lengths) in
    Lanes-start (step_gives g.F.Fn c.args.f.now) c.args.init c.args.array.now c.args.axis.0 (min c.axis-len.result 1) c.into_iter-first-iterator.result
    (c.into_iter-first-iterator.ensures.into_iter_gives ∙ (c.new-first-items.ensures.list ∙ ap row_order firsts)) c.raw_dim-dim.ensures.whole

pub scan_lane-requires-clause-axis : goal.scan_lane-requires-clause-axis
scan_lane-requires-clause-axis g c = subst (λ ns. c.args.axis.0 < length ns) (sym c.loop-first.invariant.lengths) c.requires.axis

pub scan_lane-requires-clause-whole : goal.scan_lane-requires-clause-whole
scan_lane-requires-clause-whole g c = c.loop-first.invariant.whole

pub scan_lane-requires-clause-len : goal.scan_lane-requires-clause-len
scan_lane-requires-clause-len g c = c.axis-len.ensures ∙ ap (λ ns. get_or ns c.args.axis.0 0) (c.raw_dim-dim.ensures.lengths ∙ sym c.loop-first.invariant.lengths)

pub scan_lane-requires-clause-within : goal.scan_lane-requires-clause-within
scan_lane-requires-clause-within g c =
    let len = c.axis-len.ensures ∙ ap (λ ns. get_or ns c.args.axis.0 0) c.raw_dim-dim.ensures.lengths in
    Lanes-within (step_gives g.F.Fn c.args.f.now) c.args.init c.args.array.now c.args.axis.0 (min c.axis-len.result 1) c.requires.axis (at-most-one c.axis-len.result) (at-most c.axis-len.result _ len) c.loop-first.invariant c.in-Some.ensures.steps

pub scan_lane-requires-clause-first : goal.scan_lane-requires-clause-first
scan_lane-requires-clause-first g c =
    let len = c.axis-len.ensures ∙ ap (λ ns. get_or ns c.args.axis.0 0) c.raw_dim-dim.ensures.lengths in
    Lanes-first (step_gives g.F.Fn c.args.f.now) c.args.init c.args.array.now c.args.axis.0 (min c.axis-len.result 1) c.requires.axis (at-most-one c.axis-len.result) (at-most c.axis-len.result _ len) c.loop-first.invariant c.in-Some.ensures.steps

pub scan_lane-requires-clause-callable : goal.scan_lane-requires-clause-callable
scan_lane-requires-clause-callable g c =
    let len = c.axis-len.ensures ∙ ap (λ ns. get_or ns c.args.axis.0 0) c.raw_dim-dim.ensures.lengths in
    Lanes-asks (step_gives g.F.Fn c.args.f.now) c.args.init c.args.array.now c.args.axis.0 (min c.axis-len.result 1) c.requires.axis (at-most-one c.axis-len.result) (at-most c.axis-len.result _ len) c.loop-first.invariant c.in-Some.ensures.steps
    (can_step g.F.Fn c.args.f.now) c.raw_dim-dim.ensures.whole c.requires.callable

pub loop-first-preserved : goal.loop-first-preserved
loop-first-preserved g c =
    let len = c.axis-len.ensures ∙ ap (λ ns. get_or ns c.args.axis.0 0) c.raw_dim-dim.ensures.lengths in
    let did = c.scan_lane.ensures in
    Lanes-next (step_gives g.F.Fn c.args.f.now) c.args.init c.args.array.now c.args.axis.0 (min c.axis-len.result 1) c.requires.axis (at-most-one c.axis-len.result) (at-most c.axis-len.result _ len) c.loop-first.invariant c.in-Some.ensures.steps
    c.scan_lane.new.array did.lengths did.whole did.scan did.others

pub returns : goal.returns
returns g c =
    let len = c.axis-len.ensures ∙ ap (λ ns. get_or ns c.args.axis.0 0) c.raw_dim-dim.ensures.lengths in
    Lanes-end (step_gives g.F.Fn c.args.f.now) c.args.init c.args.array.now c.args.axis.0 (min c.axis-len.result 1) c.requires.axis (is-one c.axis-len.result _ len) c.loop-first.invariant c.in-None.ensures.steps.0
