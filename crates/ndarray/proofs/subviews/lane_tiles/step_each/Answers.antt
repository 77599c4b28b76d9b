use Rattle.std.proofs.Common.{◌≡◌, Some, arith, refl, rules}
use Rattle.std.specs.Prelude.{slice_get}
use Rattle.std.proofs.lemmas.Option.{slice_get_read}
use Rattle.ndarray.specs.Scans.{can_step, step_gives}
use Rattle.ndarray.proofs.cells.LaneSteps.{Steps-there, Steps-callable, Steps-next, Steps-end}
use Rattle.ndarray.proofs.subviews.lane_tiles.step_each.Goals as goal

pub element-requires : goal.element-requires
element-requires g c = Steps-there (step_gives g.F.Fn c.args.f.now) c.args.places c.args.values.now (g.S.Data.at c.args.storage.now) c.requires.distinct c.requires.many c.loop-t.invariant c.in-Some.ensures

pub f-next-requires : goal.f-next-requires
f-next-requires g c =
    let many = c.loop-t.auto.values in
    let test = c.loop-t-test.true in
    let value : slice_get c.loop-t.values c.loop-t.t ≡ Some c.index-values-t.result = slice_get_read c.loop-t.values _ c.loop-t.t c.index-values-t.result refl (omega (arith, many, test)) c.index-values-t.is in
    let call = Steps-callable (step_gives g.F.Fn c.args.f.now) c.args.places c.args.values.now (g.S.Data.at c.args.storage.now) c.requires.distinct c.requires.many c.loop-t.invariant c.in-Some.ensures c.index-values-t.result value c.element.result.now c.element.ensures (can_step g.F.Fn c.args.f.now) c.requires.callable in
    search (rules, call)

pub loop-t-preserved : goal.loop-t-preserved
loop-t-preserved g c =
    let many = c.loop-t.auto.values in
    let test = c.loop-t-test.true in
    let value : slice_get c.loop-t.values c.loop-t.t ≡ Some c.index-values-t.result = slice_get_read c.loop-t.values _ c.loop-t.t c.index-values-t.result refl (omega (arith, many, test)) c.index-values-t.is in
    let there = Steps-there (step_gives g.F.Fn c.args.f.now) c.args.places c.args.values.now (g.S.Data.at c.args.storage.now) c.requires.distinct c.requires.many c.loop-t.invariant c.in-Some.ensures in
    Steps-next (step_gives g.F.Fn c.args.f.now) c.args.places c.args.values.now (g.S.Data.at c.args.storage.now) c.requires.distinct c.requires.many c.loop-t.invariant c.in-Some.ensures c.index-values-t.result value c.element.result.now c.element.ensures
    c.f-next.result.0 c.f-next.result.1 (g.S.Data.at (g.S.DataMut.with_element c.loop-t.storage c.in-Some.place c.f-next.result.1)) c.f-next.ensures
    (g.met.S.DataMut.written_here c.loop-t.storage c.in-Some.place c.f-next.result.1 there) (λ q ne. g.met.S.DataMut.written_elsewhere c.loop-t.storage c.in-Some.place q c.f-next.result.1 ne)

pub returns : goal.returns
returns g c =
    let end = c.loop-t.auto.t-end in
    let test = c.loop-t-test.false in
    Steps-end (step_gives g.F.Fn c.args.f.now) c.args.places c.args.values.now (g.S.Data.at c.args.storage.now) c.requires.many c.loop-t.invariant (omega (arith, end, test))
