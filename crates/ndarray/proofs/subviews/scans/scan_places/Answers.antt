use Rattle.std.proofs.Common.{rules, subst}
use Rattle.ndarray.specs.Scans.{can_step, step_gives}
use Rattle.ndarray.proofs.cells.PlaceScans.{PlacesState, Places-callable, Places-distinct, Places-end, Places-next, Places-start, Places-there}
use Rattle.ndarray.proofs.subviews.scans.scan_places.Goals as goal

pub loop-place-init : goal.loop-place-init
loop-place-init g c = Places-start (step_gives g.F.Fn c.args.f.now) c.args.init c.args.places (g.S.Data.at c.args.storage.now) c.requires.distinct

pub element-requires : goal.element-requires
element-requires g c = Places-there (step_gives g.F.Fn c.args.f.now) c.args.init c.args.places (g.S.Data.at c.args.storage.now) c.requires.distinct c.loop-place.invariant c.in-Some.ensures

pub f-next-requires : goal.f-next-requires
f-next-requires g c =
    let call = Places-callable (step_gives g.F.Fn c.args.f.now) c.args.init c.args.places (g.S.Data.at c.args.storage.now) c.requires.distinct c.loop-place.invariant c.in-Some.ensures c.element.result.now c.element.ensures (can_step g.F.Fn c.args.f.now) c.requires.callable in
    search (rules, call)

pub loop-place-preserved : goal.loop-place-preserved
loop-place-preserved g c =
    let there = Places-there (step_gives g.F.Fn c.args.f.now) c.args.init c.args.places (g.S.Data.at c.args.storage.now) c.requires.distinct c.loop-place.invariant c.in-Some.ensures in
    Places-next (step_gives g.F.Fn c.args.f.now) c.args.init c.args.places (g.S.Data.at c.args.storage.now) c.requires.distinct c.loop-place.invariant c.in-Some.ensures c.element.result.now c.element.ensures
    c.f-next.result.0 c.f-next.result.1 (g.S.Data.at (g.S.DataMut.with_element c.loop-place.storage c.in-Some.place c.f-next.result.1)) c.f-next.ensures
    (g.met.S.DataMut.written_here c.loop-place.storage c.in-Some.place c.f-next.result.1 there) (λ q ne. g.met.S.DataMut.written_elsewhere c.loop-place.storage c.in-Some.place q c.f-next.result.1 ne)

pub returns-clause-distinct : goal.returns-clause-distinct
returns-clause-distinct g c = Places-distinct (step_gives g.F.Fn c.args.f.now) c.args.init c.args.places (g.S.Data.at c.args.storage.now) c.requires.distinct c.loop-place.invariant

pub returns-clause-scan : goal.returns-clause-scan
returns-clause-scan g c =
    Places-end (step_gives g.F.Fn c.args.f.now) c.args.init c.args.places (g.S.Data.at c.args.storage.now) c.requires.distinct
    (subst (λ l. PlacesState (step_gives g.F.Fn c.args.f.now) c.args.init c.args.places (g.S.Data.at c.args.storage.now) l c.loop-place.value (g.S.Data.at c.loop-place.storage)) c.in_default.ensures.0 c.loop-place.invariant)

pub returns-clause-kept : goal.returns-clause-kept
returns-clause-kept g c = c.loop-place.invariant.kept
