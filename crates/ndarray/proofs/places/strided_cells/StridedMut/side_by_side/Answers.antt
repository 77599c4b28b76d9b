use Rattle.std.proofs.Common.{◌∙◌, ap, refl, subst, sym}
use Rattle.std.specs.Prelude.{filter_map}
use Rattle.ndarray.specs.base.Slots.{held_at}
use Rattle.ndarray.specs.base.Strided.{HaveElements}
use Rattle.ndarray.proofs.moving.SomePlaces.{places-run, run-found}
use Rattle.ndarray.proofs.places.strided_cells.StridedMut.side_by_side.Goals as goal

pub into_slice-requires : goal.into_slice-requires
into_slice-requires g c =
    let s = c.self.inside in
    let e = c.in-Some.ensures in
    rw c.len.ensures (places-run s.region.slots c.in-Some.from 1 _ refl e.1 e.2 (subst (HaveElements (held_at s.region.slots)) e.0 c.self.invariant.held))

pub returns-in-Some-clause-slice : goal.returns-in-Some-clause-slice
returns-in-Some-clause-slice g c =
    let s = c.self.inside in
    let e = c.in-Some.ensures in
    let run = places-run s.region.slots c.in-Some.from 1 _ refl e.1 e.2 (subst (HaveElements (held_at s.region.slots)) e.0 c.self.invariant.held) in
    sym (run-found s.region.slots c.in-Some.from 1 _ refl e.1 e.2 c.into_slice.result.now run (rw (← c.len.ensures) c.into_slice.ensures.value)) ∙ (ap (filter_map (held_at s.region.slots)) (sym e.0) ∙ c.self.view_is)
