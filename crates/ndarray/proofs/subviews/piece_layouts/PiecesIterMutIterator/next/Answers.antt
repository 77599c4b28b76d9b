use Rattle.std.proofs.Common.{sym, subst, ◌∙◌, ap}
use Rattle.ndarray.specs.base.Masks.{Shares, grids_at}
use Rattle.ndarray.specs.base.Slots.{held_at}
use Rattle.ndarray.proofs.regions.Masks.{SharesBoth-first, one-of}
use Rattle.ndarray.proofs.subviews.piece_layouts.PiecesIterMutIterator.next.Goals as goal

pub take_array-requires : goal.take_array-requires
take_array-requires g c = one-of _ _ _ (SharesBoth-first _ _ _ _ c.in-Some.ensures c.self.invariant)

pub invariant_of-self-2 : goal.invariant_of-self-2
invariant_of-self-2 g c = (c.take_array.ensures.others _ (SharesBoth-first _ _ _ _ c.in-Some.ensures c.self.invariant)).0

pub returns-clause-steps : goal.returns-clause-steps
returns-clause-steps g c =
    let others = (c.take_array.ensures.others _ (SharesBoth-first _ _ _ _ c.in-Some.ensures c.self.invariant)).1 in
    let value = c.take_array.ensures.value in
    sym c.self.view_is ∙ (ap (grids_at (held_at c.self.inside.region.slots)) c.in-Some.ensures ∙ (cc))

pub invariant_of-self : goal.invariant_of-self
invariant_of-self g c = let none = rw c.in_default.is at c.next.ensures in subst (Shares (held_at c.self.inside.region.slots)) (none.0 ∙ sym none.1) c.self.invariant

pub returns-in_default-clause-steps : goal.returns-in_default-clause-steps
returns-in_default-clause-steps g c =
    let none = rw c.in_default.is at c.next.ensures in
    (sym c.self.view_is ∙ ap (grids_at (held_at c.self.inside.region.slots)) none.0, ap (grids_at (held_at c.self.inside.region.slots)) none.1)
