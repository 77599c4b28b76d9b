use Rattle.std.proofs.Common.{sym, ◌∙◌, ap, take, drop}
use Rattle.std.specs.List.{take-map, drop-map}
use Rattle.ndarray.specs.base.Masks.{SharesBoth, grids_at}
use Rattle.ndarray.specs.base.Slots.{held_at}
use Rattle.ndarray.proofs.regions.Masks.{SharesBoth-take, Shares-slots_in, Shares-slots_outside, grids-slots_in, grids-slots_outside}
use Rattle.ndarray.proofs.subviews.piece_layouts.PiecesIterMut.split_at.Goals as goal
use Rattle.ndarray.proofs.subviews.piece_layouts.PiecesIterMut.split_at.Goals.{After-split-here}

-- the first of them, and the others
both : (g : _) (c : After-split-here g) → SharesBoth (held_at c.self.inside.region.slots) (g.T.PieceLayouts.layouts c.take_first-first.result) (g.T.PieceLayouts.layouts c.take_first-first.new.self)
both g c = rw (c.take_first-first.ensures.first, c.take_first-first.ensures.rest) (SharesBoth-take _ (g.T.PieceLayouts.layouts c.self.inside.layouts) c.args.index c.self.invariant)

pub invariant_of-result : goal.invariant_of-result
invariant_of-result g c = rw c.split-here.ensures.first (Shares-slots_in c.self.inside.region.slots _ _ (both g c))

pub invariant_of-result-2 : goal.invariant_of-result-2
invariant_of-result-2 g c = rw c.split-here.ensures.second (Shares-slots_outside c.self.inside.region.slots _ _ (both g c))

pub returns-clause-first : goal.returns-clause-first
returns-clause-first g c =
    rw c.split-here.ensures.first (grids-slots_in c.self.inside.region.slots _ _ (both g c)
    ∙ (ap (grids_at (held_at c.self.inside.region.slots)) c.take_first-first.ensures.first
    ∙ (sym (take-map _ c.args.index (g.T.PieceLayouts.layouts c.self.inside.layouts)) ∙ ap (take c.args.index) c.self.view_is)))

pub returns-clause-second : goal.returns-clause-second
returns-clause-second g c =
    rw c.split-here.ensures.second (grids-slots_outside c.self.inside.region.slots _ _ (both g c)
    ∙ (ap (grids_at (held_at c.self.inside.region.slots)) c.take_first-first.ensures.rest
    ∙ (sym (drop-map _ c.args.index (g.T.PieceLayouts.layouts c.self.inside.layouts)) ∙ ap (drop c.args.index) c.self.view_is)))
