use Rattle.ndarray.specs.base.Slots.{held_at}
use Rattle.ndarray.proofs.regions.Masks.{SharesBoth-none, Shares-slots_in, Shares-slots_outside, grids-slots_in, grids-slots_outside}
use Rattle.ndarray.proofs.subviews.piece_layouts.PiecesIterMut.taken_from.Goals as goal

pub invariant_of-result : goal.invariant_of-result
invariant_of-result g c =
    let ss = g.T.PieceLayouts.layouts c.args.layouts in
    rw (c.split-here.ensures.first, c.replace-whole.ensures.value) (Shares-slots_in c.args.region.now.slots ss _ (SharesBoth-none (held_at c.args.region.now.slots) ss c.requires))

pub returns-clause-value : goal.returns-clause-value
returns-clause-value g c =
    let ss = g.T.PieceLayouts.layouts c.args.layouts in
    rw (c.split-here.ensures.first, c.replace-whole.ensures.value) (grids-slots_in c.args.region.now.slots ss _ (SharesBoth-none (held_at c.args.region.now.slots) ss c.requires))

pub returns-clause-others : goal.returns-clause-others
returns-clause-others g c rest both =
    let ss = g.T.PieceLayouts.layouts c.args.layouts in
    rw (c.split-here.ensures.second, c.replace-whole.ensures.value)
    (Shares-slots_outside c.args.region.now.slots ss rest both, grids-slots_outside c.args.region.now.slots ss rest both)
