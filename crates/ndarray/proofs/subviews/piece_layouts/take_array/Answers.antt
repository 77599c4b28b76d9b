use Rattle.std.proofs.Common.{[], ◌∷◌}
use Rattle.ndarray.specs.base.CellLayouts.{CellLayout, cell_layout}
use Rattle.ndarray.specs.base.Masks.{SharesBoth}
use Rattle.ndarray.specs.base.Slots.{held_at}
use Rattle.ndarray.proofs.regions.Masks.{SharesBoth-one, Shares-slots_outside, one-reaches, one-seen, grids-slots_outside}
use Rattle.ndarray.proofs.subviews.piece_layouts.take_array.Goals as goal

module _ (g : _) (c : goal.After-split-storage g) where
  -- where the array lies
  abbrev here : CellLayout
  here = cell_layout (g.D.Lengths.numbers c.args.layout.dim) c.args.layout.start (g.D.Lengths.numbers c.args.layout.strides)

  alone : SharesBoth (held_at c.args.region.now.slots) (here ∷ []) []
  alone = SharesBoth-one (held_at c.args.region.now.slots) here c.requires

pub invariant_of-result : goal.invariant_of-result
invariant_of-result g c = rw (c.split-storage.ensures.first, c.replace-whole.ensures.value) (one-reaches c.args.region.now.slots (here g c) [] (alone g c))

pub returns-clause-value : goal.returns-clause-value
returns-clause-value g c = rw (c.split-storage.ensures.first, c.replace-whole.ensures.value) (one-seen c.args.region.now.slots (here g c) [] (alone g c))

pub returns-clause-others : goal.returns-clause-others
returns-clause-others g c rest both =
    rw (c.split-storage.ensures.second, c.replace-whole.ensures.value)
    (Shares-slots_outside c.args.region.now.slots (here g c ∷ []) rest both, grids-slots_outside c.args.region.now.slots (here g c ∷ []) rest both)
