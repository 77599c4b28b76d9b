-- Inside `base`: what a writing view ends as, once the borrows of its layout and its elements have ended.
use Rattle.std.specs.Borrow.{Fml, RattleType, MutBor}
use base.Fml.{GName}
use Rattle.ndarray.specs.Grid.{Grid}
use Rattle.ndarray.specs.Writes.{keeps_lengths}
use Rattle.ndarray.specs.declared.base.dimension.Lengths.{Ghosts}
use Rattle.ndarray.specs.contracts.base.region.RegionRepr.{the_row as region_row}
use Rattle.ndarray.specs.contracts.base.region.RegionReprData.TheImpl.{ghosts}

-- the view keeps its lengths, and as many cells: M for its lifetime, E for its elements, D for its lengths
abbrev pub follows_reborrow : (M E D : RattleType) (d : Ghosts D.Denot) → MutBor (Grid E.Denot) → GName → Fml
follows_reborrow M E D = keeps_lengths (region_row M E) D E (ghosts M E)
