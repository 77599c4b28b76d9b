use Rattle.std.proofs.Common.{length}
use Rattle.ndarray.specs.Scans.{step_gives}
use Rattle.ndarray.proofs.cells.PlaceScans.{PlacesState}
use Rattle.ndarray.proofs.subviews.scans.scan_places.Given as goal

abbrev pub invariant-loop-place : goal.invariant-loop-place
invariant-loop-place g l = PlacesState (step_gives g.F.Fn l.f) l.fn.init l.fn.places (g.S.Data.at l.fn.storage) l.places l.value (g.S.Data.at l.storage)

abbrev pub decreases-loop-place : goal.decreases-loop-place
decreases-loop-place g l = length l.places
