use Rattle.ndarray.specs.Scans.{step_gives}
use Rattle.ndarray.proofs.cells.LaneSteps.{StepsState}
use Rattle.ndarray.proofs.subviews.lane_tiles.step_each.Given as goal

abbrev pub invariant-loop-t : goal.invariant-loop-t
invariant-loop-t g l = StepsState (step_gives g.F.Fn l.f) l.fn.places l.fn.values (g.S.Data.at l.fn.storage) l.places l.values (g.S.Data.at l.storage) l.t
