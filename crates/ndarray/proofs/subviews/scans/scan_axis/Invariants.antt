use Rattle.std.proofs.Common.{min}
use Rattle.ndarray.specs.Scans.{step_gives}
use Rattle.ndarray.proofs.cells.Scans.{LanesState}
use Rattle.ndarray.proofs.subviews.scans.scan_axis.Given as goal

abbrev pub invariant-loop-first : goal.invariant-loop-first
invariant-loop-first g l = LanesState (step_gives g.F.Fn l.f) l.init l.fn.array l.axis.0 (min l.len 1) l.first-iterator l.array
