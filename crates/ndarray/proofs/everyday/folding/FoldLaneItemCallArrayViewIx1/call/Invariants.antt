-- What the total so far becomes by the cells to come, `init` becomes by all.
use Rattle.std.proofs.Common.{All}
use Rattle.std.specs.List.{FoldsTo}
use Rattle.ndarray.specs.Everyday.{ReturnsAtBoth, TakesAtBoth}
use Rattle.ndarray.proofs.everyday.folding.FoldLaneItemCallArrayViewIx1.call.Given as goal

abbrev pub invariant-loop-x : goal.invariant-loop-x
invariant-loop-x g l = record {
  can : (b : g.row.B.Denot) → All (TakesAtBoth g.F.Fn l.self.f b) l.x-iterator;
  folds : (t : g.row.B.Denot) → FoldsTo (ReturnsAtBoth g.F.Fn l.self.f) l.total l.x-iterator t → FoldsTo (ReturnsAtBoth g.F.Fn l.self.f) l.self.init l.fn.lane.cells t;
}
