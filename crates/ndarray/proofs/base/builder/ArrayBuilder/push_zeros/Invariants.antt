-- As many zeros were pushed as there are more cells.
use Rattle.std.proofs.Common.{◌≡◌, ◌-◌, ◌≤◌, length, replicate}
use Rattle.ndarray.specs.base.Builder.{pushed_all}
use Rattle.ndarray.proofs.base.builder.ArrayBuilder.push_zeros.Given as goal

abbrev pub invariant-loop-self : goal.invariant-loop-self
invariant-loop-self g l = record {
  from : length l.fn.self.cells ≤ length l.self.cells;
  some : length l.self.cells - length l.fn.self.cells ≤ l.many;
  kept : l.self ≡ pushed_all l.fn.self (replicate (length l.self.cells - length l.fn.self.cells) g.A.Zero.zero);
}

abbrev pub decreases-loop-self : goal.decreases-loop-self
decreases-loop-self g l = l.many - (length l.self.cells - length l.fn.self.cells)
