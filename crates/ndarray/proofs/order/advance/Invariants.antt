use Rattle.std.proofs.Common.{◌≡◌, ◌+◌, ◌≤◌}
use Rattle.ndarray.specs.Index.{InBox}
use Rattle.ndarray.specs.base.Ranks.{rank_in, block_in}
use Rattle.ndarray.proofs.order.advance.Given as goal

abbrev pub invariant-loop-p : goal.invariant-loop-p
invariant-loop-p g l = record {
  within : InBox (g.D.Lengths.numbers l.dim) (g.D.Lengths.numbers l.index);
  bit : l.carry ≤ 1;
  carries : l.carry ≡ 1 → rank_in l.order (g.D.Lengths.numbers l.dim) (g.D.Lengths.numbers l.index) + block_in l.order (g.D.Lengths.numbers l.dim) l.p ≡ rank_in l.order (g.D.Lengths.numbers l.dim) (g.D.Lengths.numbers l.initial.index) + 1;
  done : l.carry ≡ 0 → rank_in l.order (g.D.Lengths.numbers l.dim) (g.D.Lengths.numbers l.index) ≡ rank_in l.order (g.D.Lengths.numbers l.dim) (g.D.Lengths.numbers l.initial.index) + 1;
}
