use Rattle.ndarray.proofs.algebra.Differences.{differences_add, differences_can}
use Rattle.ndarray.proofs.laws.diff_adds.Goals as goal

pub returns : goal.returns
returns g c = record {
  same = differences_add g.A.Sub.sub_gives;
  defined = differences_can g.A.Sub.sub_gives g.A.Sub.can_sub;
}
