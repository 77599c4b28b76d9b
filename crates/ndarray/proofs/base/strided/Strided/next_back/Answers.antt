use Rattle.std.proofs.Common.{sym, ◌∙◌, arith}
use Rattle.ndarray.specs.base.Storage.{seen_at}
use Rattle.ndarray.proofs.strides.Rows.{step_index-last, step_index-back}
use Rattle.ndarray.proofs.base.strided.Strided.next_back.Goals as goal

pub get-requires : goal.get-requires
get-requires g c = (step_index-last (seen_at c.self.inside.storage) _ _ c.self.inside.left (omega arith) (omega (arith, c.if-self-eq0.false)) c.self.invariant).0

pub invariant_of-self : goal.invariant_of-self
invariant_of-self g c = (step_index-last (seen_at c.self.inside.storage) _ _ c.self.inside.left (omega arith) (omega (arith, c.if-self-eq0.false)) c.self.invariant).1

pub returns : goal.returns
returns g c = sym c.self.view_is ∙ step_index-back (seen_at c.self.inside.storage) _ _ c.self.inside.left (omega arith) (omega (arith, c.if-self-eq0.false)) c.self.invariant _ c.get.ensures
