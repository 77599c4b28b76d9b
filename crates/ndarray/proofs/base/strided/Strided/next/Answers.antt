use Rattle.std.proofs.Common.{sym, ◌∙◌, ap, length, arith, [], ◌≡◌}
use Rattle.std.proofs.lemmas.List.{nil_from_length}
use Rattle.ndarray.specs.base.Storage.{seen_at}
use Rattle.ndarray.proofs.strides.Rows.{length-step_index, step_index-next, step_index-first}
use Rattle.ndarray.proofs.base.strided.Strided.next.Goals as goal

pub returns-then-self-eq0 : goal.returns-then-self-eq0
returns-then-self-eq0 g c =
    let e : c.args.self.now ≡ [] = nil_from_length _ (sym (ap length c.self.view_is) ∙ (length-step_index _ _ _ _ c.self.invariant ∙ c.if-self-eq0.true)) in
    (e, e)

pub get-requires : goal.get-requires
get-requires g c = (step_index-first (seen_at c.self.inside.storage) _ _ c.self.inside.left (omega (arith, c.if-self-eq0.false)) c.self.invariant).0

pub invariant_of-self : goal.invariant_of-self
invariant_of-self g c = (step_index-first (seen_at c.self.inside.storage) _ _ c.self.inside.left (omega (arith, c.if-self-eq0.false)) c.self.invariant).1

pub returns : goal.returns
returns g c = sym c.self.view_is ∙ step_index-next (seen_at c.self.inside.storage) _ _ c.self.inside.left _ (omega (arith, c.if-self-eq0.false)) c.get.ensures
