use Rattle.std.proofs.Common.{◌∙◌, sym, arith}
use Rattle.ndarray.specs.base.Storage.{seen_at}
use Rattle.ndarray.proofs.strides.SideBySide.{places-there, places-elements}
use Rattle.ndarray.proofs.base.strided.Strided.side_by_side.Goals as goal

pub elements_from-requires-clause-there : goal.elements_from-requires-clause-there
elements_from-requires-clause-there g c =
    places-there (seen_at c.self.inside.storage) c.self.inside.step c.self.inside.left c.self.inside.place (omega (arith, c.if-self-ne1.false)) (omega (arith, c.if-self-eq0.false, c.if-self.false)) c.self.invariant

pub returns : goal.returns
returns g c =
    sym (places-elements (seen_at c.self.inside.storage) c.self.inside.step c.self.inside.left c.self.inside.place c.elements_from.result.now (omega (arith, c.if-self-ne1.false)) (omega (arith, c.if-self-eq0.false, c.if-self.false)) c.elements_from.ensures.many c.elements_from.ensures.each)
    ∙ c.self.view_is
