use Rattle.ndarray.proofs.parts.FoldedParts.{fold-joined}
use Rattle.ndarray.proofs.unrolled.FoldPartsPartialResults.join.Goals as goal

pub f-requires : goal.f-requires
f-requires g c =
    let (p, (q, (apart, (first, second)))) = c.requires.apart in
    c.requires.parts.1.may_join p q apart c.args.a c.args.b first second

pub returns : goal.returns
returns g c =
    λ p q both two first second. fold-joined _ _ c.args.self.now.elements.now _ c.requires.parts.1 p q both c.args.a c.args.b c.f.result c.f.ensures two first second
