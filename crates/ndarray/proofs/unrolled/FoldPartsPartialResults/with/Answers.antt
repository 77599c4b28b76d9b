use Rattle.std.proofs.Common.{ap, get_or}
use Rattle.ndarray.proofs.parts.FoldedParts.{fold-more}
use Rattle.ndarray.proofs.unrolled.FoldPartsPartialResults.with.Goals as goal

pub f-requires : goal.f-requires
f-requires g c =
    let xs = c.args.self.now.elements.now in
    let i = c.args.i in
    let x = get_or xs i c.index-self-i.result in
    let (keep, (part, ends)) = c.requires.behind in
    c.requires.parts.1.may_step keep i c.requires.place ends c.args.part x part (ap (get_or xs i) c.index-self-i.is)

pub returns : goal.returns
returns g c =
    let xs = c.args.self.now.elements.now in
    let i = c.args.i in
    let x = get_or xs i c.index-self-i.result in
    λ keep next more part. fold-more _ _ xs keep next i c.args.part x c.f.result c.requires.place (ap (get_or xs i) c.index-self-i.is) c.f.ensures more part
