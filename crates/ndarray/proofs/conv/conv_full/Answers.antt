use Rattle.std.proofs.Common.{subst, sym}
use Rattle.ndarray.specs.Convolution.{HasFullSumsInRange, MakesFullConvolution}
use Rattle.ndarray.proofs.convolution.Exchanged.{made-exchanged, sums-exchanged}
use Rattle.ndarray.proofs.conv.conv_full.Goals as goal

pub convolution_of_longer-requires-clause-sums : goal.convolution_of_longer-requires-clause-sums
convolution_of_longer-requires-clause-sums g c κs lives =
    let v = g.A.Valued in
    subst (λ w. HasFullSumsInRange v w.cells c.view-x.result.cells) (sym c.view-y.ensures.same)
    (subst (λ w. HasFullSumsInRange v c.args.y.now.cells w.cells) (sym c.view-x.ensures.same)
    (sums-exchanged v c.args.x.now.cells c.args.y.now.cells c.requires.sums))

pub returns-then-len : goal.returns-then-len
returns-then-len g c =
    let v = g.A.Valued in
    let r = c.convolution_of_longer.result in
    made-exchanged v c.args.x.now.cells c.args.y.now.cells r
    (subst (λ w. MakesFullConvolution v w.cells c.args.x.now.cells r) c.view-y.ensures.same
    (subst (λ w. MakesFullConvolution v c.view-y.result.cells w.cells r) c.view-x.ensures.same c.convolution_of_longer.ensures))
