use Rattle.std.proofs.Common.{◌≡◌, ◌-◌, ◌∙◌, ap, arith, inl, inr, length, refl, sym}
use Rattle.ndarray.specs.Convolution.{padded}
use Rattle.ndarray.specs.Grid.{one_axis}
use Rattle.ndarray.proofs.callers.Joining.{one_axis-is}
use Rattle.ndarray.proofs.convolution.Padding.{none-made, padded-made, padded-sums}
use Rattle.ndarray.proofs.conv.convolution_of_longer.Goals as goal

pub conv_valid-requires-clause-sums : goal.conv_valid-requires-clause-sums
conv_valid-requires-clause-sums g c κs lives =
    let v = g.A.Valued in
    let xs = c.args.x.now.cells in
    let ys = c.args.y.now.cells in
    let is_padded : c.in_ok-padded.padded ≡ one_axis (padded g.A.Zero.zero (length ys - 1) xs) = c.in_ok-padded.ensures ∙ ap (λ k. one_axis (padded g.A.Zero.zero (k - 1) xs)) c.len-m.ensures.cells in
    padded-sums v g.met.A.LinalgScalar.absorbs g.A.Zero.zero g.met.A.SumElem.zero_meaning xs ys (omega (arith, c.len.ensures.cells, c.if-len-eq0.false)) (omega (arith, c.len-m.ensures.cells, c.if-m-eq0.false)) c.in_ok-padded.padded c.args.y.now is_padded
    (one_axis-is c.args.y.now c.raw_dim-whole.ensures.axes c.raw_dim-whole.ensures.whole) c.requires.sums

pub returns : goal.returns
returns g c =
    let v = g.A.Valued in
    let xs = c.args.x.now.cells in
    let ys = c.args.y.now.cells in
    let is_padded : c.in_ok-padded.padded ≡ one_axis (padded g.A.Zero.zero (length ys - 1) xs) = c.in_ok-padded.ensures ∙ ap (λ k. one_axis (padded g.A.Zero.zero (k - 1) xs)) c.len-m.ensures.cells in
    padded-made v g.met.A.LinalgScalar.absorbs g.A.Zero.zero g.met.A.SumElem.zero_meaning xs ys (omega (arith, c.len.ensures.cells, c.if-len-eq0.false)) (omega (arith, c.len-m.ensures.cells, c.if-m-eq0.false)) c.in_ok-padded.padded c.args.y.now is_padded
    (one_axis-is c.args.y.now c.raw_dim-whole.ensures.axes c.raw_dim-whole.ensures.whole) c.conv_valid.result c.conv_valid.ensures

pub returns-then-len-eq0 : goal.returns-then-len-eq0
returns-then-len-eq0 g c =
    none-made g.A.Valued c.args.x.now.cells c.args.y.now.cells _
    (elim c.then-len-eq0.either [ inl x ↦ inl (sym c.len.ensures.cells ∙ x) | inr y ↦ inr (sym c.len-m.ensures.cells ∙ y.1) ])
    c.zeros.ensures.lengths c.zeros.ensures.whole (c.zeros.ensures.empty refl)
