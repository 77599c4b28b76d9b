use Rattle.std.proofs.Common.{◌≡◌, ◌∙◌, ◌+◌, ◌-◌, ap, drop, length, reverse, subst, sym}
use Rattle.std.proofs.lemmas.List.{reverse-reverse}
use Rattle.ndarray.specs.Convolution.{HasFullSelectionsInRange}
use Rattle.ndarray.specs.Integers.{int_products, int_sums}
use Rattle.ndarray.specs.Sums.{IsSummable}
use Rattle.ndarray.proofs.convolution.Overlaps.{overlap-products}
use Rattle.ndarray.proofs.conv.full_fits.Goals as goal

pub returns-clause-sums : goal.returns-clause-sums
returns-clause-sums g c =
    let v = g.A.Valued in
    let value = g.A.Number.value in
    let fits = g.A.Number.fits in
    let xs = c.args.x.now.cells in
    let ys = c.args.y.now.cells in
    let back : reverse c.mirrored_view.result.cells ≡ ys = ap reverse c.mirrored_view.ensures.cells ∙ (reverse-reverse c.view-2.result.cells ∙ ap (λ w. w.cells) c.view-2.ensures.same) in
    λ on s below.
    let all : HasFullSelectionsInRange value fits xs ys = subst (λ w. HasFullSelectionsInRange value fits w.cells ys) c.view.ensures.same (subst (HasFullSelectionsInRange value fits c.view.result.cells) back (c.overlaps_fit.ensures.selections on)) in
    subst (IsSummable v.addition v.InRange) (overlap-products v.multiplication v.meaning xs ys s)
    (g.met.A.IntegerScalar.inner_summable (drop (s + 1 - length ys) xs) (drop (length ys - (s + 1)) (reverse ys))
    (subst (IsSummable int_sums fits) (sym (overlap-products int_products value xs ys s)) (all s below)))
