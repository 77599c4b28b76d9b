use Rattle.std.proofs.Common.{◌≡◌, ◌∙◌, ◌+◌, ◌-◌, ap, arith, length, subst, suc, sym}
use Rattle.std.proofs.lemmas.Bool.{false≢true}
use Rattle.ndarray.specs.AlongAxis.{CanCumulate, Cumulates}
use Rattle.ndarray.specs.Elementwise.{CanMap}
use Rattle.ndarray.specs.Index.{size}
use Rattle.ndarray.specs.Subviews.{lanes_of}
use Rattle.ndarray.proofs.boxes.Sizes.{size-reverse}
use Rattle.ndarray.proofs.cells.ReversedProducts.{cumulates-reversed, lanes-reversed}
use Rattle.ndarray.proofs.reduce.cumprod.products_by_columns.Goals as goal

pub products_by_rows-requires-clause-defined : goal.products_by_rows-requires-clause-defined
products_by_rows-requires-clause-defined g c =
    let g' = c.again.result in
    let axes : c.ndim.result - 1 - c.args.axis.0 + suc c.args.axis.0 ≡ length g'.lengths = omega (arith, c.ndim.ensures.value, c.requires.axis, ap (λ w. length w.lengths) c.again.ensures.same) in
    lanes-reversed g' c.reversed_axes-reversed.result c.again.ensures.whole c.reversed_axes-reversed.ensures.whole c.reversed_axes-reversed.ensures.value c.args.axis.0 (c.ndim.result - 1 - c.args.axis.0) axes
    (CanCumulate g.A.Mul.can_mul g.A.Mul.mul_gives) tt (subst (λ w. CanMap (λ l. CanCumulate g.A.Mul.can_mul g.A.Mul.mul_gives l.cells) (lanes_of w c.args.axis.0)) (sym c.again.ensures.same) c.requires.defined)

pub returns-in_err-products-clause-empty : goal.returns-in_err-products-clause-empty
returns-in_err-products-clause-empty g c none =
    let same = ap (λ w. size w.lengths) c.reversed_axes-reversed.ensures.value ∙ (size-reverse c.again.result.lengths ∙ ap (λ w. size w.lengths) c.again.ensures.same) in
    absurd (false≢true (c.in_err-products.ensures.empty (same ∙ none)))

pub returns-clause-products : goal.returns-clause-products
returns-clause-products g c =
    let g' = c.again.result in
    let axes : c.ndim.result - 1 - c.args.axis.0 + suc c.args.axis.0 ≡ length g'.lengths = omega (arith, c.ndim.ensures.value, c.requires.axis, ap (λ w. length w.lengths) c.again.ensures.same) in
    subst (λ w. Cumulates g.A.Mul.mul_gives c.args.axis.0 w c.reversed_axes.result) c.again.ensures.same
    (cumulates-reversed g' c.reversed_axes-reversed.result c.again.ensures.whole c.reversed_axes-reversed.ensures.whole c.reversed_axes-reversed.ensures.value c.args.axis.0 (c.ndim.result - 1 - c.args.axis.0) axes
    g.A.Mul.mul_gives c.in_ok-products.products c.reversed_axes.result c.in_ok-products.ensures.products c.reversed_axes.ensures.value c.reversed_axes.ensures.whole)
