use Rattle.ndarray.proofs.Common.{◌≡◌, subst, IfOk, IfSome, if_ok-both, int_products, int_sums, one_axis}
use Rattle.ndarray.specs.Convolution.{full_convolution}
use Rattle.ndarray_examples.proofs.ConvolutionsInTurn.{in-turn, made-of}
use Rattle.ndarray_examples.proofs.filters.convolution_of_three.Goals as goal

pub returns-clause-when : goal.returns-clause-when
returns-clause-when g c =
    let first = made-of c.args.x.now.cells c.args.y.now.cells c.in_ok-first.field-0 c.in-Some.first c.in-Some.is c.in_ok-first.ensures.when c.in_ok-first.ensures.one_way in
    if_ok-both c.convolution_either_way-2.result _ _ _ (λ o when again. in-turn c.args.x.now.cells c.args.y.now.cells c.args.z.now.cells c.in-Some.first first o when) c.convolution_either_way-2.ensures.when c.convolution_either_way-2.ensures.when

pub returns-clause-from_left : goal.returns-clause-from_left
returns-clause-from_left g c =
    let first = made-of c.args.x.now.cells c.args.y.now.cells c.in_ok-first.field-0 c.in-Some.first c.in-Some.is c.in_ok-first.ensures.when c.in_ok-first.ensures.one_way in
    subst (λ w. IfOk c.convolution_either_way-2.result (λ made. IfSome made (λ r. r ≡ one_axis (full_convolution int_sums int_products w.cells c.args.z.now.cells)))) first.is c.convolution_either_way-2.ensures.one_way

pub returns-clause-from_right : goal.returns-clause-from_right
returns-clause-from_right g c = subst (λ l. IfOk c.convolution_either_way-2.result (λ made. IfSome made (λ r. r ≡ one_axis l))) (c.conv_assoc.ensures c.args.x.now.cells c.args.y.now.cells c.args.z.now.cells) (returns-clause-from_left g c)
