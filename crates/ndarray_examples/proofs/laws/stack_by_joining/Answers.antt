use Rattle.ndarray.proofs.Common.{◌≡◌, IfOk, subst, stack-by_joining}
use Rattle.ndarray_examples.proofs.laws.stack_by_joining.Goals as goal

pub returns-clause-shapes : goal.returns-clause-shapes
returns-clause-shapes c =
    let law = stack-by_joining c.stack_is_concat.ensures c.args.axis.0 c.args.first.now c.args.second.now c.view.result c.view-2.result c.insert_axis-one.result c.insert_axis-other.result
    c.view.ensures.same c.view-2.ensures.same c.view.ensures.whole c.view-2.ensures.whole c.insert_axis-one.ensures.value c.insert_axis-other.ensures.value c.requires.may_stack in
    λ k e. (let some = (c.concatenate.ensures.errors k).0 e in let none = law.0 in cc)

pub returns-clause-cells : goal.returns-clause-cells
returns-clause-cells c =
    let law = stack-by_joining c.stack_is_concat.ensures c.args.axis.0 c.args.first.now c.args.second.now c.view.result c.view-2.result c.insert_axis-one.result c.insert_axis-other.result
    c.view.ensures.same c.view-2.ensures.same c.view.ensures.whole c.view-2.ensures.whole c.insert_axis-one.ensures.value c.insert_axis-other.ensures.value c.requires.may_stack in
    subst (λ w. IfOk c.concatenate.result (λ r. r ≡ w)) law.1 c.concatenate.ensures.cells
