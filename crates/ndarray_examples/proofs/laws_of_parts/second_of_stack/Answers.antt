use Rattle.ndarray.proofs.Common.{rules, refl, [], ◌∷◌, All-cons, All-nil, IsGrid}
use Rattle.ndarray_examples.proofs.laws_of_parts.second_of_stack.Goals as goal

pub returns : goal.returns
returns c =
    let first = c.args.first.now in
    let second = c.args.second.now in
    let whole = All-cons IsGrid first (second ∷ []) c.raw_dim.ensures.whole (All-cons IsGrid second [] c.raw_dim-2.ensures.whole (All-nil IsGrid)) in
    let item = c.parts_join.ensures.items c.args.axis.0 1 (first ∷ second ∷ []) second whole c.requires.may_stack refl in
    search (rules, item)
