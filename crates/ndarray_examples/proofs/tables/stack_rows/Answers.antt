use Rattle.ndarray.proofs.Common.{◌≡◌, ◌∙◌, ◌∷◌, [], Err, None, ap, arith, items-stack, stack_error}
use Rattle.ndarray_examples.proofs.tables.stack_rows.Goals as goal

pub unreachable-requires : goal.unreachable-requires
unreachable-requires g c =
    let two = c.raw_dim-lengths.ensures.axes in
    let none : stack_error 0 (c.row.result.lengths ∷ c.row-2.result.lengths ∷ []) ≡ None =
    rw (c.row.ensures.value, c.row-2.ensures.value) (items-stack c.args.table.now.lengths 0 (omega (arith, two)) (omega (arith, two)) c.raw_dim-lengths.ensures.limit c.requires) in
    let some = (c.stack.ensures.errors c.in-Err-Shape.field-0-0.kind).0 (c.in-Err-Shape.is ∙ ap Err c.in-Err-Shape.field-0-is) in
    cc
