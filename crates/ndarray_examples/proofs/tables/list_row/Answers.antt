use Rattle.ndarray.proofs.Common.{◌≡◌, ◌∙◌, IfOk, ap, subst, row-list}
use Rattle.ndarray_examples.proofs.tables.list_row.Goals as goal

pub returns : goal.returns
returns g c =
    subst (λ xs. IfOk c.numbers_of.result (λ numbers. numbers.items ≡ xs))
    (ap (λ r. r.cells) c.row.ensures.value ∙ row-list c.args.table.now c.raw_dim-whole.ensures.whole c.raw_dim-whole.ensures.axes c.args.row c.requires)
    c.numbers_of.ensures
