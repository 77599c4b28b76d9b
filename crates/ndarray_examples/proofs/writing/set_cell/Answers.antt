use Rattle.ndarray.proofs.Common.{rules, ◌∙◌, ◌∷◌, [], Some, ap, of_z, to_z, w64, to_z-of_z, InBox, with_cell-elsewhere, with_cell-here, with_cell-whole}
use Rattle.ndarray_examples.proofs.writing.set_cell.Goals as goal

pub returns-in-Some-clause-whole : goal.returns-in-Some-clause-whole
returns-in-Some-clause-whole g c = with_cell-whole c.args.table.now (c.args.row ∷ c.args.column ∷ []) (to_z w64 (of_z w64 c.args.value)) c.raw_dim-whole.ensures.whole

pub returns-in-Some-clause-written : goal.returns-in-Some-clause-written
returns-in-Some-clause-written g c = λ _.
    let inside : InBox c.args.table.now.lengths (c.args.row ∷ c.args.column ∷ []) = search rules in
    with_cell-here c.args.table.now (c.args.row ∷ c.args.column ∷ []) (to_z w64 (of_z w64 c.args.value)) c.raw_dim-whole.ensures.whole inside
    ∙ ap (λ z. Some z) (to_z-of_z w64 c.args.value c.ranges.value)

pub returns-in-Some-clause-others : goal.returns-in-Some-clause-others
returns-in-Some-clause-others g c = λ is other. with_cell-elsewhere c.args.table.now (c.args.row ∷ c.args.column ∷ []) is (to_z w64 (of_z w64 c.args.value)) other
