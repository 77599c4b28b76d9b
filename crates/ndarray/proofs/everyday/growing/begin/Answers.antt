use Rattle.std.proofs.Common.{◌∙◌}
use Rattle.ndarray.proofs.cells.ListedCells.{grid-listed_in_rows}
use Rattle.ndarray.proofs.everyday.growing.begin.Goals as goal

pub returns-in-Ok-clause-back : goal.returns-in-Ok-clause-back
returns-in-Ok-clause-back g c =
    let array = c.args.array in
    grid-listed_in_rows c.from_elements.result array.lengths array.cells c.from_elements.ensures.whole (c.from_elements.ensures.lengths ∙ c.raw_dim-before.ensures.lengths)
    (c.from_elements.ensures.list ∙ (c.in-Err-extending.ensures.back ∙ c.in-Ok.ensures.cells))
