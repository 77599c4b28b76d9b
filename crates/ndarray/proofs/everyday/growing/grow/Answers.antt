use Rattle.std.proofs.Common.{◌∙◌, ◌++◌, ap, length, sym, take}
use Rattle.ndarray.proofs.cells.Cells.{cells-row_major}
use Rattle.ndarray.proofs.cells.ListedCells.{grid-listed, grid-listed_in_rows}
use Rattle.ndarray.proofs.everyday.growing.grow.Goals as goal

pub returns-in-Ok-push_cells-clause-grown : goal.returns-in-Ok-push_cells-clause-grown
returns-in-Ok-push_cells-clause-grown g c =
    let full = c.in-Ok-push_cells.ensures.pushed in
    let start = c.in-Ok.ensures.begun in
    grid-listed c.finish.result _ _ (c.finish.ensures.lengths ∙ (ap (λ b. b.lengths) full ∙ ap (λ b. b.lengths) start))
    (cells-row_major _ c.finish.result _ c.finish.ensures.whole c.finish.ensures.list (ap (λ b. b.order) full ∙ ap (λ b. b.order) start)
    ∙ (ap (λ b. b.cells) full ∙ ap (λ b. b.cells ++ c.args.growth.other.cells) start))

pub returns-in-Ok-clause-kept : goal.returns-in-Ok-clause-kept
returns-in-Ok-clause-kept g c =
    let array = c.args.array in
    let start = ap (λ b. b.cells) c.in-Ok.ensures.begun in
    grid-listed_in_rows c.from_elements.result array.lengths array.cells c.from_elements.ensures.whole (c.from_elements.ensures.lengths ∙ c.raw_dim-before.ensures.lengths)
    (c.from_elements.ensures.list
    ∙ (c.into_first.ensures
    ∙ (ap (λ n. take n c.push_cells.new.builder.cells) (c.len-count.ensures.cells ∙ sym (ap length start)) ∙ (c.push_cells.ensures.front ∙ start))))
