use Rattle.std.proofs.Common.{◌∙◌, ap, length, map, refl, sym}
use Rattle.std.proofs.lemmas.List.{length-map}
use Rattle.ndarray.specs.Convolution.{valid_counts}
use Rattle.ndarray.specs.Index.{row_order}
use Rattle.ndarray.specs.conv.WindowSums.{window_sum}
use Rattle.ndarray.specs.declared.base.shape.Order.TheVariants.{RowMajor}
use Rattle.ndarray.proofs.boxes.Orders.{length-row_order}
use Rattle.ndarray.proofs.cells.Cells.{cells-row_major}
use Rattle.ndarray.proofs.cells.Products.{values-in_row_order}
use Rattle.ndarray.proofs.conv.rows.sums_by_rows.Goals as goal

pub from_elements-requires-clause-many : goal.from_elements-requires-clause-many
from_elements-requires-clause-many g c =
    let v = g.A.Valued in
    let ns = g.D.Lengths.numbers c.args.positions in
    sym (length-map c.push_sums.new.sums.items v.meaning) ∙ (ap length c.push_sums.ensures ∙ (length-map (row_order ns) (window_sum v c.args.a.now c.args.mirrored.now) ∙ length-row_order ns))

pub returns : goal.returns
returns g c =
    let v = g.A.Valued in
    let f = window_sum v c.args.a.now c.args.mirrored.now in
    let r = c.from_elements.result in
    let cells = cells-row_major RowMajor r c.push_sums.new.sums.items c.from_elements.ensures.whole c.from_elements.ensures.list refl in
    record {
      made = values-in_row_order v (valid_counts c.args.a.now.lengths c.args.mirrored.now.lengths) f r (c.from_elements.ensures.lengths ∙ c.requires.counts) c.from_elements.ensures.whole
          (ap (map v.meaning) cells ∙ (c.push_sums.ensures ∙ ap (λ ns. map f (row_order ns)) c.requires.counts));
      empty = λ none. refl;
    }
