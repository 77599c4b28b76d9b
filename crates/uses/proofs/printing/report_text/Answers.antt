use Rattle.ndarray.proofs.Common.{◌≡◌, ◌∙◌, ◌++◌, ◌∷◌, [], ℤ, ap, append-nil, of_z, sym, to_z, w64, to_z-of_z, zip, flat_map, string_bytes, Grid, lanes_of, zip-over}
use Rattle.uses.specs.Printing.{sum_text}
use Rattle.uses.proofs.printing.report_text.Goals as goal

pub returns : goal.returns
returns c =
    let lines = flat_map (λ (p : Grid ℤ × ℤ). sum_text p.0.cells p.1) in
    let all = to_z-of_z w64 c.args.all c.ranges.all in
    let text = string_bytes c.loop-row.text in
    let over : zip c.loop-row.row-iterator.a c.loop-row.row-iterator.b ≡ [] = zip-over c.in-None.ensures.steps in
    let whole : text ≡ lines (zip (lanes_of c.args.table.now 1).cells c.args.rows.now.cells) = sym (append-nil text) ∙ (ap (λ ps. text ++ lines ps) (sym over) ∙ c.loop-row.invariant) in
    c.in_ok-push_sum-2.ensures
    ∙ (ap (λ t. t ++ sum_text c.args.columns.now.cells (to_z w64 (of_z w64 c.args.all))) whole
    ∙ ap (λ k. lines (zip (lanes_of c.args.table.now 1).cells c.args.rows.now.cells) ++ sum_text c.args.columns.now.cells k) all)
