use Rattle.ndarray.proofs.Common.{◌≡◌, ◌∙◌, ◌∷◌, [], ◌==◌, ap, map, refl, subst, sym, All, concat, YieldsList-at, map-append}
use Rattle.std.specs.Str.Iter.{lines_steps}
use Rattle.std.specs.Str.Lines.{lines}
use Rattle.std.proofs.lemmas.Iterator.Splits.{YieldsList-from_lines}
use Rattle.std.proofs.lemmas.Str.Ascii.{trim_ascii_end_is}
use Rattle.uses.specs.Rows.{IsMark, SpellCells}
use Rattle.uses.specs.Words.{rows_of}
use Rattle.uses.proofs.FaultsPassedOn.{passed-on}
use Rattle.uses.proofs.Marks.{row-marks, row-more}
use Rattle.uses.proofs.Taken.{taken-all, taken-next}
use Rattle.uses.proofs.rows.cells.Goals as goal

pub loop-row-preserved : goal.loop-row-preserved
loop-row-preserved c =
    let rows = map (λ x. x.now) c.loop-row.yielded in
    subst (λ rows. SpellCells (concat rows) c.push_cells.new.cells.items) (sym (map-append (λ x. x.now) c.loop-row.yielded (c.in-Some.row ∷ [])))
    (row-more rows c.in-Some.row.now c.loop-row.cells.items c.push_cells.new.cells.items c.loop-row.invariant c.in_ok-push_cells.ensures.read)

pub returns-in_err-push_cells-clause-err : goal.returns-in_err-push_cells-clause-err
returns-in_err-push_cells-clause-err c =
    let text = c.trim_ascii_end-text.result.now in
    let trimmed : lines text ≡ rows_of c.args.text.now = ap lines (trim_ascii_end_is c.args.text.now text c.trim_ascii_end-text.ensures.value) in
    let road = YieldsList-at c.into_iter-row-iterator.ensures.into_iter_gives (YieldsList-from_lines text c.lines-row-items.ensures.rest) in
    let (rest, all) = taken-next lines_steps (λ x. x.now) c.loop-row.yielded (lines text) _ _ c.next.new.self c.in-Some.row road c.loop-row.yielded_by c.in-Some.ensures.steps in
    passed-on (SpellCells c.in-Some.row.now) (SpellCells (concat (rows_of c.args.text.now))) c.from_residual.result c.in_err-push_cells.field-0.0 c.from_residual.ensures.1 c.in_err-push_cells.ensures.err
    (λ cells r. (
      map (λ b. b == 35) c.in-Some.row.now,
      record {
        spelled = row-marks (map (λ x. x.now) c.loop-row.yielded) rest c.in-Some.row.now (subst (λ rows. All IsMark (concat rows)) (sym trimmed ∙ all) r.spelled);
        values = refl;
      },
    ))

pub returns-clause-read : goal.returns-clause-read
returns-clause-read c =
    let text = c.trim_ascii_end-text.result.now in
    let trimmed : lines text ≡ rows_of c.args.text.now = ap lines (trim_ascii_end_is c.args.text.now text c.trim_ascii_end-text.ensures.value) in
    let road = YieldsList-at c.into_iter-row-iterator.ensures.into_iter_gives (YieldsList-from_lines text c.lines-row-items.ensures.rest) in
    let all = taken-all lines_steps (λ x. x.now) c.loop-row.yielded (lines text) _ _ c.next.new.self road c.loop-row.yielded_by c.in-None.ensures.steps in
    subst (λ rows. SpellCells (concat rows) c.loop-row.cells.items) (sym all ∙ trimmed) c.loop-row.invariant
