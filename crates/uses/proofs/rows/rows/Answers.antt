use Rattle.ndarray.proofs.Common.{◌≡◌, ◌∙◌, ◌∷◌, [], ap, arith, inr, length, length-append, map, refl, subst, sym, All, YieldsList-at, length-map}
use Rattle.std.specs.Str.Iter.{lines_steps}
use Rattle.std.specs.Str.Lines.{lines}
use Rattle.std.proofs.lemmas.Iterator.Splits.{YieldsList-from_lines}
use Rattle.std.proofs.lemmas.Str.Ascii.{trim_ascii_end_is}
use Rattle.uses.specs.Rows.{HasRows, columns_of, first_columns}
use Rattle.uses.specs.Words.{rows_of}
use Rattle.uses.proofs.Taken.{all-more, at-seam, taken-all, taken-next}
use Rattle.uses.proofs.rows.rows.Goals as goal
use Rattle.uses.proofs.rows.rows.Goals.{in-Some, in-None}

pub loop-row-preserved : goal.loop-row-preserved
loop-row-preserved c =
    let i = c.loop-row.invariant in
    let same : c.count.result ≡ c.match-next.columns = omega (arith, c.if-count-columns.false) in
    record {
      count = (let e = i.count in let more = length-append c.loop-row.yielded (c.in-Some-row.row ∷ []) in omega (arith, e, more));
      equal = all-more (λ row. columns_of c.args.column row ≡ c.match-next.columns) (λ x. x.now) c.loop-row.yielded c.in-Some-row.row i.equal (sym c.count.ensures ∙ same);
    }

pub returns-then-count-columns-clause-err : goal.returns-then-count-columns-clause-err
returns-then-count-columns-clause-err c =
    let text = c.trim_ascii_end-text.result.now in
    let trimmed : lines text ≡ rows_of c.args.text.now = ap lines (trim_ascii_end_is c.args.text.now text c.trim_ascii_end-text.ensures.value) in
    let first : first_columns c.args.column (lines text) ≡ c.match-next.columns = elim c.match-next.branch as (λ _. first_columns c.args.column (lines text) ≡ c.match-next.columns) [
      | in-Some w ↦ let (rest, all) = taken-next lines_steps (λ x. x.now) [] (lines text) _ _ c.next.new.self w.in-Some.row (YieldsList-from_lines {s = c.lines.result} text c.lines.ensures.rest) refl w.in-Some.ensures.steps in ap (first_columns c.args.column) all ∙ (sym w.count-columns.ensures ∙ sym w.columns-is)
      | in-None w ↦ ap (first_columns c.args.column) (taken-all lines_steps (λ x. x.now) [] (lines text) _ _ c.next.new.self (YieldsList-from_lines {s = c.lines.result} text c.lines.ensures.rest) refl w.in-None.ensures.steps) ∙ sym w.columns-is
    ] in
    let road = YieldsList-at c.into_iter-row-iterator.ensures.into_iter_gives (YieldsList-from_lines text c.lines-row-items.ensures.rest) in
    let (rest, all) = taken-next lines_steps (λ x. x.now) c.loop-row.yielded (lines text) _ _ c.next-in-loop-row.new.self c.in-Some-row.row road c.loop-row.yielded_by c.in-Some-row.ensures.steps in
    inr (λ ns r.
    let equal = subst (λ rows. All (λ row. columns_of c.args.column row ≡ first_columns c.args.column rows) rows) (sym trimmed) r.equal in
    let here = at-seam (λ row. columns_of c.args.column row ≡ first_columns c.args.column (lines text)) (map (λ x. x.now) c.loop-row.yielded) rest c.in-Some-row.row.now
    (subst (All (λ row. columns_of c.args.column row ≡ first_columns c.args.column (lines text))) all equal) in
    c.if-count-columns.true (c.count.ensures ∙ (here ∙ first)))

pub returns-clause-read : goal.returns-clause-read
returns-clause-read c =
    let text = c.trim_ascii_end-text.result.now in
    let trimmed : lines text ≡ rows_of c.args.text.now = ap lines (trim_ascii_end_is c.args.text.now text c.trim_ascii_end-text.ensures.value) in
    let first : first_columns c.args.column (lines text) ≡ c.match-next.columns = elim c.match-next.branch as (λ _. first_columns c.args.column (lines text) ≡ c.match-next.columns) [
      | in-Some w ↦ let (rest, all) = taken-next lines_steps (λ x. x.now) [] (lines text) _ _ c.next.new.self w.in-Some.row (YieldsList-from_lines {s = c.lines.result} text c.lines.ensures.rest) refl w.in-Some.ensures.steps in ap (first_columns c.args.column) all ∙ (sym w.count-columns.ensures ∙ sym w.columns-is)
      | in-None w ↦ ap (first_columns c.args.column) (taken-all lines_steps (λ x. x.now) [] (lines text) _ _ c.next.new.self (YieldsList-from_lines {s = c.lines.result} text c.lines.ensures.rest) refl w.in-None.ensures.steps) ∙ sym w.columns-is
    ] in
    let road = YieldsList-at c.into_iter-row-iterator.ensures.into_iter_gives (YieldsList-from_lines text c.lines-row-items.ensures.rest) in
    let all = taken-all lines_steps (λ x. x.now) c.loop-row.yielded (lines text) _ _ c.next-in-loop-row.new.self road c.loop-row.yielded_by c.in-None-row.ensures.steps in
    let long : length (lines text) ≡ c.loop-row.rows = ap length all ∙ (length-map c.loop-row.yielded (λ x. x.now) ∙ sym c.loop-row.invariant.count) in
    subst (λ rows. HasRows c.args.column rows (c.loop-row.rows ∷ c.match-next.columns ∷ [])) trimmed
    record {
      lengths = ap (λ n. n ∷ c.match-next.columns ∷ []) (sym long) ∙ ap (λ n. length (lines text) ∷ n ∷ []) (sym first);
      equal = subst (λ rows. All (λ row. columns_of c.args.column row ≡ first_columns c.args.column (lines text)) rows) (sym all) (subst (λ n. All (λ row. columns_of c.args.column row ≡ n) (map (λ x. x.now) c.loop-row.yielded)) (sym first) c.loop-row.invariant.equal);
    }
