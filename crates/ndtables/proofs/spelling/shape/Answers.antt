use Rattle.std.proofs.Common.{rules, Some, None, ap, refl, subst}
use Rattle.std.proofs.lemmas.Result.{err_from_is_err_and}
use Rattle.std.proofs.lemmas.Str.Pattern.{strip_suffix_char}
use Rattle.ndtables.specs.Spelling.{SpellsNoLengths, SpellsNoShape}
use Rattle.ndtables.proofs.ShapeWords.{beyond-limit, no-shape_column, no-shape_row}
use Rattle.ndtables.proofs.spelling.shape.Goals.{in-Some, in-None}
use Rattle.ndtables.proofs.spelling.shape.Goals as goal

pub returns-in_err-dim-clause-err : goal.returns-in_err-dim-clause-err
returns-in_err-dim-clause-err c =
    let word = c.args.word.now in
    let p = err_from_is_err_and c.from_residual.result c.from_residual.ensures.1 in
    let none : SpellsNoLengths c.match-strip_suffix.order.0.now = c.in_err-dim.ensures.err.0 in
    let refused : SpellsNoShape word = elim c.match-strip_suffix.branch as (λ _. SpellsNoShape word) [
      | in-Some w ↦ no-shape_column word w.in-Some.spelled.now (strip_suffix_char 102 word (Some w.in-Some.spelled) w.in-Some.ensures.cases (search rules)) (subst SpellsNoLengths (ap (λ z. z.0.now) w.order-is) none)
      | in-None w ↦ no-shape_row word (strip_suffix_char 102 word None w.in-None.ensures.cases (search rules)) (subst SpellsNoLengths (ap (λ z. z.0.now) w.order-is) none)
    ] in
    rw (p.1, p.2) (refused, c.in_err-dim.ensures.err.1)

pub returns-then-not-size_ok-clause-err : goal.returns-then-not-size_ok-clause-err
returns-then-not-size_ok-clause-err c =
    let word = c.args.word.now in
    let none : SpellsNoLengths c.match-strip_suffix.order.0.now = beyond-limit c.match-strip_suffix.order.0.now _ c.in_ok-dim.ensures.spelled (search rules) in
    let refused : SpellsNoShape word = elim c.match-strip_suffix.branch as (λ _. SpellsNoShape word) [
      | in-Some w ↦ no-shape_column word w.in-Some.spelled.now (strip_suffix_char 102 word (Some w.in-Some.spelled) w.in-Some.ensures.cases (search rules)) (subst SpellsNoLengths (ap (λ z. z.0.now) w.order-is) none)
      | in-None w ↦ no-shape_row word (strip_suffix_char 102 word None w.in-None.ensures.cases (search rules)) (subst SpellsNoLengths (ap (λ z. z.0.now) w.order-is) none)
    ] in
    (refused, refl)
