use Rattle.ndarray.specs.DotRanges.{HasInnerMagnitudeInRange, HasInnerSumInRange}
use Rattle.ndarray.proofs.lists.TestedElements.{one-failed, one-held, one-held_from}
use Rattle.ndarray.proofs.lists.Decisions.{says_no}
use Rattle.ndarray.proofs.linalg.dynamic_range_tests.row_fits.Goals as goal

pub returns-then-not-dot_fits-clause-magnitudes : goal.returns-then-not-dot_fits-clause-magnitudes
returns-then-not-dot_fits-clause-magnitudes g c =
    let P = HasInnerMagnitudeInRange g.A.Number.value g.A.Number.fits c.args.row.now in
    let off = c.if-not-dot_fits.true in
    says_no _ (one-failed P c.args.columns.cells c.loop-column.column-iterator c.next.new.self c.in-Some.column c.in-Some.ensures.steps (λ p. let on = c.dot_fits.ensures.magnitudes.1 p in absurd (cc)) c.loop-column.invariant.magnitudes)

pub loop-column-preserved : goal.loop-column-preserved
loop-column-preserved g c =
    let value = g.A.Number.value in
    let fits = g.A.Number.fits in
    let on = c.if-not-dot_fits.false in
    record {
      magnitudes = one-held (HasInnerMagnitudeInRange value fits c.args.row.now) c.args.columns.cells c.loop-column.column-iterator c.next.new.self c.in-Some.column c.in-Some.ensures.steps (c.dot_fits.ensures.magnitudes.0 on) c.loop-column.invariant.magnitudes;
      sums = one-held_from (HasInnerSumInRange value fits c.args.row.now) c.args.columns.cells c.loop-column.column-iterator c.next.new.self c.in-Some.column c.in-Some.ensures.steps (c.dot_fits.ensures.selections on).1 c.loop-column.invariant.sums;
    }
