use Rattle.std.proofs.Common.{subst}
use Rattle.std.specs.Prelude.{IsPermutation}
use Rattle.ndarray.specs.order.Rows.{joined}
use Rattle.ndarray.proofs.sums.RunningRuns.{run-in_range, run-next, run-summable, runs-end, runs-start}
use Rattle.ndarray.proofs.reduce.totals.total.Goals as goal

pub loop-run-init : goal.loop-run-init
loop-run-init g c =
    let v = g.T.TotalOperation in
    runs-start v.operation v.InRange v.meaning c.args.array.now.cells c.of-runs.result (v.meaning c.of_none-total.result)
    (subst (λ a. IsPermutation a.cells (joined c.of-runs.result)) c.view.ensures.same c.of-runs.ensures) c.of_none-total.ensures c.requires

pub total_of_run-requires : goal.total_of_run-requires
total_of_run-requires g c =
    let v = g.T.TotalOperation in
    run-summable v.operation v.InRange v.meaning c.args.array.now.cells c.loop-run.runs c.next.new.self c.in-Some.run' (v.meaning c.loop-run.total) c.in-Some.ensures c.loop-run.invariant

pub of_two-total-requires : goal.of_two-total-requires
of_two-total-requires g c =
    let v = g.T.TotalOperation in
    run-in_range v.operation v.InRange v.meaning c.args.array.now.cells c.loop-run.runs c.next.new.self c.in-Some.run' (v.meaning c.loop-run.total) c.in-Some.ensures c.loop-run.invariant
    (v.meaning c.total_of_run.result) c.total_of_run.ensures

pub loop-run-preserved : goal.loop-run-preserved
loop-run-preserved g c =
    let v = g.T.TotalOperation in
    run-next v.operation v.InRange v.meaning c.args.array.now.cells c.loop-run.runs c.next.new.self c.in-Some.run' (v.meaning c.loop-run.total) c.in-Some.ensures c.loop-run.invariant
    (v.meaning c.total_of_run.result) c.total_of_run.ensures (v.meaning c.of_two-total.result) c.of_two-total.ensures

pub returns : goal.returns
returns g c =
    let v = g.T.TotalOperation in
    runs-end v.operation v.InRange v.meaning c.args.array.now.cells c.loop-run.runs (v.meaning c.loop-run.total) c.in_default.ensures.0 c.loop-run.invariant
