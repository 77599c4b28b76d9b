use Rattle.ndarray.proofs.Common.{rules, arith, ints, int_sums, refl, subst, FitsSigned, w64, differ-once, differed-once, totals-made}
use Rattle.ndarray.specs.ScanLaws.{HasRunningTotals}
use Rattle.ndarray_examples.proofs.DifferencesOfSums.{difference-fits}
use Rattle.ndarray_examples.proofs.SameValues.{rest-whole, same-arrays}
use Rattle.ndarray_examples.proofs.scan_laws.differences_of_sums.Goals as goal

pub diff-requires-clause-defined : goal.diff-requires-clause-defined
diff-requires-clause-defined g c =
    let running = subst (λ w. HasRunningTotals int_sums (λ x. x) c.args.axis.0 w c.running_sums.new.array) (c.in_ok-sums.ensures.same (λ x y e. e)) (totals-made int_sums c.args.axis.0 _ c.running_sums.new.array (c.running_sums.ensures.sums c.if-not-running_sums.false)) in
    differ-once _ _ _ _ (difference-fits (FitsSigned w64) c.args.a.now c.running_sums.new.array c.args.axis.0 c.raw_dim-whole.ensures.whole (c.if-not-diff_ok.ensures.0 refl).0 running c.diff_of_totals.ensures (search rules))

pub returns-clause-same : goal.returns-clause-same
returns-clause-same g c =
    let running = subst (λ w. HasRunningTotals int_sums (λ x. x) c.args.axis.0 w c.running_sums.new.array) (c.in_ok-sums.ensures.same (λ x y e. e)) (totals-made int_sums c.args.axis.0 _ c.running_sums.new.array (c.running_sums.ensures.sums c.if-not-running_sums.false)) in
    let differs = differed-once _ c.args.axis.0 c.running_sums.new.array c.in_ok-differences.differences c.in_ok-differences.ensures.differences in
    same-arrays int_sums c.in_ok-differences.differences _ _ refl differs.whole (rest-whole c.args.a.now c.args.axis.0 c.raw_dim-whole.ensures.whole (c.if-not-diff_ok.ensures.0 refl).0)
    (c.diff_of_totals.ensures (λ x y z e. omega (arith, ints, e)) (λ y x z e. omega (arith, ints, e)) c.args.axis.0 c.args.a.now c.running_sums.new.array c.in_ok-differences.differences c.raw_dim-whole.ensures.whole (c.if-not-diff_ok.ensures.0 refl).0 running differs)
