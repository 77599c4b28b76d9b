use Rattle.ndarray.proofs.Common.{rules, refl, FitsSigned, w64, int_sums, may-scan-sums, scan-sums}
use Rattle.ndarray_examples.proofs.updating.running_sums.Goals as goal

pub scan_lanes-requires-clause-callable : goal.scan_lanes-requires-clause-callable
scan_lanes-requires-clause-callable g c =
    let sums = c.if-not-sums_fit.ensures.lanes refl c.args.axis.0 (c.if-not-axis_ok.ensures.0 refl) in
    may-scan-sums int_sums (FitsSigned w64) _ (λ b x r s call. let value = s.0 in let own = s.1.0 in let sum = s.1.1 in search (rules, call, value, own, sum)) c.args.array.now c.args.axis.0 sums
    _ (λ b x s. let value = s.0 in let own = s.1.0 in let sum = s.1.1 in search (rules, value, own, sum))

pub returns-clause-sums : goal.returns-clause-sums
returns-clause-sums g c = λ t.
    let whole = c.raw_dim-whole.ensures.whole in
    let axis = c.if-not-axis_ok.ensures.0 refl in
    let sums = c.if-not-sums_fit.ensures.lanes refl c.args.axis.0 axis in
    scan-sums int_sums (FitsSigned w64) _ (λ b x r s call. let value = s.0 in let own = s.1.0 in let sum = s.1.1 in search (rules, call, value, own, sum)) c.args.array.now c.args.axis.0 sums
    whole axis c.scan_lanes.new.self c.scan_lanes.ensures
