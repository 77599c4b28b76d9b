use Rattle.ndarray.proofs.Common.{rules, FitsSigned, w64, int_sums, may-scan-sums, scan-sums, totals-made}
use Rattle.uses.proofs.box_sums.add_up.Goals as goal

pub scan_lanes-requires-clause-callable : goal.scan_lanes-requires-clause-callable
scan_lanes-requires-clause-callable c =
    may-scan-sums int_sums (FitsSigned w64) _ (λ b x r s call. let value = s.0 in let own = s.1.0 in let sum = s.1.1 in search (rules, call, value, own, sum)) c.args.table.now c.args.axis.0 c.requires.fits
    _ (λ b x s. let value = s.0 in let own = s.1.0 in let sum = s.1.1 in search (rules, value, own, sum))

pub returns : goal.returns
returns c =
    totals-made int_sums c.args.axis.0 c.args.table.now c.scan_lanes.new.self
    (scan-sums int_sums (FitsSigned w64) _ (λ b x r s call. let value = s.0 in let own = s.1.0 in let sum = s.1.1 in search (rules, call, value, own, sum)) c.args.table.now c.args.axis.0 c.requires.fits
    c.raw_dim-whole.ensures.whole c.requires.axis c.scan_lanes.new.self c.scan_lanes.ensures)
