use Rattle.ndarray.proofs.Common.{rules, refl, max, scan-folds}
use Rattle.ndarray_examples.proofs.updating.running_maxima.Goals as goal

pub returns-clause-maxima : goal.returns-clause-maxima
returns-clause-maxima g c = λ t.
    scan-folds _ max 0 c.args.array.now c.args.axis.0 (λ b x r call. search (rules, call))
    c.raw_dim-whole.ensures.whole (c.if-not-axis_ok.ensures.0 refl) c.scan_lanes.new.self c.scan_lanes.ensures
