use Rattle.ndarray.proofs.Common.{◌≡◌, inr, subst}
use Rattle.uses.specs.Answering.{PrintsSmoothed}
use Rattle.uses.specs.Inputs.{ReadsPicture}
use Rattle.uses.specs.Smooth.{CanFilterByParts, weights}
use Rattle.uses.proofs.FaultsPassedOn.{passed-on}
use Rattle.uses.proofs.Filtered.{unfit-from_none}
use Rattle.uses.proofs.OneReading.{one-picture}
use Rattle.uses.proofs.command.smoothed.Goals as goal

pub returns-in_err-image-clause-err : goal.returns-in_err-image-clause-err
returns-in_err-image-clause-err c =
    passed-on (ReadsPicture c.args.input.now) (PrintsSmoothed c.args.input.now) c.from_residual.result c.in_err-image.field-0.0 c.from_residual.ensures.1 c.in_err-image.ensures.err (λ t r. (r.image, r.read))

pub returns-in_default-clause-err : goal.returns-in_default-clause-err
returns-in_default-clause-err c =
    inr (λ t q.
    let same : q.image ≡ c.in_ok-image.image = one-picture c.args.input.now q.image c.in_ok-image.image q.read c.in_ok-image.ensures.read in
    unfit-from_none c.in_ok-smoothed.field-0 c.in_default.is c.in_ok-smoothed.ensures.when (subst (λ g. CanFilterByParts g weights weights) same q.fits))
