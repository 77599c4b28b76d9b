use Rattle.uses.specs.Answering.{PrintsGeneration}
use Rattle.uses.specs.Inputs.{ReadsGrid}
use Rattle.uses.proofs.FaultsPassedOn.{passed-on}
use Rattle.uses.proofs.command.later.Goals as goal

pub returns-in_err-grid-clause-err : goal.returns-in_err-grid-clause-err
returns-in_err-grid-clause-err c =
    passed-on (ReadsGrid c.args.input.now) (PrintsGeneration c.args.steps c.args.input.now) c.from_residual.result c.in_err-grid.field-0.0 c.from_residual.ensures.1 c.in_err-grid.ensures.err (λ t r. (r.grid, r.read))
