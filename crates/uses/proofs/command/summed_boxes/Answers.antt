use Rattle.uses.specs.Answering.{PrintsBoxSums}
use Rattle.uses.specs.Inputs.{ReadsTable}
use Rattle.uses.proofs.FaultsPassedOn.{passed-on}
use Rattle.uses.proofs.command.summed_boxes.Goals as goal

pub returns-in_err-table-clause-err : goal.returns-in_err-table-clause-err
returns-in_err-table-clause-err c =
    passed-on (ReadsTable c.args.input.now) (PrintsBoxSums c.args.rows c.args.columns c.args.input.now) c.from_residual.result c.in_err-table.field-0.0 c.from_residual.ensures.1 c.in_err-table.ensures.err (λ t r. (r.table, r.read))
