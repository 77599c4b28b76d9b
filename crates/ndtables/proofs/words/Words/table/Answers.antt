use Rattle.std.proofs.Common.{subst}
use Rattle.std.proofs.lemmas.Result.{err_from_is_err_and}
use Rattle.ndtables.specs.Faults.{ForbidsCells}
use Rattle.ndtables.proofs.FirstFaults.{wrong-cells}
use Rattle.ndtables.proofs.words.Words.table.Goals as goal

pub returns-in_err-cells-clause-err : goal.returns-in_err-cells-clause-err
returns-in_err-cells-clause-err c =
    let p = err_from_is_err_and c.from_residual-in_err-cells.result c.from_residual-in_err-cells.ensures.1 in
    let fault = c.in_err-cells.field-0.0 in
    rw (p.1, p.2) (wrong-cells c.args.self.now fault c.in_ok-word.field-0.now c.word.new.self _ c.in_ok-dim.order c.in_ok-word.ensures.cases c.in_ok-dim.ensures.spelled
    (subst (λ n. ForbidsCells n c.word.new.self fault) c.size-size.ensures c.in_err-cells.ensures.err))
