use Rattle.ndarray.proofs.Common.{IfOk, subst, sym, IfErr, string_bytes}
use Rattle.uses.specs.Answering.{Prints}
use Rattle.uses.specs.Faults.{IsFaultOf}
use Rattle.uses.proofs.command.Command.answer.Goals as goal

pub returns-in-Blur-clause-text : goal.returns-in-Blur-clause-text
returns-in-Blur-clause-text c = subst (λ command. IfOk c.blur.result (λ text. Prints command c.args.input.now (string_bytes text))) (sym c.in-Blur.is) c.blur.ensures.text

pub returns-in-Blur-clause-err : goal.returns-in-Blur-clause-err
returns-in-Blur-clause-err c = subst (λ command. IfErr c.blur.result (IsFaultOf (Prints command c.args.input.now))) (sym c.in-Blur.is) c.blur.ensures.err

pub returns-in-BoxSums-clause-text : goal.returns-in-BoxSums-clause-text
returns-in-BoxSums-clause-text c = subst (λ command. IfOk c.summed_boxes.result (λ text. Prints command c.args.input.now (string_bytes text))) (sym c.in-BoxSums.is) c.summed_boxes.ensures.text

pub returns-in-BoxSums-clause-err : goal.returns-in-BoxSums-clause-err
returns-in-BoxSums-clause-err c = subst (λ command. IfErr c.summed_boxes.result (IsFaultOf (Prints command c.args.input.now))) (sym c.in-BoxSums.is) c.summed_boxes.ensures.err

pub returns-in-Edges-clause-text : goal.returns-in-Edges-clause-text
returns-in-Edges-clause-text c = subst (λ command. IfOk c.edges.result (λ text. Prints command c.args.input.now (string_bytes text))) (sym c.in-Edges.is) c.edges.ensures.text

pub returns-in-Edges-clause-err : goal.returns-in-Edges-clause-err
returns-in-Edges-clause-err c = subst (λ command. IfErr c.edges.result (IsFaultOf (Prints command c.args.input.now))) (sym c.in-Edges.is) c.edges.ensures.err

pub returns-in-Fir-clause-text : goal.returns-in-Fir-clause-text
returns-in-Fir-clause-text c = subst (λ command. IfOk c.filtered.result (λ text. Prints command c.args.input.now (string_bytes text))) (sym c.in-Fir.is) c.filtered.ensures.text

pub returns-in-Fir-clause-err : goal.returns-in-Fir-clause-err
returns-in-Fir-clause-err c = subst (λ command. IfErr c.filtered.result (IsFaultOf (Prints command c.args.input.now))) (sym c.in-Fir.is) c.filtered.ensures.err

pub returns-in-Life-clause-text : goal.returns-in-Life-clause-text
returns-in-Life-clause-text c = subst (λ command. IfOk c.later.result (λ text. Prints command c.args.input.now (string_bytes text))) (sym c.in-Life.is) c.later.ensures.text

pub returns-in-Life-clause-err : goal.returns-in-Life-clause-err
returns-in-Life-clause-err c = subst (λ command. IfErr c.later.result (IsFaultOf (Prints command c.args.input.now))) (sym c.in-Life.is) c.later.ensures.err

pub returns-in-Recurrence-clause-text : goal.returns-in-Recurrence-clause-text
returns-in-Recurrence-clause-text c = subst (λ command. IfOk c.nth_term.result (λ text. Prints command c.args.input.now (string_bytes text))) (sym c.in-Recurrence.is) c.nth_term.ensures.text

pub returns-in-Recurrence-clause-err : goal.returns-in-Recurrence-clause-err
returns-in-Recurrence-clause-err c = subst (λ command. IfErr c.nth_term.result (IsFaultOf (Prints command c.args.input.now))) (sym c.in-Recurrence.is) c.nth_term.ensures.err

pub returns-in-Report-clause-text : goal.returns-in-Report-clause-text
returns-in-Report-clause-text c = subst (λ command. IfOk c.reported.result (λ text. Prints command c.args.input.now (string_bytes text))) (sym c.in-Report.is) c.reported.ensures.text

pub returns-in-Report-clause-err : goal.returns-in-Report-clause-err
returns-in-Report-clause-err c = subst (λ command. IfErr c.reported.result (IsFaultOf (Prints command c.args.input.now))) (sym c.in-Report.is) c.reported.ensures.err

pub returns-in-Smooth-clause-text : goal.returns-in-Smooth-clause-text
returns-in-Smooth-clause-text c = subst (λ command. IfOk c.smoothed.result (λ text. Prints command c.args.input.now (string_bytes text))) (sym c.in-Smooth.is) c.smoothed.ensures.text

pub returns-in-Smooth-clause-err : goal.returns-in-Smooth-clause-err
returns-in-Smooth-clause-err c = subst (λ command. IfErr c.smoothed.result (IsFaultOf (Prints command c.args.input.now))) (sym c.in-Smooth.is) c.smoothed.ensures.err
