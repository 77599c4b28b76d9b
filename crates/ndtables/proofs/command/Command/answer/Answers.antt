use Rattle.std.proofs.Common.{IfOk, subst, sym}
use Rattle.std.specs.Prelude.{IfErr}
use Rattle.ndtables.specs.Answering.{Computes, Forbids}
use Rattle.ndtables.proofs.command.Command.answer.Goals as goal

pub returns-in-Add-clause-computed : goal.returns-in-Add-clause-computed
returns-in-Add-clause-computed c = subst (λ command. IfOk c.add.result (Computes command c.args.words.now)) (sym c.in-Add.is) c.add.ensures.computed

pub returns-in-Add-clause-err : goal.returns-in-Add-clause-err
returns-in-Add-clause-err c = subst (λ command. IfErr c.add.result (Forbids command c.args.words.now)) (sym c.in-Add.is) c.add.ensures.err

pub returns-in-Conv-clause-computed : goal.returns-in-Conv-clause-computed
returns-in-Conv-clause-computed c = subst (λ command. IfOk c.conv.result (Computes command c.args.words.now)) (sym c.in-Conv.is) c.conv.ensures.computed

pub returns-in-Conv-clause-err : goal.returns-in-Conv-clause-err
returns-in-Conv-clause-err c = subst (λ command. IfErr c.conv.result (Forbids command c.args.words.now)) (sym c.in-Conv.is) c.conv.ensures.err

pub returns-in-ConvFull-clause-computed : goal.returns-in-ConvFull-clause-computed
returns-in-ConvFull-clause-computed c = subst (λ command. IfOk c.conv_full.result (Computes command c.args.words.now)) (sym c.in-ConvFull.is) c.conv_full.ensures.computed

pub returns-in-ConvFull-clause-err : goal.returns-in-ConvFull-clause-err
returns-in-ConvFull-clause-err c = subst (λ command. IfErr c.conv_full.result (Forbids command c.args.words.now)) (sym c.in-ConvFull.is) c.conv_full.ensures.err

pub returns-in-Cumprod-clause-computed : goal.returns-in-Cumprod-clause-computed
returns-in-Cumprod-clause-computed c = subst (λ command. IfOk c.cumprod.result (Computes command c.args.words.now)) (sym c.in-Cumprod.is) c.cumprod.ensures.computed

pub returns-in-Cumprod-clause-err : goal.returns-in-Cumprod-clause-err
returns-in-Cumprod-clause-err c = subst (λ command. IfErr c.cumprod.result (Forbids command c.args.words.now)) (sym c.in-Cumprod.is) c.cumprod.ensures.err

pub returns-in-Diff-clause-computed : goal.returns-in-Diff-clause-computed
returns-in-Diff-clause-computed c = subst (λ command. IfOk c.diff.result (Computes command c.args.words.now)) (sym c.in-Diff.is) c.diff.ensures.computed

pub returns-in-Diff-clause-err : goal.returns-in-Diff-clause-err
returns-in-Diff-clause-err c = subst (λ command. IfErr c.diff.result (Forbids command c.args.words.now)) (sym c.in-Diff.is) c.diff.ensures.err

pub returns-in-Dot-clause-computed : goal.returns-in-Dot-clause-computed
returns-in-Dot-clause-computed c = subst (λ command. IfOk c.dot.result (Computes command c.args.words.now)) (sym c.in-Dot.is) c.dot.ensures.computed

pub returns-in-Dot-clause-err : goal.returns-in-Dot-clause-err
returns-in-Dot-clause-err c = subst (λ command. IfErr c.dot.result (Forbids command c.args.words.now)) (sym c.in-Dot.is) c.dot.ensures.err

pub returns-in-Product-clause-computed : goal.returns-in-Product-clause-computed
returns-in-Product-clause-computed c = subst (λ command. IfOk c.product.result (Computes command c.args.words.now)) (sym c.in-Product.is) c.product.ensures.computed

pub returns-in-Product-clause-err : goal.returns-in-Product-clause-err
returns-in-Product-clause-err c = subst (λ command. IfErr c.product.result (Forbids command c.args.words.now)) (sym c.in-Product.is) c.product.ensures.err

pub returns-in-ProductAxis-clause-computed : goal.returns-in-ProductAxis-clause-computed
returns-in-ProductAxis-clause-computed c = subst (λ command. IfOk c.product_axis.result (Computes command c.args.words.now)) (sym c.in-ProductAxis.is) c.product_axis.ensures.computed

pub returns-in-ProductAxis-clause-err : goal.returns-in-ProductAxis-clause-err
returns-in-ProductAxis-clause-err c = subst (λ command. IfErr c.product_axis.result (Forbids command c.args.words.now)) (sym c.in-ProductAxis.is) c.product_axis.ensures.err

pub returns-in-Sum-clause-computed : goal.returns-in-Sum-clause-computed
returns-in-Sum-clause-computed c = subst (λ command. IfOk c.sum.result (Computes command c.args.words.now)) (sym c.in-Sum.is) c.sum.ensures.computed

pub returns-in-Sum-clause-err : goal.returns-in-Sum-clause-err
returns-in-Sum-clause-err c = subst (λ command. IfErr c.sum.result (Forbids command c.args.words.now)) (sym c.in-Sum.is) c.sum.ensures.err

pub returns-in-SumAxis-clause-computed : goal.returns-in-SumAxis-clause-computed
returns-in-SumAxis-clause-computed c = subst (λ command. IfOk c.sum_axis.result (Computes command c.args.words.now)) (sym c.in-SumAxis.is) c.sum_axis.ensures.computed

pub returns-in-SumAxis-clause-err : goal.returns-in-SumAxis-clause-err
returns-in-SumAxis-clause-err c = subst (λ command. IfErr c.sum_axis.result (Forbids command c.args.words.now)) (sym c.in-SumAxis.is) c.sum_axis.ensures.err
