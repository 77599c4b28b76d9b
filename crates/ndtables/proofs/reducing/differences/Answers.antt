use Rattle.std.proofs.Common.{rules, ◌∙◌, ◌-ℤ◌, arith, inr, subst, sym}
use Rattle.std.specs.Prelude.{◌<◌, slice_index, FitsSigned}
use Rattle.std.specs.Int.{w64}
use Rattle.ndtables.specs.Reducing.{CanSubtractAlong, HasAxis, HasOrder, subtraction_gives}
use Rattle.ndarray.proofs.callers.Differences.{differ-without_cells}
use Rattle.ndtables.proofs.Neighbours.{differ-more, length-left, not-subtracted, one-more}
use Rattle.ndtables.proofs.reducing.differences.Goals as goal

pub neighbours_subtract-requires-clause-axis : goal.neighbours_subtract-requires-clause-axis
neighbours_subtract-requires-clause-axis c =
    let shape : HasOrder c.args.table.now c.args.n c.args.axis.0 = search rules in
    let left = length-left c.args.table.now c.loop.cells c.args.n c.args.axis.0 c.loop.counter shape c.loop-test.true c.loop.invariant.made in
    subst (λ v. HasAxis v c.args.axis.0) (sym c.view.ensures.same) left.0

pub neighbours_subtract-requires-clause-some : goal.neighbours_subtract-requires-clause-some
neighbours_subtract-requires-clause-some c =
    let shape : HasOrder c.args.table.now c.args.n c.args.axis.0 = search rules in
    let left = length-left c.args.table.now c.loop.cells c.args.n c.args.axis.0 c.loop.counter shape c.loop-test.true c.loop.invariant.made in
    subst (λ v. 0 < slice_index v.lengths c.args.axis.0) (sym c.view.ensures.same) (let long = left.1 in omega (arith, long))

pub returns-then-not-neighbours_subtract-clause-err : goal.returns-then-not-neighbours_subtract-clause-err
returns-then-not-neighbours_subtract-clause-err c =
    let shape : HasOrder c.args.table.now c.args.n c.args.axis.0 = search rules in
    let not : CanSubtractAlong c.view.result c.args.axis.0 → ⊥ = search rules in
    (shape, not-subtracted c.args.table.now c.loop.cells c.args.n c.args.axis.0 c.loop.counter c.loop-test.true c.loop.invariant.made (subst (λ v. CanSubtractAlong v c.args.axis.0 → ⊥) c.view.ensures.same not))

pub diff-requires-in-loop-clause-axis : goal.diff-requires-in-loop-clause-axis
diff-requires-in-loop-clause-axis c =
    let shape : HasOrder c.args.table.now c.args.n c.args.axis.0 = search rules in
    (length-left c.args.table.now c.loop.cells c.args.n c.args.axis.0 c.loop.counter shape c.loop-test.true c.loop.invariant.made).0

pub diff-requires-in-loop-clause-order : goal.diff-requires-in-loop-clause-order
diff-requires-in-loop-clause-order c =
    let shape : HasOrder c.args.table.now c.args.n c.args.axis.0 = search rules in
    inr (length-left c.args.table.now c.loop.cells c.args.n c.args.axis.0 c.loop.counter shape c.loop-test.true c.loop.invariant.made).1

pub diff-requires-clause-defined : goal.diff-requires-clause-defined
diff-requires-clause-defined c =
    let shape : HasOrder c.args.table.now c.args.n c.args.axis.0 = search rules in
    differ-without_cells (λ y x. FitsSigned w64 (y -ℤ x)) subtraction_gives c.args.axis.0 c.args.table.now c.args.n (sym c.len.ensures.size ∙ c.if-len-eq0.true) shape.0 shape.1

pub returns-then-len-eq0-clause-differences : goal.returns-then-len-eq0-clause-differences
returns-then-len-eq0-clause-differences c =
    let shape : HasOrder c.args.table.now c.args.n c.args.axis.0 = search rules in
    record {
      shape = shape;
      fits = differ-without_cells (λ y x. FitsSigned w64 (y -ℤ x)) subtraction_gives c.args.axis.0 c.args.table.now c.args.n (sym c.len.ensures.size ∙ c.if-len-eq0.true) shape.0 shape.1;
      cells = c.in_ok-diff.ensures.differences;
    }

pub loop-preserved : goal.loop-preserved
loop-preserved c =
    let told : CanSubtractAlong c.view.result c.args.axis.0 = search rules in
    record {
      made = one-more c.args.table.now c.loop.cells c.in_ok-cells-2.cells c.args.axis.0 c.loop.counter c.loop.invariant.made c.in_ok-cells-2.ensures.differences;
      fits = differ-more c.args.table.now c.loop.cells c.args.axis.0 c.loop.counter c.loop.invariant.fits c.loop.invariant.made (subst (λ v. CanSubtractAlong v c.args.axis.0) c.view.ensures.same told);
    }
