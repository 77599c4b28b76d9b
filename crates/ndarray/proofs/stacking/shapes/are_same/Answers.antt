use Rattle.std.proofs.Common.{◌∙◌, ap, sym}
use Rattle.ndarray.specs.Grid.{same_index}
use Rattle.ndarray.proofs.joining.Errors.{shapes-all, shapes-more, shapes-stop, whole-all, whole-more}
use Rattle.ndarray.proofs.stacking.shapes.are_same.Goals as goal

pub returns-then-not-is_same-clause-value : goal.returns-then-not-is_same-clause-value
returns-then-not-is_same-clause-value g c =
    let p = same_index (g.D.Lengths.numbers c.args.first.now) in
    shapes-stop p c.args.others.now c.loop-other.other-index c.other-item.result c.loop-other-test.true c.other-item.is c.loop-other.invariant.same
    (ap p (sym c.raw_dim.ensures.lengths) ∙ (sym c.is_same.ensures ∙ c.if-not-is_same.true))

pub loop-other-preserved : goal.loop-other-preserved
loop-other-preserved g c =
    let p = same_index (g.D.Lengths.numbers c.args.first.now) in
    record {
      same = shapes-more p c.args.others.now c.loop-other.other-index c.other-item.result c.loop-other-test.true c.other-item.is c.loop-other.invariant.same (ap p (sym c.raw_dim.ensures.lengths) ∙ (sym c.is_same.ensures ∙ c.if-not-is_same.false));
      whole = whole-more c.args.others.now c.loop-other.other-index c.other-item.result c.loop-other-test.true c.other-item.is c.raw_dim.ensures.whole c.loop-other.invariant.whole;
    }

pub returns-clause-value : goal.returns-clause-value
returns-clause-value g c = shapes-all (same_index (g.D.Lengths.numbers c.args.first.now)) c.args.others.now c.loop-other.other-index c.loop-other-test.false c.loop-other.invariant.same

pub returns-clause-whole : goal.returns-clause-whole
returns-clause-whole g c = λ _. whole-all c.args.others.now c.loop-other.other-index c.loop-other-test.false c.loop-other.invariant.whole
