use Rattle.std.proofs.Common.{◌∙◌, ap, sym}
use Rattle.ndarray.specs.Joining.{is_same_but_along}
use Rattle.ndarray.proofs.joining.Errors.{shapes-all, shapes-more, shapes-stop, whole-all, whole-more}
use Rattle.ndarray.proofs.stacking.shapes.are_same_but_along.Goals as goal

pub returns-then-not-is_same_but_along-clause-value : goal.returns-then-not-is_same_but_along-clause-value
returns-then-not-is_same_but_along-clause-value g c =
    let p = is_same_but_along c.args.axis (g.D.Lengths.numbers c.args.first.now) in
    shapes-stop p c.args.others.now c.loop-other.other-index c.other-item.result c.loop-other-test.true c.other-item.is c.loop-other.invariant.same
    (ap p (sym c.raw_dim.ensures.lengths) ∙ (sym c.is_same_but_along.ensures ∙ c.if-not-is_same_but_along.true))

pub loop-other-preserved : goal.loop-other-preserved
loop-other-preserved g c =
    let p = is_same_but_along c.args.axis (g.D.Lengths.numbers c.args.first.now) in
    record {
      same = shapes-more p c.args.others.now c.loop-other.other-index c.other-item.result c.loop-other-test.true c.other-item.is c.loop-other.invariant.same (ap p (sym c.raw_dim.ensures.lengths) ∙ (sym c.is_same_but_along.ensures ∙ c.if-not-is_same_but_along.false));
      whole = whole-more c.args.others.now c.loop-other.other-index c.other-item.result c.loop-other-test.true c.other-item.is c.raw_dim.ensures.whole c.loop-other.invariant.whole;
    }

pub returns-clause-value : goal.returns-clause-value
returns-clause-value g c = shapes-all (is_same_but_along c.args.axis (g.D.Lengths.numbers c.args.first.now)) c.args.others.now c.loop-other.other-index c.loop-other-test.false c.loop-other.invariant.same

pub returns-clause-whole : goal.returns-clause-whole
returns-clause-whole g c = λ _. whole-all c.args.others.now c.loop-other.other-index c.loop-other-test.false c.loop-other.invariant.whole
