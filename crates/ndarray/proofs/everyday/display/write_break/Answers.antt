use Rattle.std.proofs.Common.{◌≡◌, ◌∙◌, ◌%◌, ap, arith, refl, subst, sym, true}
use Rattle.std.specs.Fmt.{HasWritten, IsPlainFormatter}
use Rattle.std.proofs.Math.Nat.{mod-eq_of_lt}
use Rattle.std.proofs.lemmas.Grind.{put_three}
use Rattle.ndarray.specs.every_day.Breaks.{break_text}
use Rattle.ndarray.proofs.texts.Breaks.{IsAxisOfBlocks, axis-blocks, break-here, break-later}
use Rattle.ndarray.proofs.everyday.display.write_break.Goals as goal

pub loop-axis-init : goal.loop-axis-init
loop-axis-init g c =
    let own : c.args.j % c.args.cells ≡ c.args.j = mod-eq_of_lt c.requires.within in
    record {
      unwritten = refl;
      block = c.requires.many;
      some = omega (arith, c.requires.some, c.requires.within);
      inside = omega (arith, own, c.requires.some);
      same = ap (break_text 0 c.args.lengths.now) (sym own);
    }

pub returns-then-j-block-eq0 : goal.returns-then-j-block-eq0
returns-then-j-block-eq0 g c plain ok =
    let ns = c.args.lengths.now in
    let k = c.loop-axis.axis in
    let b = c.loop-axis.block in
    let took = g.W.Write.write_str_gives in
    let axis : IsAxisOfBlocks ns k b = axis-blocks ns k b (omega arith) c.loop-axis.invariant.block c.loop-axis.invariant.some in
    let closed = c.in_ok-write_many.ensures (subst IsPlainFormatter (sym c.loop-axis.invariant.unwritten) plain) (refl {a = true}) in
    let parted = c.in_ok-write_between.ensures closed.plain (refl {a = true}) in
    let opened = c.write_many-then-j-block-eq0.ensures parted.plain ok in
    subst (λ f. HasWritten took f (break_text 0 ns c.args.j) c.write_many-then-j-block-eq0.new.f) c.loop-axis.invariant.unwritten
    (put_three took _ _ _ _ _ _ _ _ closed parted opened (sym (c.loop-axis.invariant.same ∙ break-here ns k b c.args.j axis (omega (arith, c.if-j-block-eq0.true)) (omega arith))))

pub loop-axis-preserved : goal.loop-axis-preserved
loop-axis-preserved g c =
    let ns = c.args.lengths.now in
    let k = c.loop-axis.axis in
    let b = c.loop-axis.block in
    let axis : IsAxisOfBlocks ns k b = axis-blocks ns k b (omega arith) c.loop-axis.invariant.block c.loop-axis.invariant.some in
    record {
      unwritten = c.loop-axis.invariant.unwritten;
      block = axis.block;
      some = axis.some;
      inside = omega (arith, c.if-j-block-eq0.false);
      same = c.loop-axis.invariant.same ∙ break-later ns k b c.args.j axis c.if-j-block-eq0.false;
    }
