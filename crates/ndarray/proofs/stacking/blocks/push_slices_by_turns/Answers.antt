use Rattle.std.proofs.Common.{[], ◌∷◌, ◌∙◌, ap, arith, drop, get_or, inr, length}
use Rattle.std.proofs.lemmas.List.{drop_all, get_or_default, length-append}
use Rattle.ndarray.specs.Index.{size}
use Rattle.ndarray.specs.stacking.Blocks.{by_turns}
use Rattle.ndarray.proofs.joining.Pairs.{pushed-none, pushed-pair, turns-ended, turns-from, turns-room}
use Rattle.ndarray.proofs.stacking.blocks.push_slices_by_turns.Goals as goal

pub push-requires : goal.push-requires
push-requires g c =
    let x = c.index-xs-i.result in
    let y = get_or c.args.ys.now c.cells.i x in
    let next = turns-from c.args.xs.now c.args.ys.now c.cells.i x y c.cells-test.true c.if-i-ys.true c.index-xs-i.is (get_or_default c.args.ys.now c.cells.i x y c.if-i-ys.true) in
    let room = turns-room _ _ _ _ _ _ _ x y next c.cells.invariant c.requires.room in
    omega (arith, room)

pub push-requires-in-cells : goal.push-requires-in-cells
push-requires-in-cells g c =
    let next = turns-from c.args.xs.now c.args.ys.now c.cells.i c.index-xs-i.result c.index-ys-i.result c.cells-test.true c.if-i-ys.true c.index-xs-i.is c.index-ys-i.is in
    let room = turns-room _ _ _ _ _ _ _ _ _ next c.cells.invariant c.requires.room in
    let more = ap (λ p. length p.cells) c.push.ensures ∙ length-append c.cells.builder.cells (c.in_ok-clone.field-0 ∷ []) in
    let same = ap (λ p. size p.lengths) c.push.ensures in
    omega (arith, room, more, same)

pub cells-preserved : goal.cells-preserved
cells-preserved g c =
    let next = turns-from c.args.xs.now c.args.ys.now c.cells.i c.index-xs-i.result c.index-ys-i.result c.cells-test.true c.if-i-ys.true c.index-xs-i.is c.index-ys-i.is in
    pushed-pair c.cells.builder c.push.new.self c.push-in-cells.new.self c.index-xs-i.result c.index-ys-i.result c.in_ok-clone.field-0 c.in_ok-clone-2.field-0 _ _ c.push.ensures c.push-in-cells.ensures
    (c.requires.clones _ _ c.in_ok-clone.ensures.cases) (c.requires.clones _ _ c.in_ok-clone-2.ensures.cases) next
    ∙ c.cells.invariant

pub returns-else-i-ys : goal.returns-else-i-ys
returns-else-i-ys g c =
    pushed-none c.cells.builder (by_turns (drop c.cells.i c.args.xs.now) (drop c.cells.i c.args.ys.now)) (turns-ended _ _ (inr (drop_all c.cells.i c.args.ys.now (omega (arith, c.if-i-ys.false)))))
    ∙ c.cells.invariant
