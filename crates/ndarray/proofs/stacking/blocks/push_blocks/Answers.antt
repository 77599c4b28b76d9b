use Rattle.std.proofs.Common.{◌≡◌, ◌∙◌, ◌+◌, ap, arith, length, drop, refl, subst, sym}
use Rattle.std.proofs.lemmas.Bool.{false≢true}
use Rattle.std.proofs.lemmas.List.{length-append}
use Rattle.std.proofs.lemmas.List.Elements.{All-get_or}
use Rattle.ndarray.specs.Index.{size}
use Rattle.ndarray.specs.base.Builder.{pushed_all}
use Rattle.ndarray.specs.stacking.Blocks.{HasBlockAt, block_at, blocks_at}
use Rattle.ndarray.proofs.joining.Blocks.{pushed-length, pushed-more, blocks-to_come}
use Rattle.ndarray.proofs.stacking.blocks.push_blocks.Goals as goal

pub push_block-requires-clause-block : goal.push_block-requires-clause-block
push_block-requires-clause-block g c =
    let P = HasBlockAt {A = g.row.A.Denot} c.args.axis (g.D.Lengths.numbers c.args.index.now) in
    subst P (sym c.array-item.is) (All-get_or P c.args.arrays.now c.loop-array.array-index c.array-item.result c.loop-array-test.true c.requires.blocks)

pub push_block-requires-clause-room : goal.push_block-requires-clause-room
push_block-requires-clause-room g c =
    let is = g.D.Lengths.numbers c.args.index.now in
    let block = block_at c.args.axis is c.array-item.result in
    let come = blocks-to_come c.args.axis is c.args.arrays.now c.loop-array.array-index c.array-item.result block c.loop-array-test.true c.array-item.is refl in
    let all : length c.loop-array.builder.cells + length (blocks_at c.args.axis is (drop c.loop-array.array-index c.args.arrays.now)) ≡ length c.args.builder.now.cells + length (blocks_at c.args.axis is c.args.arrays.now) = pushed-length _ _ _ _ c.loop-array.invariant.pushed in
    let one = ap length come ∙ length-append block _ in
    let same : size c.loop-array.builder.lengths ≡ size c.args.builder.now.lengths = ap (λ p. size p.lengths) c.loop-array.invariant.pushed in
    let room = c.requires.room in
    omega arith

pub returns-in_err-push_block-clause-none : goal.returns-in_err-push_block-clause-none
returns-in_err-push_block-clause-none g c = λ none.
    let is = g.D.Lengths.numbers c.args.index.now in
    let block = block_at c.args.axis is c.array-item.result in
    let come = blocks-to_come c.args.axis is c.args.arrays.now c.loop-array.array-index c.array-item.result block c.loop-array-test.true c.array-item.is refl in
    let all : length c.loop-array.builder.cells + length (blocks_at c.args.axis is (drop c.loop-array.array-index c.args.arrays.now)) ≡ length c.args.builder.now.cells + length (blocks_at c.args.axis is c.args.arrays.now) = pushed-length _ _ _ _ c.loop-array.invariant.pushed in
    let one = ap length come ∙ length-append block _ in
    let grown = c.loop-array.invariant.grown in
    absurd (false≢true (c.in_err-push_block.ensures.none (omega arith)))

pub loop-array-preserved : goal.loop-array-preserved
loop-array-preserved g c =
    let is = g.D.Lengths.numbers c.args.index.now in
    let block = block_at c.args.axis is c.array-item.result in
    let come = blocks-to_come c.args.axis is c.args.arrays.now c.loop-array.array-index c.array-item.result block c.loop-array-test.true c.array-item.is refl in
    let i = c.loop-array.invariant in
    let p = c.loop-array.builder in
    let pushed = c.in_ok-push_block.ensures.pushed in
    let more = ap (λ q. length q.cells) pushed in
    let one = length-append p.cells block in
    let grown = i.grown in
    record {
      pushed = ap (λ q. pushed_all q (blocks_at c.args.axis is (drop (c.loop-array.array-index + 1) c.args.arrays.now))) pushed
          ∙ (pushed-more p block _ ∙ (ap (pushed_all p) (sym come) ∙ i.pushed));
      grown = omega arith;
    }
