use Rattle.std.proofs.Common.{◌≡◌, ◌+◌, ◌<◌, ◌≤◌, ◌∙◌, ap, arith, drop, length, subst, sym}
use Rattle.std.specs.Prelude.{IfOk}
use Rattle.ndarray.specs.Index.{InBox, size}
use Rattle.ndarray.specs.base.Builder.{pushed_all, pushed_to}
use Rattle.ndarray.specs.base.Ranks.{rank}
use Rattle.ndarray.specs.stacking.Blocks.{HasBlockAt, block_at}
use Rattle.ndarray.proofs.joining.Blocks.{block-one, block-whole}
use Rattle.ndarray.proofs.stacking.blocks.push_block.Goals as goal

pub item-requires : goal.item-requires
item-requires g c =
    let counted = c.block_len-count.ensures ∙ ap (λ ns. size (drop c.args.axis ns)) c.raw_dim.ensures.lengths in
    c.requires.block.within (omega (arith, counted, c.if-count-eq1.true))

pub push-requires : goal.push-requires
push-requires g c =
    let counted = c.block_len-count.ensures ∙ ap (λ ns. size (drop c.args.axis ns)) c.raw_dim.ensures.lengths in
    let one : size (drop c.args.axis c.args.array.now.lengths) ≡ 1 = sym counted ∙ c.if-count-eq1.true in
    let inside = c.requires.block.within (omega (arith, one)) in
    let block = ap length (block-one c.args.axis _ c.args.array.now c.item.result.now c.raw_dim.ensures.whole one inside c.item.ensures) in
    omega (arith, block, c.requires.room)

pub returns-then-count-eq1-clause-pushed : goal.returns-then-count-eq1-clause-pushed
returns-then-count-eq1-clause-pushed g c =
    let counted = c.block_len-count.ensures ∙ ap (λ ns. size (drop c.args.axis ns)) c.raw_dim.ensures.lengths in
    let one : size (drop c.args.axis c.args.array.now.lengths) ≡ 1 = sym counted ∙ c.if-count-eq1.true in
    let inside = c.requires.block.within (omega (arith, one)) in
    let block = block-one c.args.axis _ c.args.array.now c.item.result.now c.raw_dim.ensures.whole one inside c.item.ensures in
    c.push.ensures ∙ (ap (pushed_to c.args.builder.now) (c.requires.clones c.item.result.now c.in_ok-clone.field-0 c.in_ok-clone.ensures.cases) ∙ ap (pushed_all c.args.builder.now) (sym block))

pub starting_at-requires-clause-within : goal.starting_at-requires-clause-within
starting_at-requires-clause-within g c = λ some.
    let counted = c.block_len-count.ensures ∙ ap (λ ns. size (drop c.args.axis ns)) c.raw_dim.ensures.lengths in
    subst (λ v. InBox v.lengths (g.D.Lengths.numbers c.copied.result)) (sym c.again.ensures.same)
    (subst (InBox c.args.array.now.lengths) (sym c.copied.ensures.value) (c.requires.block.within (subst (λ n. 0 < n) counted some)))

pub starting_at-requires-clause-fits : goal.starting_at-requires-clause-fits
starting_at-requires-clause-fits g c = λ some.
    let is = g.D.Lengths.numbers c.args.index.now in
    let ns = c.args.array.now.lengths in
    let counted = c.block_len-count.ensures ∙ ap (λ ms. size (drop c.args.axis ms)) c.raw_dim.ensures.lengths in
    subst (λ v. rank v.lengths (g.D.Lengths.numbers c.copied.result) + c.block_len-count.result ≤ size v.lengths) (sym c.again.ensures.same)
    (subst (λ js. rank ns js + c.block_len-count.result ≤ size ns) (sym c.copied.ensures.value)
    (subst (λ n. rank ns is + n ≤ size ns) (sym counted) (c.requires.block.fits (subst (λ n. 0 < n) counted some))))

pub push_clones-requires-clause-room : goal.push_clones-requires-clause-room
push_clones-requires-clause-room g c =
    let is = g.D.Lengths.numbers c.args.index.now in
    let array = c.args.array.now in
    let block = block-whole is array c.raw_dim.ensures.whole (subst (λ a. HasBlockAt a is array) c.if-axis-eq0.true c.requires.block) in
    let first = ap (λ a. block_at a is array) c.if-axis-eq0.true in
    let long = ap length (c.over.ensures ∙ (c.in-Some.ensures.cells ∙ (sym block ∙ sym first))) in
    omega (arith, long, c.requires.room)

pub returns-in-Some-clause-pushed : goal.returns-in-Some-clause-pushed
returns-in-Some-clause-pushed g c =
    let is = g.D.Lengths.numbers c.args.index.now in
    let array = c.args.array.now in
    let block = block-whole is array c.raw_dim.ensures.whole (subst (λ a. HasBlockAt a is array) c.if-axis-eq0.true c.requires.block) in
    let first = ap (λ a. block_at a is array) c.if-axis-eq0.true in
    subst (λ cells. IfOk c.push_clones.result (λ _. c.push_clones.new.self ≡ pushed_all c.args.builder.now cells)) (c.over.ensures ∙ (c.in-Some.ensures.cells ∙ (sym block ∙ sym first))) c.push_clones.ensures.pushed
