use Rattle.std.proofs.Common.{◌≡◌, ◌<◌, ◌≤◌, ◌+◌, ◌∙◌, [], List, ℕ, ap, arith, drop, get_or, length, subst, sym}
use Rattle.std.specs.Prelude.{IfOk}
use Rattle.std.proofs.lemmas.List.Elements.{All-get_or}
use Rattle.ndarray.specs.Index.{InBox, row_order, size}
use Rattle.ndarray.specs.base.Builder.{pushed_all}
use Rattle.ndarray.specs.stacking.Blocks.{HasBlockAt, all_blocks}
use Rattle.ndarray.proofs.boxes.Orders.{length-row_order, row_order-is}
use Rattle.ndarray.proofs.joining.Pairs.{two-of}
use Rattle.ndarray.proofs.stacking.blocks.push_all_blocks.Goals as goal

-- some index list is in a box that is not empty
first-in : (ns : List ℕ) → 0 < size ns → InBox ns (get_or (row_order ns) 0 [])
first-in ns some = let many = length-row_order ns in (row_order-is ns).within 0 [] (omega (arith, many, some))

pub block_len-requires-clause-below : goal.block_len-requires-clause-below
block_len-requires-clause-below g c =
    let os = g.D.Lengths.numbers c.args.outer in
    let is = get_or (row_order os) 0 [] in
    let P = HasBlockAt {A = g.row.A.Denot} c.args.axis is in
    let has = subst P (sym c.index-arrays-0.is) (All-get_or P c.args.arrays.now 0 c.index-arrays-0.result (omega (arith, c.if-arrays-eq2.true)) (c.requires.blocks is (first-in os c.requires.some))) in
    let axes = ap length c.raw_dim.ensures.lengths in
    omega (arith, has.below, axes)

pub block_len-requires-then-block_len-eq1-clause-below : goal.block_len-requires-then-block_len-eq1-clause-below
block_len-requires-then-block_len-eq1-clause-below g c =
    let os = g.D.Lengths.numbers c.args.outer in
    let is = get_or (row_order os) 0 [] in
    let P = HasBlockAt {A = g.row.A.Denot} c.args.axis is in
    let has = subst P (sym c.index-arrays-1.is) (All-get_or P c.args.arrays.now 1 c.index-arrays-1.result (omega (arith, c.if-arrays-eq2.true)) (c.requires.blocks is (first-in os c.requires.some))) in
    let axes = ap length c.raw_dim-then-block_len-eq1.ensures.lengths in
    omega (arith, has.below, axes)

pub push_pairs-requires-clause-first : goal.push_pairs-requires-clause-first
push_pairs-requires-clause-first g c = λ is b.
    let P = HasBlockAt {A = g.row.A.Denot} c.args.axis is in
    let has = subst P (sym c.index-arrays-0.is) (All-get_or P c.args.arrays.now 0 c.index-arrays-0.result (omega (arith, c.if-arrays-eq2.true)) (c.requires.blocks is b)) in
    let one : size (drop c.args.axis c.index-arrays-0.result.lengths) ≡ 1 = sym (c.block_len.ensures ∙ ap (λ ns. size (drop c.args.axis ns)) c.raw_dim.ensures.lengths) ∙ c.if-block_len-eq1.true in
    record { whole = c.raw_dim.ensures.whole; one = one; within = has.within (omega (arith, one)) }

pub push_pairs-requires-clause-second : goal.push_pairs-requires-clause-second
push_pairs-requires-clause-second g c = λ is b.
    let P = HasBlockAt {A = g.row.A.Denot} c.args.axis is in
    let has = subst P (sym c.index-arrays-1.is) (All-get_or P c.args.arrays.now 1 c.index-arrays-1.result (omega (arith, c.if-arrays-eq2.true)) (c.requires.blocks is b)) in
    let one : size (drop c.args.axis c.index-arrays-1.result.lengths) ≡ 1 = sym (c.block_len-then-block_len-eq1.ensures ∙ ap (λ ns. size (drop c.args.axis ns)) c.raw_dim-then-block_len-eq1.ensures.lengths) ∙ c.if-block_len-eq1-2.true in
    record { whole = c.raw_dim-then-block_len-eq1.ensures.whole; one = one; within = has.within (omega (arith, one)) }

pub push_pairs-requires-clause-room : goal.push_pairs-requires-clause-room
push_pairs-requires-clause-room g c =
    let pair = two-of c.args.arrays.now c.index-arrays-0.result c.index-arrays-1.result c.if-arrays-eq2.true c.index-arrays-0.is c.index-arrays-1.is in
    subst (λ gs. length c.args.builder.now.cells + length (all_blocks c.args.axis (g.D.Lengths.numbers c.args.outer) gs) ≤ size c.args.builder.now.lengths) pair c.requires.room

pub returns-then-block_len-eq1-2 : goal.returns-then-block_len-eq1-2
returns-then-block_len-eq1-2 g c =
    let pair = two-of c.args.arrays.now c.index-arrays-0.result c.index-arrays-1.result c.if-arrays-eq2.true c.index-arrays-0.is c.index-arrays-1.is in
    subst (λ gs. IfOk c.push_pairs.result (λ _. c.push_pairs.new.builder ≡ pushed_all c.args.builder.now (all_blocks c.args.axis (g.D.Lengths.numbers c.args.outer) gs))) (sym pair) c.push_pairs.ensures
