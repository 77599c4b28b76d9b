use Rattle.std.proofs.Common.{◌≡◌, ◌+◌, ◌∙◌, ap, arith, length}
use Rattle.std.proofs.lemmas.List.{length-append}
use Rattle.ndarray.specs.Index.{size}
use Rattle.ndarray.proofs.joining.Blocks.{front-stays, pushed-front, pushed-length}
use Rattle.ndarray.proofs.stacking.blocks.push_clones.Goals as goal

pub push_clones-requires-clause-room : goal.push_clones-requires-clause-room
push_clones-requires-clause-room g c =
    let all : length c.loop-row.builder.cells + length c.loop-row.cells ≡ length c.args.builder.now.cells + length c.args.cells = pushed-length _ _ _ _ c.loop-row.invariant.pushed in
    let split = ap length c.in-Some.ensures.1 ∙ length-append c.in-Some.row c.take_row.new.self in
    let same : size c.loop-row.builder.lengths ≡ size c.args.builder.now.lengths = ap (λ p. size p.lengths) c.loop-row.invariant.pushed in
    let room = c.requires.room in
    omega (arith, all, split, same, room)

pub returns-in_err-push_clones-clause-front : goal.returns-in_err-push_clones-clause-front
returns-in_err-push_clones-clause-front g c =
    front-stays c.args.builder.now.cells c.loop-row.builder.cells c.push_clones.new.self.cells c.push_clones.ensures.front
    (pushed-front _ _ _ _ c.loop-row.invariant.pushed c.loop-row.invariant.grown) c.loop-row.invariant.grown
