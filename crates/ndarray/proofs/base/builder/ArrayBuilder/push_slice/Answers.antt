use Rattle.std.proofs.Common.{◌≡◌, ◌+◌, ap, arith, drop, length}
use Rattle.std.proofs.lemmas.List.{length-drop}
use Rattle.ndarray.specs.Index.{size}
use Rattle.ndarray.proofs.joining.Blocks.{pushed-front, pushed-length}
use Rattle.ndarray.proofs.base.builder.ArrayBuilder.push_slice.Goals as goal

pub push-requires : goal.push-requires
push-requires g c =
    let i = c.loop-cell.invariant in
    let all : length c.loop-cell.self.cells + length (drop c.loop-cell.cell-index c.args.cells.now) ≡ length c.args.self.now.cells + length c.args.cells.now = pushed-length _ _ _ _ i.pushed in
    let left = length-drop c.loop-cell.cell-index c.args.cells.now in
    let same : size c.loop-cell.self.lengths ≡ size c.args.self.now.lengths = ap (λ p. size p.lengths) i.pushed in
    let room = c.requires.room in
    omega (arith, all, left, same, room, c.loop-cell-test.true)

pub returns-in_err-clone-clause-front : goal.returns-in_err-clone-clause-front
returns-in_err-clone-clause-front g c = pushed-front _ _ _ _ c.loop-cell.invariant.pushed c.loop-cell.invariant.grown
