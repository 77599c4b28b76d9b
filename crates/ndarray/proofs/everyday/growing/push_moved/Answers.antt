use Rattle.std.proofs.Common.{◌≡◌, ◌∙◌, ◌+◌, ◌∷◌, [], ap, arith, length, suc, sym}
use Rattle.std.proofs.lemmas.List.{length-append}
use Rattle.ndarray.specs.Index.{size}
use Rattle.ndarray.specs.base.Builder.{pushed_all}
use Rattle.ndarray.proofs.joining.Blocks.{pushed-length, pushed-one}
use Rattle.ndarray.proofs.everyday.growing.push_moved.Goals as goal

pub push-requires : goal.push-requires
push-requires g c =
    let i = c.loop-cell.invariant in
    let all : length c.loop-cell.builder.cells + length c.loop-cell.cell-iterator ≡ length c.args.builder.now.cells + length c.into_iter-cell-iterator.result = pushed-length _ _ _ _ i.pushed in
    let start : length c.into_iter-cell-iterator.result ≡ length c.args.array.cells = ap length c.into_iter-cell-iterator.ensures.into_iter_gives.0 in
    let one : length c.loop-cell.cell-iterator ≡ suc (length c.next.new.self) = ap length c.in-Some.ensures.steps in
    let same : size c.loop-cell.builder.lengths ≡ size c.args.builder.now.lengths = ap (λ p. size p.lengths) i.pushed in
    let room = c.requires.room in
    omega (arith, all, start, one, same, room)

pub loop-cell-preserved : goal.loop-cell-preserved
loop-cell-preserved g c =
    let i = c.loop-cell.invariant in
    let p = c.loop-cell.builder in
    let more = ap (λ q. length q.cells) c.push.ensures in
    let one = length-append p.cells (c.in-Some.cell ∷ []) in
    record {
      pushed =
          ap (λ q. pushed_all q c.next.new.self) c.push.ensures
          ∙ (pushed-one p c.in-Some.cell c.next.new.self
          ∙ (ap (pushed_all p) (sym c.in-Some.ensures.steps) ∙ i.pushed));
      grown = let before = i.grown in omega (arith, more, one, before);
    }
