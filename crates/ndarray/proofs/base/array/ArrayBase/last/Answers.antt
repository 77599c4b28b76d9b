use Rattle.std.proofs.Common.{◌≡◌, ◌∙◌, ◌+◌, ◌-◌, ◌<◌, suc, ap, arith, get_or, length, set}
use Rattle.ndarray.specs.Grid.{cell}
use Rattle.ndarray.proofs.boxes.LastIndices.{lowered, lowered-length, lowered-more, lowered-next}
use Rattle.ndarray.proofs.cells.LastCells.{last-cell}
use Rattle.ndarray.proofs.base.array.ArrayBase.last.Goals as goal

pub axis-requires : goal.axis-requires
axis-requires g c =
    let many = lowered-length c.loop-axis.axis c.args.self.now.lengths in
    let same = ap length c.loop-axis.invariant in
    omega (arith, c.ndim-axis-end.ensures.value, c.loop-axis-test.true)

pub set_axis-requires : goal.set_axis-requires
set_axis-requires g c =
    let many = lowered-length c.loop-axis.axis c.args.self.now.lengths in
    let same = ap length c.loop-axis.invariant in
    omega (arith, c.ndim-axis-end.ensures.value, c.loop-axis-test.true)

pub loop-axis-preserved : goal.loop-axis-preserved
loop-axis-preserved g c =
    let ns = c.args.self.now.lengths in
    let k = c.loop-axis.axis in
    let more : suc k ≡ k + 1 = omega arith in
    let below : k < length ns = omega (arith, c.ndim-axis-end.ensures.value, c.loop-axis-test.true) in
    let number : c.saturating_sub.result ≡ get_or ns k 0 - 1 = c.saturating_sub.ensures ∙ ap (λ x. x - 1) (c.axis.ensures ∙ (ap (λ v. get_or v k 0) c.loop-axis.invariant ∙ lowered-next k ns)) in
    c.set_axis.ensures
    ∙ (ap (λ x. set (g.D.Lengths.numbers c.loop-axis.index) k x) number
    ∙ (ap (λ v. set v k (get_or ns k 0 - 1)) c.loop-axis.invariant
    ∙ (lowered-more k ns below ∙ ap (λ j. lowered j ns) more)))

pub returns : goal.returns
returns g c =
    let ns = c.args.self.now.lengths in
    let all : c.loop-axis.axis ≡ length ns = omega (arith, c.ndim-axis-end.ensures.value, c.loop-axis-test.false, c.loop-axis.auto.axis-end) in
    c.cell.ensures.value ∙ (ap (cell c.args.self.now) (c.loop-axis.invariant ∙ ap (λ k. lowered k ns) all) ∙ last-cell c.args.self.now c.raw_dim-index.ensures.whole)
