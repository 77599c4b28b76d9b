use Rattle.std.proofs.Common.{ap, sym, ◌∙◌, subst}
use Rattle.ndarray.specs.Subviews.{ArePositive, window_index, window_counts}
use Rattle.ndarray.specs.base.Pieces.{AreStepsOf, AreWindowsOf}
use Rattle.ndarray.proofs.pieces.Pieces.{AreImages, pieces-reach, pieces-seen}
use Rattle.ndarray.proofs.pieces.Windows.{windows-images}
use Rattle.ndarray.proofs.base.array.ArrayBase.pieces.Goals as goal

images : (g : _) (c : goal.After-copied g) → AreImages (g.D.Lengths.numbers c.self.inside.layout.dim) c.self.inside.layout.start (g.D.Lengths.numbers c.self.inside.layout.strides) (g.D.Lengths.numbers c.window_positions.result.dim) (g.D.Lengths.numbers c.window_positions.result.strides) (g.D.Lengths.numbers c.args.window) (g.D.Lengths.numbers c.copied.result) (window_index (g.D.Lengths.numbers c.args.steps.now))
images g c =
    let a = c.self.inside.layout in
    let same = ap (λ v. v.lengths) c.self.view_is in
    let ns = g.D.Lengths.numbers a.dim in
    let bs = g.D.Lengths.numbers a.strides in
    let ws = g.D.Lengths.numbers c.args.window in
    let ss = g.D.Lengths.numbers c.args.steps.now in
    let ds = g.D.Lengths.numbers c.window_positions.result.strides in
    let P = λ (xs : _). AreWindowsOf xs ws in
    let distances : AreStepsOf (window_counts ns ws ss) bs ss ds = subst (λ xs. AreStepsOf xs bs ss ds) c.window_positions.ensures.dim c.window_positions.ensures.strides in
    rw (c.window_positions.ensures.dim, c.copied.ensures.value)
    (windows-images (g.S.Data.at c.self.inside.storage) ns a.start bs ws ss ds c.self.invariant (subst P (sym same) c.requires.window) (subst (λ xs. ArePositive xs ss) (sym same) c.requires.steps) distances)

pub invariant_of-result : goal.invariant_of-result
invariant_of-result g c = rw c.window_positions.ensures.start (pieces-reach (images g c) (g.S.Data.at c.self.inside.storage) _ c.seen.ensures c.self.invariant)

pub returns : goal.returns
returns g c =
    let same = ap (λ v. v.lengths) c.self.view_is in
    rw c.window_positions.ensures.start
    (pieces-seen (images g c) (g.S.Data.at c.self.inside.storage) _ _ _ _ c.seen.ensures c.self.invariant c.self.view_is
    (c.window_positions.ensures.dim ∙ ap (λ ns. window_counts ns (g.D.Lengths.numbers c.args.window) (g.D.Lengths.numbers c.args.steps.now)) same) (λ i. g.D.Lengths.numbers c.args.window))
