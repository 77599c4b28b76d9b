use Rattle.std.proofs.Common.{ap, sym, refl, ◌∙◌, subst}
use Rattle.ndarray.specs.Subviews.{ArePositive, window_index, window_counts}
use Rattle.ndarray.specs.base.Slots.{held_at}
use Rattle.ndarray.specs.base.Pieces.{AreStepsOf}
use Rattle.ndarray.proofs.pieces.OneAxisWindows.{exact_chunks-windows}
use Rattle.ndarray.proofs.pieces.Pieces.{pieces-seen}
use Rattle.ndarray.proofs.pieces.DisjointPieces.{AreApartImages, chunks-apart, pieces-share}
use Rattle.ndarray.proofs.subviews.exact_chunks_mut.pieces.Goals as goal

images : (g : _) (c : goal.After-drop-layout g) → AreApartImages (g.D.Lengths.numbers c.view.inside.layout.dim) c.view.inside.layout.start (g.D.Lengths.numbers c.view.inside.layout.strides) (g.D.Lengths.numbers c.window_positions.result.dim) (g.D.Lengths.numbers c.window_positions.result.strides) (g.D.Lengths.numbers c.args.chunk) (g.D.Lengths.numbers c.view.inside.layout.strides) (window_index (g.D.Lengths.numbers c.args.chunk))
images g c =
    let a = c.view.inside.layout in
    let ns = g.D.Lengths.numbers a.dim in
    let bs = g.D.Lengths.numbers a.strides in
    let cs = g.D.Lengths.numbers c.args.chunk in
    let ds = g.D.Lengths.numbers c.window_positions.result.strides in
    let same = ap (λ v. v.lengths) c.view.view_is in
    let distances : AreStepsOf (window_counts ns cs cs) bs cs ds = subst (λ xs. AreStepsOf xs bs cs ds) c.window_positions.ensures.dim c.window_positions.ensures.strides in
    rw c.window_positions.ensures.dim
    (chunks-apart (held_at c.view.inside.storage.slots) ns a.start bs cs ds c.view.invariant (subst (λ xs. ArePositive xs cs) (sym same) c.requires) distances)

pub invariant_of-result : goal.invariant_of-result
invariant_of-result g c = rw c.window_positions.ensures.start (pieces-share (images g c) (held_at c.view.inside.storage.slots) c.view.invariant)

pub returns : goal.returns
returns g c =
    let same = ap (λ v. v.lengths) c.view.view_is in
    let cs = g.D.Lengths.numbers c.args.chunk in
    rw c.window_positions.ensures.start
    (pieces-seen (images g c).images (held_at c.view.inside.storage.slots) _ _ _ _ (λ p. refl) c.view.invariant c.view.view_is
    (c.window_positions.ensures.dim ∙ ap (λ ns. window_counts ns cs cs) same) (λ i. cs)
    ∙ exact_chunks-windows c.args.view cs c.requires)
