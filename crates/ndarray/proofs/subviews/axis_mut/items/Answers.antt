use Rattle.std.proofs.Common.{ap, length, arith, refl, ◌<◌, ◌∷◌, [], get_or}
use Rattle.std.specs.Prelude.{remove, insert}
use Rattle.ndarray.specs.base.Slots.{held_at}
use Rattle.ndarray.proofs.pieces.Pieces.{pieces-seen}
use Rattle.ndarray.proofs.pieces.DisjointPieces.{AreApartImages, items-apart, pieces-share}
use Rattle.ndarray.proofs.subviews.axis_mut.items.Goals as goal

images : (g : _) (c : goal.After-drop-layout-2 g) → AreApartImages (g.D.Lengths.numbers c.view.inside.layout.dim) c.view.inside.layout.start (g.D.Lengths.numbers c.view.inside.layout.strides) c.Ix1.result.0 c.Ix1-2.result.0 (g.D.Smaller.Lengths.numbers c.remove_axis.result) (g.D.Smaller.Lengths.numbers c.remove_axis-2.result) (λ p js. insert js c.args.axis.0 (get_or p 0 0))
images g c =
    let a = c.view.inside.layout in
    let lt : c.args.axis.0 < length (g.D.Lengths.numbers a.dim) = omega (arith, ap (λ v. length v.lengths) c.view.view_is, c.requires) in
    rw (c.Ix1.ensures, c.Ix1-2.ensures, c.axis.ensures, c.axis-2.ensures, c.remove_axis.ensures, c.remove_axis-2.ensures) (items-apart (held_at c.view.inside.storage.slots) (g.D.Lengths.numbers a.dim) a.start (g.D.Lengths.numbers a.strides) c.args.axis.0 c.view.invariant lt)

pub invariant_of-result : goal.invariant_of-result
invariant_of-result g c = pieces-share (images g c) (held_at c.view.inside.storage.slots) c.view.invariant

pub returns : goal.returns
returns g c =
    let same = ap (λ v. v.lengths) c.view.view_is in
    pieces-seen (images g c).images (held_at c.view.inside.storage.slots) _ _ _ _ (λ p. refl) c.view.invariant c.view.view_is (rw (c.Ix1.ensures, c.axis.ensures) (ap (λ ns. get_or ns c.args.axis.0 0 ∷ []) same)) (rw c.remove_axis.ensures (ap (λ ns. remove ns c.args.axis.0) same))
