use Rattle.std.proofs.Common.{ap, length, arith, ◌<◌, ◌∷◌, [], get_or}
use Rattle.std.specs.Prelude.{remove, insert}
use Rattle.ndarray.proofs.pieces.Pieces.{AreImages, items-images, pieces-reach, pieces-seen}
use Rattle.ndarray.proofs.base.array.ArrayBase.items.Goals as goal

images : (g : _) (c : goal.After-remove_axis-2 g) → AreImages (g.D.Lengths.numbers c.self.inside.layout.dim) c.self.inside.layout.start (g.D.Lengths.numbers c.self.inside.layout.strides) c.Ix1.result.0 c.Ix1-2.result.0 (g.D.Smaller.Lengths.numbers c.remove_axis.result) (g.D.Smaller.Lengths.numbers c.remove_axis-2.result) (λ p js. insert js c.args.axis.0 (get_or p 0 0))
images g c =
    let a = c.self.inside.layout in
    let lt : c.args.axis.0 < length (g.D.Lengths.numbers a.dim) = omega (arith, ap (λ v. length v.lengths) c.self.view_is, c.requires) in
    rw (c.Ix1.ensures, c.Ix1-2.ensures, c.axis.ensures, c.axis-2.ensures, c.remove_axis.ensures, c.remove_axis-2.ensures) (items-images (g.S.Data.at c.self.inside.storage) (g.D.Lengths.numbers a.dim) a.start (g.D.Lengths.numbers a.strides) c.args.axis.0 c.self.invariant lt)

pub invariant_of-result : goal.invariant_of-result
invariant_of-result g c = pieces-reach (images g c) (g.S.Data.at c.self.inside.storage) _ c.seen.ensures c.self.invariant

pub returns : goal.returns
returns g c =
    let same = ap (λ v. v.lengths) c.self.view_is in
    pieces-seen (images g c) (g.S.Data.at c.self.inside.storage) _ _ _ _ c.seen.ensures c.self.invariant c.self.view_is (rw (c.Ix1.ensures, c.axis.ensures) (ap (λ ns. get_or ns c.args.axis.0 0 ∷ []) same)) (rw c.remove_axis.ensures (ap (λ ns. remove ns c.args.axis.0) same))
