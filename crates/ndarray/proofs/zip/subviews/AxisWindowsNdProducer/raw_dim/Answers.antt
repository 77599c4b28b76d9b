use Rattle.std.proofs.Common.{◌≡◌, ◌∷◌, [], ◌∙◌, ap, arith, length, subst, sym}
use Rattle.ndarray.specs.Index.{size}
use Rattle.ndarray.specs.Limits.{IsWithinLimit}
use Rattle.ndarray.proofs.boxes.Sizes.{limit-one, size-le}
use Rattle.ndarray.proofs.zip.subviews.AxisWindowsNdProducer.raw_dim.Goals as goal

count : (g : _) (c : goal.After-drop-raw_dim g) → c.size.result ≡ length c.self.inside.pieces.cells
count g c = c.size.ensures ∙ (ap size c.raw_dim.ensures.lengths ∙ sym c.raw_dim.ensures.whole)

pub returns-clause-lengths : goal.returns-clause-lengths
returns-clause-lengths g c = c.Ix1.ensures ∙ (ap (λ n. n ∷ []) (count g c) ∙ ap (λ v. v.lengths) c.self.view_is)

pub returns-clause-limit : goal.returns-clause-limit
returns-clause-limit g c =
    let s = size-le c.self.inside.pieces.lengths in
    let m = c.raw_dim.ensures.limit in
    let w = c.raw_dim.ensures.whole in
    subst IsWithinLimit (ap (λ v. v.lengths) c.self.view_is) (limit-one (length c.self.inside.pieces.cells) (omega arith))
