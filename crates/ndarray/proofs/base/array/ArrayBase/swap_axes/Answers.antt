use Rattle.std.proofs.Common.{◌<◌, arith, length, swap, ap, refl, ◌∙◌}
use Rattle.ndarray.specs.base.Places.{Rearranges}
use Rattle.ndarray.proofs.strides.Reach.{length-cells_at}
use Rattle.ndarray.proofs.views.Images.{Reaches-rearranged, grid-seen}
use Rattle.ndarray.proofs.views.Swaps.{rearranges-swapped}
use Rattle.ndarray.proofs.base.array.ArrayBase.swap_axes.Goals as goal

swapped : (g : _) (c : goal.After-swap_axes g) → Rearranges (g.S.Data.apart c.self.inside.storage) (g.D.Lengths.numbers c.self.inside.layout.dim) c.self.inside.layout.start (g.D.Lengths.numbers c.self.inside.layout.strides) (g.D.Lengths.numbers c.swap_axes.new.self.dim) c.swap_axes.new.self.start (g.D.Lengths.numbers c.swap_axes.new.self.strides) (λ is. swap is c.args.ax c.args.bx)
swapped g c =
    let a = c.self.inside.layout in
    let lengths = ap (λ v. length v.lengths) c.self.view_is in
    let first : c.args.ax < length (g.D.Lengths.numbers a.dim) = omega (arith, lengths, c.requires.first) in
    let second : c.args.bx < length (g.D.Lengths.numbers a.dim) = omega (arith, lengths, c.requires.second) in
    rw (c.swap_axes.ensures.dim, c.swap_axes.ensures.start, c.swap_axes.ensures.strides) (rearranges-swapped (g.S.Data.apart c.self.inside.storage) _ (g.D.Lengths.numbers a.dim) a.start (g.D.Lengths.numbers a.strides) c.args.ax c.args.bx c.self.invariant first second)

pub invariant_of-self : goal.invariant_of-self
invariant_of-self g c = Reaches-rearranged (swapped g c) _ (λ x. x) c.self.invariant

pub returns-clause-value : goal.returns-clause-value
returns-clause-value g c =
    grid-seen (swapped g c) (g.S.Data.at c.self.inside.storage) _ _ _ (λ p. refl) c.self.invariant c.self.view_is (c.swap_axes.ensures.dim ∙ ap (λ v. swap v.lengths c.args.ax c.args.bx) c.self.view_is)

pub returns-clause-whole : goal.returns-clause-whole
returns-clause-whole g c = length-cells_at _ _ _ _ (invariant_of-self g c)
