use Rattle.std.proofs.Common.{◌<◌, ◌≤◌, ◌+◌, arith, length, get_or, set, ap, refl, ◌∙◌}
use Rattle.ndarray.specs.base.Places.{Rearranges}
use Rattle.ndarray.specs.base.Storage.{seen_at}
use Rattle.ndarray.proofs.views.Cuts.{rearranges-part}
use Rattle.ndarray.proofs.strides.Reach.{length-cells_at}
use Rattle.ndarray.proofs.views.Images.{Reaches-rearranged, grid-seen}
use Rattle.ndarray.proofs.base.axes.ArrayView+A+D.part.Goals as goal

kept : (g : _) (c : goal.After-cut g) → Rearranges ⊥ (g.D.Lengths.numbers c.part.inside.layout.dim) c.part.inside.layout.start (g.D.Lengths.numbers c.part.inside.layout.strides) (g.D.Lengths.numbers c.cut.new.self.dim) c.cut.new.self.start (g.D.Lengths.numbers c.cut.new.self.strides) (λ js. set js c.args.axis (c.args.from + get_or js c.args.axis 0))
kept g c =
    let a = c.part.inside.layout in
    let ns = g.D.Lengths.numbers a.dim in
    let seen = ap (λ v. v.lengths) (c.part.view_is ∙ c.again-part.ensures.same) in
    let lt : c.args.axis < length ns = omega (arith, ap length seen, c.requires.axis) in
    let le : c.args.from + c.args.len ≤ get_or ns c.args.axis 0 = omega (arith, ap (λ ms. get_or ms c.args.axis 0) seen, c.requires.within) in
    rw (c.cut.ensures.dim, c.cut.ensures.start, c.cut.ensures.strides) (rearranges-part ⊥ _ ns a.start (g.D.Lengths.numbers a.strides) c.part.invariant c.args.axis lt c.args.from c.args.len le)

pub invariant_of-part : goal.invariant_of-part
invariant_of-part g c = Reaches-rearranged (kept g c) _ (λ x. x) c.part.invariant

pub returns-clause-value : goal.returns-clause-value
returns-clause-value g c =
    grid-seen (kept g c) (seen_at c.part.inside.storage) _ _ _ (λ p. refl) c.part.invariant (c.part.view_is ∙ c.again-part.ensures.same)
    (c.cut.ensures.dim ∙ (ap (λ v. set v.lengths c.args.axis c.args.len) (c.part.view_is ∙ c.again-part.ensures.same) ∙ ap (set c.args.self.now.lengths c.args.axis) (omega arith)))

pub returns-clause-whole : goal.returns-clause-whole
returns-clause-whole g c = length-cells_at _ _ _ _ (invariant_of-part g c)
