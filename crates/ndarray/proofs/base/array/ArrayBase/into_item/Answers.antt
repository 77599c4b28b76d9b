use Rattle.std.proofs.Common.{◌<◌, get_or, arith, length, ap, refl, subst, sym, ◌∙◌}
use Rattle.std.specs.Prelude.{insert, remove}
use Rattle.std.proofs.lemmas.List.Edits.{length-remove}
use Rattle.ndarray.specs.base.Places.{Rearranges}
use Rattle.ndarray.proofs.strides.Reach.{length-cells_at}
use Rattle.ndarray.proofs.views.Images.{Reaches-rearranged, grid-seen}
use Rattle.ndarray.proofs.views.Items.{rearranges-item}
use Rattle.ndarray.proofs.base.array.ArrayBase.into_item.Goals as goal

item : (g : _) (c : goal.After-drop-layout-2 g) → Rearranges (g.S.Data.apart c.self.inside.storage) (g.D.Lengths.numbers c.self.inside.layout.dim) c.self.inside.layout.start (g.D.Lengths.numbers c.self.inside.layout.strides) (g.D.Smaller.Lengths.numbers c.item.result.dim) c.item.result.start (g.D.Smaller.Lengths.numbers c.item.result.strides) (λ js. insert js c.args.axis.0 c.args.index)
item g c =
    let a = c.self.inside.layout in
    let lengths = ap (λ v. v.lengths) c.self.view_is in
    let lt : c.args.axis.0 < length (g.D.Lengths.numbers a.dim) = omega (arith, ap length lengths, c.requires.axis) in
    let below : c.args.index < get_or (g.D.Lengths.numbers a.dim) c.args.axis.0 0 = omega (arith, ap (λ ns. get_or ns c.args.axis.0 0) lengths, c.requires.within) in
    rw (c.item.ensures.dim, c.item.ensures.strides) (rearranges-item (g.S.Data.apart c.self.inside.storage) (g.S.Data.at c.self.inside.storage) (g.D.Lengths.numbers a.dim) a.start (g.D.Lengths.numbers a.strides) c.args.axis.0 c.args.index c.item.result.start c.self.invariant lt below c.item.ensures.start)

pub invariant_of-result : goal.invariant_of-result
invariant_of-result g c = Reaches-rearranged (item g c) _ (λ x. x) c.self.invariant

pub returns-clause-value : goal.returns-clause-value
returns-clause-value g c =
    grid-seen (item g c) (g.S.Data.at c.self.inside.storage) _ _ _ (λ p. refl) c.self.invariant c.self.view_is (c.item.ensures.dim ∙ ap (λ v. remove v.lengths c.args.axis.0) c.self.view_is)

pub returns-clause-axes : goal.returns-clause-axes
returns-clause-axes g c =
    let less = length-remove c.args.self.lengths c.args.axis.0 c.requires.axis in
    subst (λ v. g.D.Smaller.Lengths.has_axes (length v.lengths)) (sym (returns-clause-value g c))
    (g.met.D.Dimension.smaller_has (length (remove c.args.self.lengths c.args.axis.0)) (subst g.D.Lengths.has_axes (sym less) c.ndim-axes.ensures.axes))

pub returns-clause-whole : goal.returns-clause-whole
returns-clause-whole g c = length-cells_at _ _ _ _ (invariant_of-result g c)
