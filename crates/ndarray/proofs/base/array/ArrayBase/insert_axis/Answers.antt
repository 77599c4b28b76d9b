use Rattle.std.proofs.Common.{◌≡◌, ◌≤◌, ◌+◌, arith, length, ap, refl, subst, sym, ◌∙◌}
use Rattle.std.specs.Prelude.{insert, remove}
use Rattle.std.proofs.lemmas.List.Edits.{length-insert}
use Rattle.ndarray.specs.base.Places.{Rearranges}
use Rattle.ndarray.proofs.strides.Reach.{length-cells_at}
use Rattle.ndarray.proofs.views.Images.{Reaches-rearranged, grid-seen}
use Rattle.ndarray.proofs.views.Items.{rearranges-inserted}
use Rattle.ndarray.proofs.base.array.ArrayBase.insert_axis.Goals as goal

inserted : (g : _) (c : goal.After-insert_axis g) → Rearranges (g.S.Data.apart c.self.inside.storage) (g.D.Lengths.numbers c.self.inside.layout.dim) c.self.inside.layout.start (g.D.Lengths.numbers c.self.inside.layout.strides) (g.D.Larger.Lengths.numbers c.insert_axis.result.dim) c.insert_axis.result.start (g.D.Larger.Lengths.numbers c.insert_axis.result.strides) (λ js. remove js c.args.axis.0)
inserted g c =
    let a = c.self.inside.layout in
    let le : c.args.axis.0 ≤ length (g.D.Lengths.numbers a.dim) = omega (arith, ap (λ v. length v.lengths) c.self.view_is, c.requires.axis) in
    rw (c.insert_axis.ensures.dim, c.insert_axis.ensures.start, c.insert_axis.ensures.strides) (rearranges-inserted (g.S.Data.apart c.self.inside.storage) _ (g.D.Lengths.numbers a.dim) a.start (g.D.Lengths.numbers a.strides) c.args.axis.0 1 c.self.invariant le)

pub invariant_of-result : goal.invariant_of-result
invariant_of-result g c = Reaches-rearranged (inserted g c) _ (λ x. x) c.self.invariant

pub returns-clause-value : goal.returns-clause-value
returns-clause-value g c =
    grid-seen (inserted g c) (g.S.Data.at c.self.inside.storage) _ _ _ (λ p. refl) c.self.invariant c.self.view_is (c.insert_axis.ensures.dim ∙ ap (λ v. insert v.lengths c.args.axis.0 1) c.self.view_is)

pub returns-clause-axes : goal.returns-clause-axes
returns-clause-axes g c =
    let ns = c.args.self.lengths in
    let more : length ns + 1 ≡ length (insert ns c.args.axis.0 1) = omega (arith, length-insert ns c.args.axis.0 1 c.requires.axis) in
    subst (λ v. g.D.Larger.Lengths.has_axes (length v.lengths)) (sym (returns-clause-value g c))
    (subst g.D.Larger.Lengths.has_axes more (g.met.D.Dimension.larger_has (length ns) c.requires.room c.ndim-axes.ensures.axes))

pub returns-clause-whole : goal.returns-clause-whole
returns-clause-whole g c = length-cells_at _ _ _ _ (invariant_of-result g c)
