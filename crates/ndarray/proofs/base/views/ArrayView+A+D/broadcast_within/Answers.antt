use Rattle.std.proofs.Common.{◌∙◌, ap, refl}
use Rattle.ndarray.specs.Broadcast.{broadcast_index}
use Rattle.ndarray.specs.Grid.{cell, tabulate}
use Rattle.ndarray.specs.base.Storage.{seen_at}
use Rattle.ndarray.proofs.strides.Reach.{length-cells_at}
use Rattle.ndarray.proofs.views.Images.{Reaches-rearranged, grid-seen}
use Rattle.ndarray.proofs.views.Broadcasting.{rearranges-stretched}
use Rattle.ndarray.proofs.base.views.ArrayView+A+D.broadcast_within.Goals as goal

pub invariant_of-result : goal.invariant_of-result
invariant_of-result g c =
    let a = c.self.inside.layout in
    let turn = rearranges-stretched (seen_at c.self.inside.storage) (g.D.Lengths.numbers a.dim) a.start (g.D.Lengths.numbers a.strides) _ _ c.self.invariant c.in-Some.ensures c.requires in
    Reaches-rearranged turn _ (λ no. absurd no) c.self.invariant

pub returns-clause-value : goal.returns-clause-value
returns-clause-value g c =
    let a = c.self.inside.layout in
    let turn = rearranges-stretched (seen_at c.self.inside.storage) (g.D.Lengths.numbers a.dim) a.start (g.D.Lengths.numbers a.strides) _ _ c.self.invariant c.in-Some.ensures c.requires in
    grid-seen turn (seen_at c.self.inside.storage) _ _ _ (λ p. refl) c.self.invariant c.self.view_is (λ i. g.E.Lengths.numbers c.args.dim)
    ∙ ap (λ v. tabulate (g.E.Lengths.numbers c.args.dim) (λ is. cell c.args.self.now (broadcast_index v.lengths is))) c.self.view_is

pub returns-clause-whole : goal.returns-clause-whole
returns-clause-whole g c = length-cells_at _ _ _ _ (invariant_of-result g c)
