use Rattle.std.proofs.Common.{◌≡◌, ◌∙◌, ℕ, List, ap, get_or, length, map, refl, subst, sym}
use Rattle.std.proofs.lemmas.List.{length-map}
use Rattle.ndarray.specs.AxisOrders.{NamesEachAxis, unpermuted_index}
use Rattle.ndarray.specs.Grid.{cell, tabulate}
use Rattle.ndarray.specs.base.Places.{Rearranges}
use Rattle.ndarray.proofs.lists.AxisOrders.{order-length}
use Rattle.ndarray.proofs.strides.Reach.{length-cells_at}
use Rattle.ndarray.proofs.views.Images.{Reaches-rearranged, grid-seen}
use Rattle.ndarray.proofs.views.PermutedAxes.{rearranges-permuted}
use Rattle.ndarray.proofs.base.array.ArrayBase.permuted_axes.Goals as goal

named : (ns own axes written : List ℕ) → ns ≡ own → axes ≡ written → NamesEachAxis (length own) written → NamesEachAxis (length ns) axes
named ns own axes written e f h = subst (λ n. NamesEachAxis n axes) (sym (ap length e)) (subst (NamesEachAxis (length own)) (sym f) h)

pub permuted-requires-clause-axes : goal.permuted-requires-clause-axes
permuted-requires-clause-axes g c = named _ _ _ _ (ap (λ v. v.lengths) c.self.view_is) c.into_dimension.ensures c.requires

turn : (g : _) (c : goal.After-drop-layout-2 g) → Rearranges (g.S.Data.apart c.self.inside.storage) (g.D.Lengths.numbers c.self.inside.layout.dim) c.self.inside.layout.start (g.D.Lengths.numbers c.self.inside.layout.strides) (g.D.Lengths.numbers c.permuted.result.dim) c.permuted.result.start (g.D.Lengths.numbers c.permuted.result.strides) (unpermuted_index (g.D.Lengths.numbers c.into_dimension.result))
turn g c =
    let a = c.self.inside.layout in
    rw (c.permuted.ensures.dim, c.permuted.ensures.start, c.permuted.ensures.strides) (rearranges-permuted (g.S.Data.apart c.self.inside.storage) (g.S.Data.at c.self.inside.storage) (g.D.Lengths.numbers a.dim) a.start (g.D.Lengths.numbers a.strides) (g.D.Lengths.numbers c.into_dimension.result) c.self.invariant
    (named _ _ _ _ (ap (λ v. v.lengths) c.self.view_is) c.into_dimension.ensures c.requires))

pub invariant_of-result : goal.invariant_of-result
invariant_of-result g c = Reaches-rearranged (turn g c) _ (λ x. x) c.self.invariant

pub returns-clause-value : goal.returns-clause-value
returns-clause-value g c =
    let axes = g.D.Lengths.numbers c.into_dimension.result in
    grid-seen (turn g c) (g.S.Data.at c.self.inside.storage) _ _ _ (λ p. refl) c.self.invariant c.self.view_is (c.permuted.ensures.dim ∙ ap (λ v. map (λ k. get_or v.lengths k 0) axes) c.self.view_is)
    ∙ ap (λ ks. tabulate (map (λ k. get_or c.args.self.lengths k 0) ks) (λ is. cell c.args.self (unpermuted_index ks is))) c.into_dimension.ensures

pub returns-clause-whole : goal.returns-clause-whole
returns-clause-whole g c = length-cells_at _ _ _ _ (invariant_of-result g c)

pub returns-clause-axes : goal.returns-clause-axes
returns-clause-axes g c =
    let axes = g.D.Lengths.numbers c.into_dimension.result in
    let ns = g.D.Lengths.numbers c.self.inside.layout.dim in
    let same = ap (λ v. v.lengths) c.self.view_is in
    let many : length (g.D.Lengths.numbers c.permuted.result.dim) ≡ length c.args.self.lengths = ap length c.permuted.ensures.dim ∙ (length-map axes (λ k. get_or ns k 0) ∙ (order-length (length ns) axes (named _ _ _ _ same c.into_dimension.ensures c.requires) ∙ ap length same)) in
    subst g.D.Lengths.has_axes (sym many) c.ndim-axes.ensures.axes
