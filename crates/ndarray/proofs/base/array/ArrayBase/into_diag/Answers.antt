use Rattle.std.proofs.Common.{◌∙◌, ◌∷◌, [], ap, get_or, length, refl, replicate}
use Rattle.ndarray.specs.Diagonals.{shortest}
use Rattle.ndarray.specs.Grid.{cell, tabulate}
use Rattle.ndarray.specs.base.Places.{Rearranges}
use Rattle.ndarray.proofs.strides.Reach.{length-cells_at}
use Rattle.ndarray.proofs.views.DiagonalViews.{rearranges-diagonal}
use Rattle.ndarray.proofs.views.Images.{Reaches-rearranged, grid-seen}
use Rattle.ndarray.proofs.base.array.ArrayBase.into_diag.Goals as goal

along : (g : _) (c : goal.After-drop-layout-2 g) → Rearranges (g.S.Data.apart c.self.inside.storage) (g.D.Lengths.numbers c.self.inside.layout.dim) c.self.inside.layout.start (g.D.Lengths.numbers c.self.inside.layout.strides) c.diagonal.result.dim.0 c.diagonal.result.start c.diagonal.result.strides.0 (λ is. replicate (length (g.D.Lengths.numbers c.self.inside.layout.dim)) (get_or is 0 0))
along g c =
    let a = c.self.inside.layout in
    rw (c.diagonal.ensures.dim, c.diagonal.ensures.start, c.diagonal.ensures.strides) (rearranges-diagonal (g.S.Data.apart c.self.inside.storage) _ (g.D.Lengths.numbers a.dim) a.start (g.D.Lengths.numbers a.strides) c.self.invariant)

pub invariant_of-result : goal.invariant_of-result
invariant_of-result g c = Reaches-rearranged (along g c) _ (λ x. x) c.self.invariant

pub returns-clause-value : goal.returns-clause-value
returns-clause-value g c =
    let same = ap (λ v. v.lengths) c.self.view_is in
    grid-seen (along g c) (g.S.Data.at c.self.inside.storage) _ _ _ (λ p. refl) c.self.invariant c.self.view_is (c.diagonal.ensures.dim ∙ ap (λ ns. shortest ns ∷ []) same)
    ∙ ap (λ ns. tabulate (shortest c.args.self.lengths ∷ []) (λ is. cell c.args.self (replicate (length ns) (get_or is 0 0)))) same

pub returns-clause-whole : goal.returns-clause-whole
returns-clause-whole g c = length-cells_at _ _ _ _ (invariant_of-result g c)
