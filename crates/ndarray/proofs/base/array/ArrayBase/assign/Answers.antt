use Rattle.std.proofs.Common.{◌≡◌, ◌∙◌, ap, subst, sym}
use Rattle.std.specs.Prelude.{⊤}
use Rattle.ndarray.specs.Grid.{IsGrid, cell}
use Rattle.ndarray.proofs.cells.Elementwise.{maps-of}
use Rattle.ndarray.proofs.cells.Mapped.{maps-itself}
use Rattle.ndarray.proofs.cells.UpdatedCells.{updates-collect}
use Rattle.ndarray.proofs.base.array.ArrayBase.assign.Goals as goal

pub returns : goal.returns
returns g c =
    let (o, u) = c.in-Ok.ensures.ran in
    let whole = c.in-Ok.ensures.whole in
    let b = c.args.rhs.now in
    maps-itself b _ (subst IsGrid c.view.ensures.same c.view.ensures.whole)
    (maps-of _ _ (λ _. ⊤) (λ d x z h n k. tt) o _ tt _ whole b (λ x. x.1.now) (λ x z. z ≡ x)
    (λ i x s. ap (λ v. cell v i) (sym c.view.ensures.same) ∙ s.1) (λ d x z h n k. k) _ (sym c.requires) (updates-collect _ _ o _ _ _ whole u))
