use Rattle.std.proofs.Common.{◌≡◌, ◌∙◌, ap, refl, subst, sym}
use Rattle.ndarray.specs.Everyday.{LeavesBeside}
use Rattle.ndarray.specs.Grid.{IsGrid, cell}
use Rattle.ndarray.proofs.callers.Collecting.{may-gather}
use Rattle.ndarray.proofs.cells.Mapped.{maps-combined, maps_two-of}
use Rattle.ndarray.proofs.cells.UpdatedCells.{updates-collect}
use Rattle.ndarray.proofs.base.array.ArrayBase.zip_mut_with.Goals as goal

pub try_update_beside-requires-clause-callable : goal.try_update_beside-requires-clause-callable
try_update_beside-requires-clause-callable g c = λ o.
    may-gather _ _ _ _ (λ i x r k s h. h.1) _ o (λ i x b s. c.requires.callable i x.0 x.1.now s.0 (ap (λ v. cell v i) (sym c.view.ensures.same) ∙ s.1))

pub returns-clause-cells : goal.returns-clause-cells
returns-clause-cells g c =
    let (o, u) = c.in-Ok.ensures.ran in
    let whole = c.in-Ok.ensures.whole in
    maps_two-of _ _ (λ d. d.0 ≡ c.args.f) (λ d x z h n k. ap (λ d. d.0) k.1 ∙ n) o _ refl _ whole c.args.self.now c.args.rhs.now (λ x. x.0) (λ x. x.1.now) _
    (λ i x s. (s.0, ap (λ v. cell v i) (sym c.view.ensures.same) ∙ s.1)) (λ d x z h n k. subst (λ f. LeavesBeside g.F.Fn f x.0 x.1.now z) n k.0) _ refl (updates-collect _ _ o _ _ _ whole u)

pub returns-clause-values : goal.returns-clause-values
returns-clause-values g c h acts =
    maps-combined c.args.self.now c.args.rhs.now _ _ h c.raw_dim-whole.ensures.whole (subst IsGrid c.view.ensures.same c.view.ensures.whole) c.requires.same
    (λ x y z k. sym k.leaves ∙ (acts k.shown k.read k.left k.met ∙ (ap (λ u. h u k.read.now) k.shows.0 ∙ ap (h x) k.shows.1)))
    (returns-clause-cells g c)
