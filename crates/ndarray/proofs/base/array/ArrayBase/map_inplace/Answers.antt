use Rattle.std.proofs.Common.{◌≡◌, ◌∙◌, ap, refl, subst, sym}
use Rattle.ndarray.specs.Everyday.{Leaves}
use Rattle.ndarray.proofs.callers.Collecting.{may-gather}
use Rattle.ndarray.proofs.cells.Elementwise.{maps-of}
use Rattle.ndarray.proofs.cells.Mapped.{maps-mapped}
use Rattle.ndarray.proofs.cells.UpdatedCells.{updates-collect}
use Rattle.ndarray.proofs.base.array.ArrayBase.map_inplace.Goals as goal

pub try_update-requires-clause-callable : goal.try_update-requires-clause-callable
try_update-requires-clause-callable g c = λ o. may-gather _ _ _ _ (λ i x r k s h. h.1) _ o (λ i x b s. c.requires.callable i x.0 s.0)

pub returns-clause-cells : goal.returns-clause-cells
returns-clause-cells g c =
    let (o, u) = c.in-Ok.ensures.ran in
    let whole = c.in-Ok.ensures.whole in
    maps-of _ _ (λ d. d.0 ≡ c.args.f) (λ d x z h n k. ap (λ d. d.0) k.1 ∙ n) o _ refl _ whole c.args.self.now (λ x. x.0) _
    (λ i x s. s.0) (λ d x z h n k. subst (λ f. Leaves g.F.Fn f x.0 z) n k.0) _ refl (updates-collect _ _ o _ _ _ whole u)

pub returns-clause-values : goal.returns-clause-values
returns-clause-values g c h acts =
    maps-mapped c.args.self.now _ _ h c.raw_dim.ensures.whole (λ x z k. sym k.leaves ∙ (acts k.shown k.left k.met ∙ ap h k.shows)) (returns-clause-cells g c)
