use Rattle.std.proofs.Common.{◌≡◌, ◌∙◌, ap, refl, subst}
use Rattle.ndarray.proofs.callers.Collecting.{may-gather}
use Rattle.ndarray.proofs.cells.Elementwise.{maps-of}
use Rattle.ndarray.proofs.cells.UpdatedCells.{updates-collect}
use Rattle.ndarray.proofs.ops.assign_operators.assign_scalar.Goals as goal

pub try_update-requires-clause-callable : goal.try_update-requires-clause-callable
try_update-requires-clause-callable g c = λ o. may-gather _ _ _ _ (λ i x r k s h. h.1) _ o (λ i x b s. c.requires i x.0 s.0)

pub returns : goal.returns
returns g c =
    let (o, u) = c.in-Ok.ensures.ran in
    let whole = c.in-Ok.ensures.whole in
    maps-of _ _ (λ f. f.scalar ≡ c.args.scalar) (λ f x z h n k. ap (λ f. f.scalar) k.1 ∙ n) o _ refl _ whole c.args.array.now (λ x. x.0) _
    (λ i x s. s.0) (λ f x z h n k. subst (λ b. g.O.Operation.apply_gives x.0 b z) n k.0) _ refl (updates-collect _ _ o _ _ _ whole u)
