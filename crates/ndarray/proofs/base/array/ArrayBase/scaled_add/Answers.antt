use Rattle.std.proofs.Common.{◌≡◌, ◌∙◌, ap, refl, subst, sym}
use Rattle.ndarray.specs.Grid.{cell}
use Rattle.ndarray.specs.Products.{AddsProduct}
use Rattle.ndarray.specs.Views.{broadcast_to}
use Rattle.ndarray.proofs.callers.Collecting.{may-gather}
use Rattle.ndarray.proofs.cells.Elementwise.{assigns-of}
use Rattle.ndarray.proofs.cells.UpdatedCells.{updates-collect}
use Rattle.ndarray.proofs.base.array.ArrayBase.scaled_add.Goals as goal

pub try_update_beside-requires-clause-callable : goal.try_update_beside-requires-clause-callable
try_update_beside-requires-clause-callable g c =
    let right : c.into_broadcast-rhs.result ≡ broadcast_to c.args.rhs.now c.args.self.now.lengths =
    c.into_broadcast-rhs.ensures.seen ∙ (ap (λ v. broadcast_to v (g.D.Lengths.numbers c.raw_dim.result)) c.view.ensures.same ∙ ap (broadcast_to c.args.rhs.now) c.raw_dim.ensures.lengths) in
    λ o. may-gather _ _ _ _ (λ i x r k s h. h.1) _ o (λ i x b s. c.requires.defined i x.0 x.1.now (s.0, ap (λ v. cell v i) (sym right) ∙ s.1))

pub returns : goal.returns
returns g c =
    let (o, u) = c.in-Ok.ensures.ran in
    let right : c.into_broadcast-rhs.result ≡ broadcast_to c.args.rhs.now c.args.self.now.lengths =
    c.into_broadcast-rhs.ensures.seen ∙ (ap (λ v. broadcast_to v (g.D.Lengths.numbers c.raw_dim.result)) c.view.ensures.same ∙ ap (broadcast_to c.args.rhs.now) c.raw_dim.ensures.lengths) in
    assigns-of _ _ (λ f. f.alpha ≡ c.args.alpha) (λ f x z h n k. ap (λ f. f.alpha) k.1 ∙ n) o _ refl _ c.in-Ok.ensures.whole c.args.self.now c.args.rhs.now (λ x. x.1.now) (λ x. x.0) _
    (λ i x s. (s.0, ap (λ v. cell v i) (sym right) ∙ s.1)) (λ f x z h n k. subst (λ y. AddsProduct g.A.Valued y x.0 x.1.now z) n k.0) _ refl (updates-collect _ _ o _ _ _ c.in-Ok.ensures.whole u)
