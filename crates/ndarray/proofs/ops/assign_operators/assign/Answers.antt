use Rattle.std.proofs.Common.{◌≡◌, ◌∙◌, ap, refl, sym}
use Rattle.std.specs.Prelude.{⊤}
use Rattle.ndarray.specs.Grid.{cell}
use Rattle.ndarray.specs.Views.{broadcast_to}
use Rattle.ndarray.proofs.cells.Elementwise.{assigns-of}
use Rattle.ndarray.proofs.cells.UpdatedCells.{updates-collect}
use Rattle.ndarray.proofs.ops.assign_operators.assign.Goals as goal

pub returns : goal.returns
returns g c =
    let (o, u) = c.in-Ok.ensures.ran in
    let whole = c.in-Ok.ensures.whole in
    let right : c.into_broadcast-rhs.result ≡ broadcast_to c.args.rhs.now c.args.array.now.lengths =
    c.into_broadcast-rhs.ensures.seen ∙ (ap (λ v. broadcast_to v (g.D.Lengths.numbers c.raw_dim.result)) c.view.ensures.same ∙ ap (broadcast_to c.args.rhs.now) c.raw_dim.ensures.lengths) in
    assigns-of _ _ (λ _. ⊤) (λ f x z h n k. tt) o _ tt _ whole c.args.array.now c.args.rhs.now (λ x. x.1.now) (λ x. x.0) _
    (λ i x s. (s.0, ap (λ v. cell v i) (sym right) ∙ s.1)) (λ f x z h n k. k) _ refl (updates-collect _ _ o _ _ _ whole u)
