use Rattle.std.proofs.Common.{◌≡◌, ◌∙◌, ◌≤◌, ℕ, List, Option, ap, arith, length, refl}
use Rattle.std.specs.Prelude.{insert, remove}
use Rattle.ndarray.specs.base.Places.{Reaches, Rearranges}
use Rattle.ndarray.specs.base.Storage.{seen_at}
use Rattle.ndarray.proofs.strides.Reach.{length-cells_at}
use Rattle.ndarray.proofs.views.Images.{Reaches-rearranged, grid-seen}
use Rattle.ndarray.proofs.views.Items.{rearranges-inserted}
use Rattle.ndarray.proofs.base.put_axis.ArrayView+A+D.with_axis.Goals as goal

put-in : {A : Type 0} (at : ℕ → Option A) (ns bs ms cs : List ℕ) (start k : ℕ) → Reaches ⊥ at ns start bs → k ≤ length ns → ms ≡ insert ns k 1 → cs ≡ insert bs k 1 → Rearranges ⊥ ns start bs ms start cs (λ js. remove js k)
put-in at ns bs ms cs start k h le e f = rw (e, f) (rearranges-inserted ⊥ at ns start bs k 1 h le)

pub invariant_of-result : goal.invariant_of-result
invariant_of-result g c =
    let axes = ap (λ v. length v.lengths) c.self.view_is in
    let axis = c.requires.axis in
    Reaches-rearranged (put-in (seen_at c.self.inside.storage) _ _ _ _ _ c.args.axis c.self.invariant (omega (arith, axes, axis)) c.with_one-lengths.ensures c.with_one-steps.ensures) _ (λ x. x) c.self.invariant

pub returns-clause-value : goal.returns-clause-value
returns-clause-value g c =
    let axes = ap (λ v. length v.lengths) c.self.view_is in
    let axis = c.requires.axis in
    grid-seen (put-in (seen_at c.self.inside.storage) _ _ _ _ _ c.args.axis c.self.invariant (omega (arith, axes, axis)) c.with_one-lengths.ensures c.with_one-steps.ensures) (seen_at c.self.inside.storage) _ _ _ (λ p. refl) c.self.invariant c.self.view_is
    (c.with_one-lengths.ensures ∙ ap (λ v. insert v.lengths c.args.axis 1) c.self.view_is)

pub returns-clause-whole : goal.returns-clause-whole
returns-clause-whole g c = length-cells_at _ _ _ _ (invariant_of-result g c)
