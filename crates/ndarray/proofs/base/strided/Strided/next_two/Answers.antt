use Rattle.std.proofs.Common.{◌≡◌, ◌∙◌, ◌+◌, ◌-◌, ◌%◌, ◌^◌, ◌∷◌, ℕ, ap, arith, subst, sym}
use Rattle.std.specs.Prelude.{filter_map}
use Rattle.ndarray.specs.base.Storage.{seen_at}
use Rattle.ndarray.specs.base.Strided.{HaveElements, places_from}
use Rattle.ndarray.proofs.strides.Rows.{step_index-first, step_index-next}
use Rattle.ndarray.proofs.base.strided.Strided.next_two.Goals as goal

-- two steps one after the other, and both at once
both : (p s : ℕ) → ((p + s) % 2 ^ 64 + s) % 2 ^ 64 ≡ (p + (s + s) % 2 ^ 64) % 2 ^ 64
both p s = omega arith

pub get-requires-2 : goal.get-requires-2
get-requires-2 g c =
    let at = seen_at c.self.inside.storage in
    let more = c.if-self-lt2.false in
    let rest = (step_index-first at _ _ c.self.inside.left (omega (arith, more)) c.self.invariant).1 in
    (step_index-first at _ _ (c.self.inside.left - 1) (omega (arith, more)) rest).0

pub invariant_of-self : goal.invariant_of-self
invariant_of-self g c =
    let at = seen_at c.self.inside.storage in
    let more = c.if-self-lt2.false in
    let rest = (step_index-first at _ _ c.self.inside.left (omega (arith, more)) c.self.invariant).1 in
    let last = (step_index-first at _ _ (c.self.inside.left - 1) (omega (arith, more)) rest).1 in
    let many : c.self.inside.left - 1 - 1 ≡ c.self.inside.left - 2 = omega arith in
    subst (λ n. HaveElements at (places_from ((c.self.inside.place + (c.self.inside.step + c.self.inside.step) % 2 ^ 64) % 2 ^ 64) c.self.inside.step n)) many
    (subst (λ p. HaveElements at (places_from p c.self.inside.step (c.self.inside.left - 1 - 1))) (both c.self.inside.place c.self.inside.step) last)

pub returns : goal.returns
returns g c =
    let at = seen_at c.self.inside.storage in
    let p = c.self.inside.place in
    let s = c.self.inside.step in
    let n = c.self.inside.left in
    let more = c.if-self-lt2.false in
    let many : n - 1 - 1 ≡ n - 2 = omega arith in
    sym c.self.view_is
    ∙ (step_index-next at p s n _ (omega (arith, more)) c.get.ensures
    ∙ ap (λ l. c.get.result.now ∷ l)
    (step_index-next at ((p + s) % 2 ^ 64) s (n - 1) _ (omega (arith, more)) c.get-2.ensures
    ∙ (ap (λ q. c.get-2.result.now ∷ filter_map at (places_from q s (n - 1 - 1))) (both p s)
    ∙ ap (λ k. c.get-2.result.now ∷ filter_map at (places_from ((p + (s + s) % 2 ^ 64) % 2 ^ 64) s k)) many)))
