-- The greatest number of a list: a bound of it, and one of its elements.
use Rattle.std.proofs.Common.{◌≡◌, ◌∙◌, ◌<◌, ◌≤◌, ◌⊎◌, inl, inr, ℕ, List, [], ◌∷◌, arith, length, max, sym}
use Rattle.std.specs.Prelude.{All, Contains}
use Rattle.std.specs.List.{fold}
use Rattle.std.proofs.lemmas.List.Elements.{All-cons, All-nil, Contains-append_right}
use Rattle.std.proofs.lemmas.Bool.{cases_lt}

pub greatest-bounds : (xs : List ℕ) (a r : ℕ) → r ≡ fold max a xs → (a ≤ r) × All (λ x. x ≤ r) xs
greatest-bounds [] a r e = (omega (arith, e), All-nil (λ x. x ≤ r))
greatest-bounds (x ∷ xs) a r e =
    let h = greatest-bounds xs (max a x) r e in
    let top = h.0 in
    (omega (arith, top), All-cons (λ y. y ≤ r) x xs (omega (arith, top)) h.1)

one-of-both : (a x : ℕ) → (max a x ≡ a) ⊎ (max a x ≡ x)
one-of-both a x =
    elim (cases_lt a x) [
      | inl lt ↦ inr (omega (arith, lt))
      | inr le ↦ inl (omega (arith, le))
    ]

reached : (xs : List ℕ) (a r : ℕ) → r ≡ fold max a xs → (r ≡ a) ⊎ Contains xs r
reached [] a r e = inl e
reached (x ∷ xs) a r e =
    elim (reached xs (max a x) r e) [
      | inl p ↦
          elim (one-of-both a x) [
            | inl q ↦ inl (p ∙ q)
            | inr q ↦ inr (0, omega arith, sym (p ∙ q))
          ]
      | inr h ↦ inr (Contains-append_right (x ∷ []) xs r h)
    ]

pub greatest-reached : (xs : List ℕ) → 0 < length xs → (r : ℕ) → r ≡ fold max 0 xs → Contains xs r
greatest-reached [] some r e = absurd (omega (arith, some))
greatest-reached (x ∷ xs) some r e =
    elim (reached (x ∷ xs) 0 r e) [
      | inl none ↦
          let top = (greatest-bounds xs (max 0 x) r e).0 in
          (0, omega arith, omega (arith, none, top))
      | inr h ↦ h
    ]
