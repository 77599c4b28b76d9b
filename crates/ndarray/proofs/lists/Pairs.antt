-- Lists in which each element stands in a relation to all later ones.
use Rattle.std.proofs.Common.{◌≡◌, ℕ, ◌<◌, suc, zero, List, [], ◌∷◌, ◌⊎◌, length, map, get_or, arith, subst, sym, inl, inr, refl}
use Rattle.std.proofs.lemmas.List.{length-map, get_or-map}
use Rattle.std.specs.Prelude.{AllPairs, Contains}
use Rattle.std.proofs.lemmas.Bool.{cases_lt}

module _ {X : Type 0} where
  pub Contains-cases : (x : X) (xs : List X) (z : X) → Contains (x ∷ xs) z → (x ≡ z) ⊎ Contains xs z
  Contains-cases x xs z (zero, lt, e) = inl e
  Contains-cases x xs z (suc k, lt, e) = inr (k, omega arith, e)

  pub Contains-first : (x : X) (xs : List X) → Contains (x ∷ xs) x
  Contains-first x xs = (0, omega arith, refl)

  pub Contains-later : (x : X) (xs : List X) (z : X) → Contains xs z → Contains (x ∷ xs) z
  Contains-later x xs z (k, lt, e) = (suc k, omega arith, e)

  module _ (R : X → X → Type 0) where
    pub AllPairs-head : (x : X) (xs : List X) (z : X) → AllPairs R (x ∷ xs) → Contains xs z → R x z
    AllPairs-head x xs z up (k, lt, e) = let h : R x (get_or xs k z) = up 0 (suc k) z (omega arith) (omega arith) in subst (R x) e h

    pub AllPairs-tail : (x : X) (xs : List X) → AllPairs R (x ∷ xs) → AllPairs R xs
    AllPairs-tail x xs up i j d lt h = up (suc i) (suc j) d (omega arith) (omega arith)

    -- no element stands at two places
    pub AllPairs-once : ((x : X) → R x x → ⊥) → (xs : List X) (i j : ℕ) (z : X) → AllPairs R xs → i < length xs → j < length xs → get_or xs i z ≡ z → get_or xs j z ≡ z → i ≡ j
    AllPairs-once none xs i j z up hi hj ei ej =
        let twice = λ (a : ℕ) (b : ℕ) (lt : a < b) (hb : b < length xs) (ea : get_or xs a z ≡ z) (eb : get_or xs b z ≡ z). none z (subst (λ w. R w z) ea (subst (R (get_or xs a z)) eb (up a b z lt hb))) in
        elim (cases_lt i j) [
          | inl lt ↦ absurd (twice i j lt hj ei ej)
          | inr ge ↦ elim (cases_lt j i) [
            | inl lt ↦ absurd (twice j i lt hi ej ei)
            | inr le ↦ omega arith
          ]
        ]

-- in a mapped list they stand in it where the values of the function do
pub AllPairs-map : {X Y : Type 0} (R : Y → Y → Type 0) (f : X → Y) (xs : List X) → AllPairs (λ a b. R (f a) (f b)) xs → AllPairs R (map f xs)
AllPairs-map R f [] up i j d lt h = absurd (omega arith)
AllPairs-map R f (x ∷ xs) up i j d lt h =
    let l = length-map (x ∷ xs) f in
    let first : get_or (map f (x ∷ xs)) i d ≡ f (get_or (x ∷ xs) i x) = get_or-map f (x ∷ xs) i x d (omega arith) in
    let second : get_or (map f (x ∷ xs)) j d ≡ f (get_or (x ∷ xs) j x) = get_or-map f (x ∷ xs) j x d (omega arith) in
    subst (λ v. R v (get_or (map f (x ∷ xs)) j d)) (sym first) (subst (R (f (get_or (x ∷ xs) i x))) (sym second) (up i j x lt (omega arith)))
