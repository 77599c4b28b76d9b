-- Lists that hold the same, no element twice, are one another in another order. So are a box's two orders.
use Rattle.std.proofs.Common.{◌≡◌, ◌≢◌, ℕ, ◌+◌, ◌-◌, ◌<◌, List, [], ◌∷◌, length, get_or, reverse, remove, sym, ◌∙◌, ap, arith, subst, inl, inr}
use Rattle.std.specs.Prelude.{AllPairs, Contains, IsPermutation}
use Rattle.std.proofs.lemmas.Bool.{cases_lt}
use Rattle.std.proofs.lemmas.List.{get_or_default}
use Rattle.std.proofs.lemmas.List.Edits.{length-remove, get_or-remove_below, get_or-remove_above}
use Rattle.std.proofs.lemmas.List.Elements.{All-contains}
use Rattle.std.proofs.lemmas.List.Quantifiers.{all_pairs_remove}
use Rattle.std.proofs.lemmas.List.Sorted.{IsPermutation-refl, IsPermutation-cons, IsPermutation-remove, IsPermutation-sym, IsPermutation-trans}
use Rattle.ndarray.specs.Index.{InBox, IsBefore, IsBeforeFromLast, IsOrderOf, IsRowOrder}
use Rattle.ndarray.specs.Orders.{IsBoxIn}
use Rattle.ndarray.specs.declared.base.shape.Order.{Order}
use Rattle.ndarray.specs.declared.base.shape.Order.TheVariants.{RowMajor, ColumnMajor}
use Rattle.ndarray.proofs.boxes.Orders.{IsBefore-not_itself}
use Rattle.ndarray.proofs.lists.Pairs.{Contains-cases, Contains-first, Contains-later, AllPairs-head, AllPairs-tail, AllPairs-once}

module _ {X : Type 0} where
  -- what stands at another place stays when a place is taken out
  Contains-remove : (xs : List X) (k j : ℕ) (z : X) → k < length xs → j < length xs → j ≢ k → get_or xs j z ≡ z → Contains (remove xs k) z
  Contains-remove xs k j z hk hj other e =
      let l = length-remove xs k hk in
      elim (cases_lt j k) [
        | inl lt ↦ (j, omega arith, get_or-remove_below xs k z j lt hk ∙ e)
        | inr ge ↦ (let back : j ≡ j - 1 + 1 = omega arith in
            (j - 1, omega arith, get_or-remove_above xs k z (j - 1) (omega arith) hk ∙ (ap (λ i. get_or xs i z) (sym back) ∙ e)))
      ]

  -- what stays stood at another place
  Contains-removed : (xs : List X) (k : ℕ) (z : X) → k < length xs → Contains (remove xs k) z → (j : ℕ) × (j < length xs) × (j ≢ k) × (get_or xs j z ≡ z)
  Contains-removed xs k z hk (j, lt, e) =
      let l = length-remove xs k hk in
      elim (cases_lt j k) [
        | inl below ↦ (j, omega arith, omega arith, sym (get_or-remove_below xs k z j below hk) ∙ e)
        | inr above ↦ (j + 1, omega arith, omega arith, sym (get_or-remove_above xs k z j above hk) ∙ e)
      ]

  module _ (R S : X → X → Type 0) (r : (x : X) → R x x → ⊥) (s : (x : X) → S x x → ⊥) where
    pub rearranged : (xs ys : List X) → AllPairs R xs → AllPairs S ys → ((z : X) → Contains xs z → Contains ys z) → ((z : X) → Contains ys z → Contains xs z) → IsPermutation xs ys
    rearranged [] [] up vp f g = IsPermutation-refl []
    rearranged [] (y ∷ ys) up vp f g = absurd (omega (arith, (g y (Contains-first y ys)).1))
    rearranged (x ∷ xs) ys up vp f g =
        let at = f x (Contains-first x xs) in
        let k = at.0 in
        let rest = rearranged xs (remove ys k) (AllPairs-tail R x xs up) (all_pairs_remove S ys k at.1 vp)
        (λ z c.
        let b = f z (Contains-later x xs z c) in
        Contains-remove ys k b.0 z at.1 b.1
        (λ same.
        let here : get_or ys k z ≡ z = subst (λ i. get_or ys i z ≡ z) same b.2 in
        let e : z ≡ x = sym here ∙ (get_or_default ys k z x at.1 ∙ at.2) in
        r x (subst (R x) e (AllPairs-head R x xs z up c)))
        b.2)
        (λ z c.
        let b = Contains-removed ys k z at.1 c in
        elim (Contains-cases x xs z (g z (b.0, b.1, b.3))) [
          | inl e ↦ absurd (b.2 (AllPairs-once S s ys b.0 k z vp b.1 at.1 b.3 (subst (λ w. get_or ys k w ≡ w) e at.2)))
          | inr later ↦ later
        ]) in
        IsPermutation-trans (x ∷ xs) (x ∷ remove ys k) ys
        (IsPermutation-cons x xs (remove ys k) rest)
        (IsPermutation-sym ys (x ∷ remove ys k) (IsPermutation-remove ys k x at.1 (sym at.2)))

  module _ (R : X → X → Type 0) (r : (x : X) → R x x → ⊥) where
    -- of two lists as long, one without repeats whose elements are all in the other is that one rearranged
    pub rearranged-as_many : (xs ys : List X) → AllPairs R xs → length ys ≡ length xs → ((z : X) → Contains xs z → Contains ys z) → IsPermutation xs ys
    rearranged-as_many [] [] up l f = IsPermutation-refl []
    rearranged-as_many [] (y ∷ ys) up l f = absurd (omega arith)
    rearranged-as_many (x ∷ xs) ys up l f =
        let at = f x (Contains-first x xs) in
        let k = at.0 in
        let rest = rearranged-as_many xs (remove ys k) (AllPairs-tail R x xs up) (let m = length-remove ys k at.1 in omega arith)
        (λ z c.
        let b = f z (Contains-later x xs z c) in
        Contains-remove ys k b.0 z at.1 b.1
        (λ same.
        let here : get_or ys k z ≡ z = subst (λ i. get_or ys i z ≡ z) same b.2 in
        let e : z ≡ x = sym here ∙ (get_or_default ys k z x at.1 ∙ at.2) in
        r x (subst (R x) e (AllPairs-head R x xs z up c)))
        b.2) in
        IsPermutation-trans (x ∷ xs) (x ∷ remove ys k) ys
        (IsPermutation-cons x xs (remove ys k) rest)
        (IsPermutation-sym ys (x ∷ remove ys k) (IsPermutation-remove ys k x at.1 (sym at.2)))

-- a box in one order is the box in any other, rearranged
order-rearranges : (R S : List ℕ → List ℕ → Type 0) → ((is : List ℕ) → R is is → ⊥) → ((is : List ℕ) → S is is → ⊥) → (ns : List ℕ) (xs ys : List (List ℕ)) → IsOrderOf R ns xs → IsOrderOf S ns ys → IsPermutation xs ys
order-rearranges R S r s ns xs ys p q =
    rearranged R S r s xs ys p.rising q.rising
    (λ z h. q.whole z (All-contains (InBox ns) xs z p.within h))
    (λ z h. p.whole z (All-contains (InBox ns) ys z q.within h))

pub IsBoxIn-rearranges : (o : Order) (ns : List ℕ) (xs ys : List (List ℕ)) → IsRowOrder ns xs → IsBoxIn o ns ys → IsPermutation xs ys
IsBoxIn-rearranges RowMajor = order-rearranges IsBefore IsBefore IsBefore-not_itself IsBefore-not_itself
IsBoxIn-rearranges ColumnMajor = order-rearranges IsBefore IsBeforeFromLast IsBefore-not_itself (λ is. IsBefore-not_itself (reverse is))
