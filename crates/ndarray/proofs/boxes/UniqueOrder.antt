-- There is one list that is a box in a given order.
use Rattle.std.proofs.Common.{◌≡◌, ℕ, List, [], ◌∷◌, reverse, refl, sym, ◌∙◌, arith, subst, inl, inr}
use Rattle.std.specs.Prelude.{AllPairs, Contains}
use Rattle.std.proofs.lemmas.List.Elements.{All-contains}
use Rattle.ndarray.specs.Index.{InBox, IsBefore, IsBeforeFromLast, IsOrderOf}
use Rattle.ndarray.specs.Orders.{IsBoxIn}
use Rattle.ndarray.specs.declared.base.shape.Order.{Order}
use Rattle.ndarray.specs.declared.base.shape.Order.TheVariants.{RowMajor, ColumnMajor}
use Rattle.ndarray.proofs.lists.Pairs.{Contains-cases, Contains-later, Contains-first, AllPairs-head, AllPairs-tail}

-- lists that rise by one order and hold the same are equal
module _ {X : Type 0} (R : X → X → Type 0) (both : (x y : X) → R x y → R y x → ⊥) where
  -- of two such lists, what stands later in the one stands later in the other
  same_tails : (x y : X) (xs ys : List X) → x ≡ y → AllPairs R (x ∷ xs) → ((z : X) → Contains (x ∷ xs) z → Contains (y ∷ ys) z) → (z : X) → Contains xs z → Contains ys z
  same_tails x y xs ys e up f z c =
      elim (Contains-cases y ys z (f z (Contains-later x xs z c))) [
        | inl here ↦ (let r = AllPairs-head R x xs z up c in let s : R z z = subst (λ w. R w z) (e ∙ here) r in absurd (both z z s s))
        | inr later ↦ later
      ]

  same_rising : (xs ys : List X) → AllPairs R xs → AllPairs R ys → ((z : X) → Contains xs z → Contains ys z) → ((z : X) → Contains ys z → Contains xs z) → xs ≡ ys
  same_rising [] [] up vp f g = refl
  same_rising [] (y ∷ ys) up vp f g = absurd (omega (arith, (g y (Contains-first y ys)).1))
  same_rising (x ∷ xs) [] up vp f g = absurd (omega (arith, (f x (Contains-first x xs)).1))
  same_rising (x ∷ xs) (y ∷ ys) up vp f g =
      let e : x ≡ y =
      elim (Contains-cases y ys x (f x (Contains-first x xs))) [
        | inl e ↦ sym e
        | inr in-ys ↦ elim (Contains-cases x xs y (g y (Contains-first y ys))) [
          | inl e ↦ e
          | inr in-xs ↦ absurd (both x y (AllPairs-head R x xs y up in-xs) (AllPairs-head R y ys x vp in-ys))
        ]
      ] in
      let tails = same_rising xs ys (AllPairs-tail R x xs up) (AllPairs-tail R y ys vp) (same_tails x y xs ys e up f) (same_tails y x ys xs (sym e) vp g) in
      cc

module _ (R : List ℕ → List ℕ → Type 0) (both : (x y : List ℕ) → R x y → R y x → ⊥) where
  order-unique : (ns : List ℕ) (xs ys : List (List ℕ)) → IsOrderOf R ns xs → IsOrderOf R ns ys → xs ≡ ys
  order-unique ns xs ys p q =
      same_rising R both xs ys p.rising q.rising
      (λ z h. q.whole z (All-contains (InBox ns) xs z p.within h))
      (λ z h. p.whole z (All-contains (InBox ns) ys z q.within h))

IsBefore-one_way : (is js : List ℕ) → IsBefore is js → IsBefore js is → ⊥
IsBefore-one_way [] js p q = p
IsBefore-one_way (i ∷ is) [] p q = p
IsBefore-one_way (i ∷ is) (j ∷ js) p q =
    elim p [
      | inl a ↦ elim q [ inl b ↦ omega (arith, a, b) | inr b ↦ omega (arith, a, b.0) ]
      | inr a ↦ elim q [ inl b ↦ omega (arith, a.0, b) | inr b ↦ IsBefore-one_way is js a.1 b.1 ]
    ]

pub box_in-unique : (o : Order) (ns : List ℕ) (xs ys : List (List ℕ)) → IsBoxIn o ns xs → IsBoxIn o ns ys → xs ≡ ys
box_in-unique RowMajor = order-unique IsBefore IsBefore-one_way
box_in-unique ColumnMajor = order-unique IsBeforeFromLast (λ is js. IsBefore-one_way (reverse is) (reverse js))
