-- What stands beside an index list, of two lists side by side.
use Rattle.std.proofs.Common.{◌≡◌, ℕ, ◌<◌, ◌≢◌, suc, zero, List, [], ◌∷◌, Some, None, length, get_or, true, false, refl, sym, ◌∙◌, arith, subst, inl, inr}
use Rattle.std.specs.Prelude.{AllPairs, Contains, slice_get, nat_eq}
use Rattle.std.proofs.lemmas.Bool.{eq-eqb, eqb-true, and_from, and_parts, cases_Bool, false_from_ne_true}
use Rattle.std.proofs.lemmas.List.Elements.{Contains-get_or}
use Rattle.std.proofs.lemmas.Option.{none-some}
use Rattle.ndarray.specs.Grid.{same_index, beside}
use Rattle.ndarray.proofs.lists.Pairs.{Contains-cases, Contains-later, AllPairs-head, AllPairs-tail}

pub same_index-refl : (is : List ℕ) → same_index is is ≡ true
same_index-refl [] = refl
same_index-refl (i ∷ is) = and_from (nat_eq i i) (same_index is is) (eq-eqb i i refl) (same_index-refl is)

pub same_index-true : (is js : List ℕ) → same_index is js ≡ true → is ≡ js
same_index-true [] [] h = refl
same_index-true [] (j ∷ js) h = cc
same_index-true (i ∷ is) [] h = cc
same_index-true (i ∷ is) (j ∷ js) h =
    let p = and_parts (nat_eq i j) (same_index is js) h in
    let e = eqb-true i j p.0 in
    let e2 = same_index-true is js p.1 in
    cc

pub same_index-false : (is js : List ℕ) → is ≢ js → same_index is js ≡ false
same_index-false is js h = false_from_ne_true (same_index is js) (λ e. h (same_index-true is js e))

module _ {A : Type 0} where
  beside-here : (is : List ℕ) (jss : List (List ℕ)) (x : A) (xs : List A) → beside (is ∷ jss) (x ∷ xs) is ≡ Some x
  beside-here is jss x xs = rw same_index-refl

  beside-later : (js : List ℕ) (jss : List (List ℕ)) (x : A) (xs : List A) (is : List ℕ) → js ≢ is → beside (js ∷ jss) (x ∷ xs) is ≡ beside jss xs is
  beside-later js jss x xs is h = let e = same_index-false js is h in rw e

  -- at the k-th index list, of which none comes twice, stands the k-th element
  pub beside-at : (R : List ℕ → List ℕ → Type 0) → ((is : List ℕ) → R is is → ⊥) → (jss : List (List ℕ)) (xs : List A) (k : ℕ) (d : List ℕ) → AllPairs R jss → length xs ≡ length jss → k < length jss → beside jss xs (get_or jss k d) ≡ slice_get xs k
  beside-at R none [] xs k d up same lt = absurd (omega arith)
  beside-at R none (js ∷ jss) [] k d up same lt = absurd (omega arith)
  beside-at R none (js ∷ jss) (x ∷ xs) zero d up same lt = beside-here js jss x xs
  beside-at R none (js ∷ jss) (x ∷ xs) (suc k) d up same lt =
      let lt2 : k < length jss = omega arith in
      let r = AllPairs-head R js jss (get_or jss k d) up (Contains-get_or jss k d lt2) in
      beside-later js jss x xs (get_or jss k d) (λ e. none js (subst (R js) (sym e) r))
      ∙ beside-at R none jss xs k d (AllPairs-tail R js jss up) (omega arith) lt2

  -- beside an index list that is not of the first list stands nothing
  pub beside-none : (jss : List (List ℕ)) (xs : List A) (is : List ℕ) → (Contains jss is → ⊥) → beside jss xs is ≡ None
  beside-none [] xs is h = refl
  beside-none (js ∷ jss) [] is h = refl
  beside-none (js ∷ jss) (x ∷ xs) is h =
      beside-later js jss x xs is (λ e. h (0, omega arith, e))
      ∙ beside-none jss xs is (λ c. h (Contains-later js jss is c))

  -- beside an index list of the first list stands an element of the second, which is as long
  pub beside-some : (jss : List (List ℕ)) (xs : List A) (is : List ℕ) → length xs ≡ length jss → Contains jss is → (x : A) × (beside jss xs is ≡ Some x)
  beside-some [] xs is same c = absurd (omega (arith, c.1))
  beside-some (js ∷ jss) [] is same c = absurd (omega arith)
  beside-some (js ∷ jss) (x ∷ xs) is same c =
      elim (Contains-cases js jss is c) [
        | inl e ↦ (x, subst (λ z. beside (js ∷ jss) (x ∷ xs) z ≡ Some x) e (beside-here js jss x xs))
        | inr later ↦ elim (cases_Bool (same_index js is)) [
          | inl e ↦ (x, rw e)
          | inr e ↦ (let r = beside-some jss xs is (omega arith) later in (r.0, rw e r.1))
        ]
      ]

  -- what is beside an index list is beside one of the first list
  pub beside-contains : (jss : List (List ℕ)) (xs : List A) (is : List ℕ) (x : A) → beside jss xs is ≡ Some x → Contains jss is
  beside-contains [] xs is x e = absurd (none-some x e)
  beside-contains (js ∷ jss) [] is x e = absurd (none-some x e)
  beside-contains (js ∷ jss) (y ∷ xs) is x e =
      elim (cases_Bool (same_index js is)) [
        | inl s ↦ (0, omega arith, same_index-true js is s)
        | inr s ↦ Contains-later js jss is (beside-contains jss xs is x (rw s at e))
      ]
