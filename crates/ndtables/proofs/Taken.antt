-- What an iterator gave so far, and what it gives next, of all that it gives.
use Rattle.std.proofs.Common.{◌≡◌, ◌∙◌, ◌++◌, ◌∷◌, [], List, Option, None, Some, ap, map, append-nil, refl, subst, sym}
use Rattle.std.specs.Prelude.{All}
use Rattle.std.specs.Iterator.{AlwaysYields, Yields}
use Rattle.std.proofs.lemmas.Iterator.{YieldsList}
use Rattle.std.proofs.lemmas.List.{map-append}
use Rattle.std.proofs.lemmas.List.Elements.{All-head, All-tail, All-push}

module _ {S A B : Type 0} (steps : S → Option A → S → Type 0) (v : A → B) where
  to-come : (xs : List A) (all : List B) (s t : S) → AlwaysYields steps v s all → Yields steps s xs t → (more : List B) × (all ≡ map v xs ++ more) × AlwaysYields steps v t more
  to-come [] all s t gives taken = (all, refl, subst (λ u. AlwaysYields steps v u all) taken gives)
  to-come (x ∷ xs) [] s t gives (u, first, others) = absurd (gives x u first)
  to-come (x ∷ xs) (y ∷ ys) s t gives (u, first, others) =
      let (same, after) = gives.1 x u first in
      let (more, parts, still) = to-come xs ys u t after others in
      (more, ap (λ z. z ∷ ys) (sym same) ∙ ap (λ zs. v x ∷ zs) parts, still)

  -- it gave all
  pub taken-all : (xs : List A) (all : List B) (s t u : S) → YieldsList steps v s all → Yields steps s xs t → steps t None u → all ≡ map v xs
  taken-all xs all s t u road taken end =
      let (more, parts, still) = to-come xs all s t road.runs taken in
      parts ∙ none more still
    where
      none : (more : List B) → AlwaysYields steps v t more → map v xs ++ more ≡ map v xs
      none [] still = append-nil (map v xs)
      none (y ∷ ys) still = absurd (still.0 u end)

  -- one more is what comes next
  pub taken-next : (xs : List A) (all : List B) (s t u : S) (x : A) → YieldsList steps v s all → Yields steps s xs t → steps t (Some x) u → (rest : List B) × (all ≡ map v xs ++ v x ∷ rest)
  taken-next xs all s t u x road taken next =
      let (more, parts, still) = to-come xs all s t road.runs taken in
      one more parts still
    where
      one : (more : List B) → all ≡ map v xs ++ more → AlwaysYields steps v t more → (rest : List B) × (all ≡ map v xs ++ v x ∷ rest)
      one [] parts still = absurd (still x u next)
      one (y ∷ ys) parts still = (ys, parts ∙ ap (λ z. map v xs ++ z ∷ ys) (sym (still.1 x u next).0))

-- an element of a list that has the property
pub at-seam : {A : Type 0} (P : A → Type 0) (before after : List A) (x : A) → All P (before ++ x ∷ after) → P x
at-seam P [] after x all = All-head P x after all
at-seam P (y ∷ before) after x all = at-seam P before after x (All-tail P y (before ++ x ∷ after) all)

-- elements that were taken one by one, and their values
module _ {A B C : Type 0} (f : A → B) (seen : C → A) where
  pub values-more : (xs : List C) (ys : List B) (x : C) (y : B) → ys ≡ map f (map seen xs) → y ≡ f (seen x) → ys ++ y ∷ [] ≡ map f (map seen (xs ++ x ∷ []))
  values-more xs ys x y values value =
      ap (λ zs. zs ++ y ∷ []) values
      ∙ (ap (λ z. map f (map seen xs) ++ z ∷ []) value
      ∙ (sym (map-append f (map seen xs) (seen x ∷ [])) ∙ ap (map f) (sym (map-append seen xs (x ∷ [])))))

pub all-more : {A C : Type 0} (P : A → Type 0) (seen : C → A) (xs : List C) (x : C) → All P (map seen xs) → P (seen x) → All P (map seen (xs ++ x ∷ []))
all-more P seen xs x all last = subst (All P) (sym (map-append seen xs (x ∷ []))) (All-push P (map seen xs) (seen x) all last)
