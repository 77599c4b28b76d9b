-- Two iterators that `zip` steps together, each with a list of items to come: the pairs to come.
use Rattle.std.proofs.Common.{◌≡◌, ◌∙◌, ◌⊎◌, List, [], ◌∷◌, ap, inl, inr, refl}
use Rattle.std.specs.List.{zip}
pub use Rattle.std.proofs.lemmas.Slice.Zip.{length-zip}

-- both give an item
pub zip-next : {A B : Type 0} {xs next : List A} {ys others : List B} {x : A} {y : B} → (xs ≡ x ∷ next) × (ys ≡ y ∷ others) → zip xs ys ≡ (x, y) ∷ zip next others
zip-next {next = next} {ys} {x = x} e = ap (λ l. zip l ys) e.0 ∙ ap (zip (x ∷ next)) e.1

none-second : {A B : Type 0} (xs : List A) (ys : List B) → ys ≡ [] → zip xs ys ≡ []
none-second [] ys e = refl
none-second (x ∷ xs) ys e = ap (zip (x ∷ xs)) e

-- one of them is at its end
pub zip-over : {A B U V : Type 0} {P : U → Type 0} {Q : V → Type 0} {xs : List A} {ys : List B} → ((u : U) × ((xs ≡ []) × P u)) ⊎ ((v : V) × ((ys ≡ []) × Q v)) → zip xs ys ≡ []
zip-over {ys = ys} (inl w) = ap (λ l. zip l ys) w.1.0
zip-over {xs = xs} {ys} (inr w) = none-second xs ys w.1.0
