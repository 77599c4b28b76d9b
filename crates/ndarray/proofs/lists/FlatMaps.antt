-- Lists of lists, one after another.
use Rattle.std.proofs.Common.{◌≡◌, ◌∙◌, List, [], ◌∷◌, ◌++◌, All, ap, map, refl}
use Rattle.std.specs.List.{AllByRecursion}
use Rattle.std.specs.Prelude.{flat_map}
use Rattle.std.proofs.lemmas.List.{map-append}
use Rattle.std.proofs.lemmas.Grind.{flat_map-append}
use Rattle.ndarray.proofs.lists.Elements.{All-to_recursion}

pub map-flat_map : {X Y Z : Type 0} (f : Y → Z) (g : X → List Y) (xs : List X) → map f (flat_map g xs) ≡ flat_map (λ x. map f (g x)) xs
map-flat_map f g [] = refl
map-flat_map f g (x ∷ xs) = map-append f (g x) (flat_map g xs) ∙ ap (λ l. map f (g x) ++ l) (map-flat_map f g xs)

pub flat_map-flat_map : {X Y Z : Type 0} (f : Y → List Z) (g : X → List Y) (xs : List X) → flat_map f (flat_map g xs) ≡ flat_map (λ x. flat_map f (g x)) xs
flat_map-flat_map f g [] = refl
flat_map-flat_map f g (x ∷ xs) = flat_map-append f (g x) (flat_map g xs) ∙ ap (λ l. flat_map f (g x) ++ l) (flat_map-flat_map f g xs)

module _ {X Y : Type 0} (f h : X → List Y) where
  pub flat_map-same : ((x : X) → f x ≡ h x) → (xs : List X) → flat_map f xs ≡ flat_map h xs
  flat_map-same same [] = refl
  flat_map-same same (x ∷ xs) = ap (λ l. l ++ flat_map f xs) (same x) ∙ ap (λ l. h x ++ l) (flat_map-same same xs)

  module _ (P : X → Type 0) (same : (x : X) → P x → f x ≡ h x) where
    agree : (xs : List X) → AllByRecursion P xs → flat_map f xs ≡ flat_map h xs
    agree [] all = refl
    agree (x ∷ xs) all = ap (λ l. l ++ flat_map f xs) (same x all.0) ∙ ap (λ l. h x ++ l) (agree xs all.1)

    pub flat_map-same_where : (xs : List X) → All P xs → flat_map f xs ≡ flat_map h xs
    flat_map-same_where xs all = agree xs (All-to_recursion P xs all)
