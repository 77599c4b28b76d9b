-- What holds of the parts of a joined list, and what a mapped list has.
use Rattle.std.proofs.Common.{◌≡◌, ℕ, ◌<◌, suc, zero, Some, List, [], ◌∷◌, ◌++◌, ◌⊎◌, ◌∙◌, length, map, get_or, arith, ap, subst, sym, inl, inr, length-append}
use Rattle.std.specs.Option.{option_map}
use Rattle.std.specs.Prelude.{All, AllPairs, Contains, slice_get}
use Rattle.std.proofs.lemmas.Bool.{cases_eq}
use Rattle.std.proofs.lemmas.List.{length-map, get_or-map, get_or_append_left}
use Rattle.std.proofs.lemmas.List.Elements.{All-tail, Contains-append_right}
use Rattle.std.proofs.lemmas.Option.{get_or_from_slice_get, slice_get_within, slice_get-map}
use Rattle.ndarray.proofs.lists.Elements.{slice_get-Some}
use Rattle.ndarray.proofs.lists.Pairs.{AllPairs-head, AllPairs-tail, Contains-cases, Contains-later}

module _ {X : Type 0} where
  -- what holds of a joined list holds of each part
  module _ (P : X → Type 0) where
    pub All-first : (xs ys : List X) → All P (xs ++ ys) → All P xs
    All-first xs ys all k d lt = let l = length-append xs ys in subst P (get_or_append_left xs ys d k lt) (all k d (omega (arith, l, lt)))

    pub All-second : (xs ys : List X) → All P (xs ++ ys) → All P ys
    All-second [] ys all = all
    All-second (x ∷ xs) ys all = All-second xs ys (All-tail P x (xs ++ ys) all)

  -- so does a relation of each element to all later ones, which holds of each of the first and each of the second too
  module _ (R : X → X → Type 0) where
    pub AllPairs-first : (xs ys : List X) → AllPairs R (xs ++ ys) → AllPairs R xs
    AllPairs-first xs ys up i j d lt h =
        let l = length-append xs ys in
        let a = get_or_append_left xs ys d i (omega (arith, lt, h)) in
        let b = get_or_append_left xs ys d j h in
        subst (λ w. R w (get_or xs j d)) a (subst (R (get_or (xs ++ ys) i d)) b (up i j d lt (omega (arith, l, h))))

    pub AllPairs-second : (xs ys : List X) → AllPairs R (xs ++ ys) → AllPairs R ys
    AllPairs-second [] ys up = up
    AllPairs-second (x ∷ xs) ys up = AllPairs-second xs ys (AllPairs-tail R x (xs ++ ys) up)

    pub AllPairs-across : (xs ys : List X) (x y : X) → AllPairs R (xs ++ ys) → Contains xs x → Contains ys y → R x y
    AllPairs-across [] ys x y up (k, lt, e) c = absurd (omega (arith, lt))
    AllPairs-across (z ∷ xs) ys x y up (zero, lt, e) c = subst (λ w. R w y) e (AllPairs-head R z (xs ++ ys) y up (Contains-append_right xs ys y c))
    AllPairs-across (z ∷ xs) ys x y up (suc k, lt, e) c = AllPairs-across xs ys x y (AllPairs-tail R z (xs ++ ys) up) (k, omega (arith, lt), e) c

  module _ {Y : Type 0} (f : X → Y) (xs : List X) where
    -- what a mapped list has comes from an element
    pub slice_get-map_back : (k : ℕ) (y : Y) → slice_get (map f xs) k ≡ Some y → (x : X) × (slice_get xs k ≡ Some x) × (f x ≡ y)
    slice_get-map_back k y e =
        let l = length-map xs f in
        let within = slice_get_within (map f xs) k y e in
        let (x, there) = slice_get-Some xs k (omega (arith, l, within)) in
        let both : Some (f x) ≡ Some y = ap (option_map f) (sym there) ∙ (sym (slice_get-map f xs k) ∙ e) in
        (x, there, cc)

    pub Contains-map : (x : X) → Contains xs x → Contains (map f xs) (f x)
    Contains-map x (k, lt, e) = let l = length-map xs f in (k, omega (arith, l, lt), get_or-map f xs k x (f x) lt ∙ ap f e)

    pub Contains-map_back : (y : Y) → Contains (map f xs) y → (x : X) × Contains xs x × (f x ≡ y)
    Contains-map_back y (k, lt, e) =
        let l = length-map xs f in
        let within : k < length xs = omega (arith, l, lt) in
        let (x, there) = slice_get-Some xs k within in
        let own : get_or xs k x ≡ x = get_or_from_slice_get xs k x x there in
        (x, (k, within, own), ap f (sym own) ∙ (sym (get_or-map f xs k x y within) ∙ e))

pub Contains-or_not : (xs : List ℕ) (x : ℕ) → Contains xs x ⊎ (Contains xs x → ⊥)
Contains-or_not [] x = inr (λ c. let lt = c.1 in absurd (omega (arith, lt)))
Contains-or_not (y ∷ xs) x = elim (cases_eq y x) [
  | inl e ↦ inl (0, omega arith, e)
  | inr ne ↦ elim (Contains-or_not xs x) [
    | inl c ↦ inl (Contains-later y xs x c)
    | inr none ↦ inr (λ c. elim (Contains-cases y xs x c) [ inl e ↦ ne e | inr d ↦ none d ])
  ]
]
