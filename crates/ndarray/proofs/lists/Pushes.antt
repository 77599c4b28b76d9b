-- Elements that are pushed one after another, or some at a time, in the values that are known of them: those so far, with those to come, are the whole.
use Rattle.std.proofs.Common.{◌≡◌, ◌∙◌, ◌+◌, ◌<◌, ◌≤◌, List, [], ◌∷◌, ◌++◌, ap, append-nil, append_assoc, arith, length, map, suc, sym}
use Rattle.std.specs.Prelude.{flat_map}
use Rattle.std.proofs.lemmas.List.{length-append, length-map, map-append}

module _ {A C X : Type 0} (value : A → C) (whole : List C) (cells : List A) (now rest : List X) (x : X) (first : now ≡ x ∷ rest) where
  module _ (f : X → C) (so_far : map value cells ++ map f now ≡ whole) where
    pub one-pushed : (z : A) → value z ≡ f x → map value (cells ++ z ∷ []) ++ map f rest ≡ whole
    one-pushed z is =
        ap (λ l. l ++ map f rest) (map-append value cells (z ∷ []))
        ∙ (append_assoc (map value cells) (value z ∷ []) (map f rest)
        ∙ (ap (λ c. map value cells ++ c ∷ map f rest) is ∙ (ap (λ l. map value cells ++ map f l) (sym first) ∙ so_far)))

    pub one-room : length cells < length whole
    one-room =
        let all = ap length so_far in
        let both = length-append (map value cells) (map f now) in
        let pushed = length-map cells value in
        let left : length (map f now) ≡ suc (length (map f rest)) = ap (λ l. length (map f l)) first in
        omega (arith, all, both, pushed, left)

  module _ (g : X → List C) (so_far : map value cells ++ flat_map g now ≡ whole) where
    pub some-pushed : (more : List A) → map value more ≡ map value cells ++ g x → map value more ++ flat_map g rest ≡ whole
    some-pushed more is =
        ap (λ l. l ++ flat_map g rest) is
        ∙ (append_assoc (map value cells) (g x) (flat_map g rest) ∙ (ap (λ l. map value cells ++ flat_map g l) (sym first) ∙ so_far))

    pub some-room : length cells + length (g x) ≤ length whole
    some-room =
        let all = ap length so_far in
        let both = length-append (map value cells) (flat_map g now) in
        let pushed = length-map cells value in
        let left : length (flat_map g now) ≡ length (g x) + length (flat_map g rest) = ap (λ l. length (flat_map g l)) first ∙ length-append (g x) (flat_map g rest) in
        omega (arith, all, both, pushed, left)

-- with none to come, what was pushed has the values of the whole
pub all-pushed : {A C X : Type 0} (value : A → C) (sums : X → List C) (cells : List A) (rows : List X) (entries : List C) → rows ≡ [] → map value cells ++ flat_map sums rows ≡ entries → map value cells ≡ entries
all-pushed value sums cells rows entries none values = sym (append-nil (map value cells)) ∙ (ap (λ l. map value cells ++ flat_map sums l) (sym none) ∙ values)
