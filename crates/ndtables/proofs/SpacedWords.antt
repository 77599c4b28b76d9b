-- Texts that are words with white space between them.
use Rattle.std.proofs.Common.{◌≡◌, ◌∙◌, ◌++◌, ◌∷◌, [], ◌<◌, ℕ, List, false, ap, append-nil, append_assoc, arith, length, refl, subst, sym}
use Rattle.std.specs.Prelude.{⊤, All, flat_map}
use Rattle.std.specs.Char.{is_ascii_whitespace}
use Rattle.std.specs.List.{filter, join_by, slice_split}
use Rattle.std.proofs.lemmas.List.Elements.{All-head, All-tail, All-cons, All-nil}
use Rattle.std.proofs.lemmas.List.Splits.{slice_split_at, slice_split_none}
use Rattle.ndtables.specs.Words.{words_of}
use Rattle.ndtables.proofs.TextWords.{IsBlank, some, words-behind, words-one}

-- a byte that is no white space
abbrev pub IsInWord : ℕ → Type 0
IsInWord b = is_ascii_whitespace b ≡ false

-- the text is empty or begins with white space
abbrev pub StartsBlank : List ℕ → Type 0
StartsBlank [] = ⊤
StartsBlank (b ∷ bs) = IsBlank b

-- the text's words, and then those of what is behind it
abbrev pub Spells : List ℕ → List (List ℕ) → Type 0
Spells text words = (rest : List ℕ) → StartsBlank rest → words_of (text ++ rest) ≡ words ++ words_of rest

pub spells-all : (text : List ℕ) (words : List (List ℕ)) → Spells text words → words_of text ≡ words
spells-all text words s = ap words_of (sym (append-nil text)) ∙ (s [] tt ∙ append-nil words)

pub spells-none : Spells [] []
spells-none rest blank = refl

pub blank-first : (b : ℕ) (rest : List ℕ) → IsBlank b → words_of (b ∷ rest) ≡ words_of rest
blank-first b rest blank = words-behind (b ∷ []) rest (All-cons IsBlank b [] blank (All-nil IsBlank))

pub spells-word : (x : List ℕ) → 0 < length x → All IsInWord x → Spells x (x ∷ [])
spells-word x lt none [] blank = ap words_of (append-nil x) ∙ (ap (filter some) (slice_split_none is_ascii_whitespace x none) ∙ words-one x [] lt)
spells-word x lt none (b ∷ rest) blank =
    ap (filter some) (slice_split_at is_ascii_whitespace x b rest none blank)
    ∙ (words-one x (slice_split is_ascii_whitespace rest) lt ∙ ap (λ ws. x ∷ ws) (sym (blank-first b rest blank)))

pub spells-behind : (gap text : List ℕ) (words : List (List ℕ)) → All IsBlank gap → Spells text words → Spells (gap ++ text) words
spells-behind gap text words blank s rest starts = ap words_of (append_assoc gap text rest) ∙ (words-behind gap (text ++ rest) blank ∙ s rest starts)

starts-both : (a b : List ℕ) → StartsBlank a → StartsBlank b → StartsBlank (a ++ b)
starts-both [] b starts then = then
starts-both (x ∷ a) b starts then = starts

pub spells-both : (a b : List ℕ) (ws vs : List (List ℕ)) → Spells a ws → Spells b vs → StartsBlank b → Spells (a ++ b) (ws ++ vs)
spells-both a b ws vs s t starts rest blank =
    ap words_of (append_assoc a b rest)
    ∙ (s (b ++ rest) (starts-both b rest starts blank)
    ∙ (ap (λ us. ws ++ us) (t rest blank) ∙ sym (append_assoc ws vs (words_of rest))))

module _ {X : Type 0} (f : X → List ℕ) (g : X → List (List ℕ)) (sep : List ℕ) (blank : All IsBlank sep) (some_bytes : 0 < length sep) where
  starts-sep : (sp text : List ℕ) → All IsBlank sp → 0 < length sp → StartsBlank (sp ++ text)
  starts-sep [] text all lt = absurd (omega (arith, lt))
  starts-sep (b ∷ sp) text all lt = All-head IsBlank b sp all

  starts-more : (xs : List X) → StartsBlank (flat_map (λ y. sep ++ f y) xs)
  starts-more [] = tt
  starts-more (x ∷ xs) = subst StartsBlank (sym (append_assoc sep (f x) (flat_map (λ y. sep ++ f y) xs))) (starts-sep sep (f x ++ flat_map (λ y. sep ++ f y) xs) blank some_bytes)

  spells-more : (xs : List X) → All (λ x. Spells (f x) (g x)) xs → Spells (flat_map (λ y. sep ++ f y) xs) (flat_map g xs)
  spells-more [] all = spells-none
  spells-more (x ∷ xs) all =
      spells-both (sep ++ f x) (flat_map (λ y. sep ++ f y) xs) (g x) (flat_map g xs)
      (spells-behind sep (f x) (g x) blank (All-head (λ x. Spells (f x) (g x)) x xs all))
      (spells-more xs (All-tail (λ x. Spells (f x) (g x)) x xs all))
      (starts-more xs)

  -- texts with white space between each two
  pub spells-joined : (xs : List X) → All (λ x. Spells (f x) (g x)) xs → Spells (join_by f sep xs) (flat_map g xs)
  spells-joined [] all = spells-none
  spells-joined (x ∷ xs) all =
      spells-both (f x) (flat_map (λ y. sep ++ f y) xs) (g x) (flat_map g xs)
      (All-head (λ x. Spells (f x) (g x)) x xs all)
      (spells-more xs (All-tail (λ x. Spells (f x) (g x)) x xs all))
      (starts-more xs)
