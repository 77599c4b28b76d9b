-- Words come off a text one after the other.
use Rattle.std.proofs.Common.{◌≡◌, ◌∙◌, ◌++◌, ◌∷◌, [], ◌<◌, ◌≤◌, ℕ, List, Bool, true, false, None, Some, ap, append-nil, arith, get_or, ⊎_elim, length, refl, subst, sym}
use Rattle.std.specs.Prelude.{All, nat_lt}
use Rattle.std.specs.Char.{is_ascii_whitespace}
use Rattle.std.specs.List.{filter, slice_split}
use Rattle.std.specs.Str.{NoCharPasses}
use Rattle.std.specs.Str.Iter.{IsAsciiSeparator, split_ascii_whitespace_steps, split_ascii_whitespace_text}
use Rattle.std.specs.declared.str.SplitAsciiWhitespace.{SplitAscii}
use Rattle.std.proofs.lemmas.Bool.{cases_lt}
use Rattle.std.proofs.lemmas.Bool.Decides.{nat_tests}
use Rattle.std.proofs.lemmas.List.{nil_from_length}
use Rattle.std.proofs.lemmas.List.Elements.{All-from_get_or, All-head, All-tail}
use Rattle.std.proofs.lemmas.List.Splits.{slice_split-cons_yes, slice_split_at, slice_split_none}
use Rattle.std.proofs.lemmas.Iterator.{YieldsList}
use Rattle.std.proofs.lemmas.Iterator.Consumers.{YieldsList-from_shown}
use Rattle.std.proofs.lemmas.Str.{NoCharPasses-byte}
use Rattle.ndtables.specs.Words.{words_of}

abbrev pub IsBlank : ℕ → Type 0
IsBlank b = is_ascii_whitespace b ≡ true

abbrev pub some : List ℕ → Bool
some piece = nat_lt 0 (length piece)

pub words-behind : (gap bs : List ℕ) → All IsBlank gap → words_of (gap ++ bs) ≡ words_of bs
words-behind [] bs blank = refl
words-behind (b ∷ gap) bs blank = ap (filter some) (slice_split-cons_yes is_ascii_whitespace b (gap ++ bs) (All-head IsBlank b gap blank)) ∙ words-behind gap bs (All-tail IsBlank b gap blank)

pub words-blank : (bs : List ℕ) → All IsBlank bs → words_of bs ≡ []
words-blank [] blank = refl
words-blank (b ∷ bs) blank = ap (filter some) (slice_split-cons_yes is_ascii_whitespace b bs (All-head IsBlank b bs blank)) ∙ words-blank bs (All-tail IsBlank b bs blank)

high-byte : (b : ℕ) → 128 ≤ b → is_ascii_whitespace b ≡ false
high-byte b high = grind (arith, nat_tests)

no-blank : (x : List ℕ) → NoCharPasses is_ascii_whitespace x → All (λ b. is_ascii_whitespace b ≡ false) x
no-blank x none = All-from_get_or (λ b. is_ascii_whitespace b ≡ false) x 0 (λ k lt. ⊎_elim (λ low. NoCharPasses-byte is_ascii_whitespace x k none lt low) (λ high. high-byte (get_or x k 0) high) (cases_lt (get_or x k 0) 128))

pub words-one : (x : List ℕ) (pieces : List (List ℕ)) → 0 < length x → filter some (x ∷ pieces) ≡ x ∷ filter some pieces
words-one [] pieces lt = absurd (omega (arith, lt))
words-one (b ∷ x) pieces lt = let yes : nat_lt 0 (length (b ∷ x)) ≡ true = grind (arith, nat_tests) in rw yes refl

words-first : (x sep rest : List ℕ) → 0 < length x → NoCharPasses is_ascii_whitespace x → IsAsciiSeparator sep rest → words_of (x ++ (sep ++ rest)) ≡ x ∷ words_of rest
words-first x [] rest lt none (blank, one, ends) =
    let over : rest ≡ [] = nil_from_length rest (ends refl) in
    ap (λ r. words_of (x ++ r)) over
    ∙ (ap words_of (append-nil x) ∙ (ap (filter some) (slice_split_none is_ascii_whitespace x (no-blank x none)) ∙ (words-one x [] lt ∙ ap (λ r. x ∷ words_of r) (sym over))))
words-first x (b ∷ []) rest lt none (blank, one, ends) =
    ap (filter some) (slice_split_at is_ascii_whitespace x b rest (no-blank x none) (All-head IsBlank b [] blank)) ∙ words-one x (slice_split is_ascii_whitespace rest) lt
words-first x (b ∷ c ∷ sep) rest lt none (blank, one, ends) = absurd (omega (arith, one))

-- one word comes off the text, or only white space is left
pub words-step : (s t : SplitAscii) (x : _) → split_ascii_whitespace_steps s (Some x) t → words_of (split_ascii_whitespace_text s) ≡ x.now ∷ words_of (split_ascii_whitespace_text t)
words-step s t x (some_bytes, none, shorter, cut) =
    let (gap, sep, laid, blank, apart) = cut in
    ap words_of laid ∙ (words-behind gap _ blank ∙ words-first x.now sep (split_ascii_whitespace_text t) some_bytes none apart)

pub words-end : (s t : SplitAscii) → split_ascii_whitespace_steps s None t → words_of (split_ascii_whitespace_text s) ≡ []
words-end s t (blank, none) = words-blank (split_ascii_whitespace_text s) blank

-- the words of a text are what its iterator gives
pub words-given : (s : SplitAscii) (text : List ℕ) → split_ascii_whitespace_text s ≡ text → YieldsList split_ascii_whitespace_steps (λ x. x.now) s (words_of text)
words-given s text e =
    subst (λ t. YieldsList split_ascii_whitespace_steps (λ x. x.now) s (words_of t)) e
    (YieldsList-from_shown split_ascii_whitespace_steps (λ x. x.now) (λ t. words_of (split_ascii_whitespace_text t)) (λ t u k. ap length (words-end t u k)) (λ t x u k. words-step t u x k) s)
