-- Words that are read one after the other.
use Rattle.std.proofs.Common.{◌≡◌, ℕ, zero, suc, ◌<◌, ℤ, List, [], ◌∷◌, ◌++◌, length, take, get_or, map, refl, sym, ap, ◌∙◌, append_assoc, subst, arith}
use Rattle.std.specs.Prelude.{All}
use Rattle.std.proofs.lemmas.List.{length-map, map-append}
use Rattle.std.specs.Str.Parse.{signed_digits_value}
use Rattle.std.proofs.lemmas.List.Elements.{All-nil, All-push}
use Rattle.ndtables.specs.Reading.{ReadsNumbers}
use Rattle.ndtables.specs.Spelling.{IsCellWord}

pub reads-none : (words : List (List ℕ)) (xs : List ℤ) → xs ≡ [] → ReadsNumbers words words xs
reads-none words xs e = record { read = []; words = refl; spelled = All-nil IsCellWord; values = e }

pub reads-more : (old now new : List (List ℕ)) (xs : List ℤ) (word : List ℕ) (x : ℤ) → ReadsNumbers old now xs → now ≡ word ∷ new → IsCellWord word → x ≡ signed_digits_value 10 word → ReadsNumbers old new (xs ++ x ∷ [])
reads-more old now new xs word x h e spelled value = record {
  read = h.read ++ word ∷ [];
  words = h.words ∙ (ap (λ z. h.read ++ z) e ∙ sym (append_assoc h.read (word ∷ []) new));
  spelled = All-push IsCellWord h.read word h.spelled spelled;
  values = ap (λ z. z ++ x ∷ []) h.values ∙ (ap (λ z. map (signed_digits_value 10) h.read ++ z ∷ []) value ∙ sym (map-append (signed_digits_value 10) h.read (word ∷ [])));
}

at-word : (n : ℕ) (read new : List (List ℕ)) (word : List ℕ) → length read < n
    → (length read < length (take n (read ++ word ∷ new))) × (get_or (take n (read ++ word ∷ new)) (length read) [] ≡ word)
at-word zero read new word lt = absurd (omega arith)
at-word (suc n) [] new word lt = (omega arith, refl)
at-word (suc n) (first ∷ read) new word lt = let (below, here) = at-word n read new word (omega arith) in (omega arith, here)

-- a word behind those that were read, which spells no cell, is among the first n
pub not-all_cells : (n : ℕ) (old now new : List (List ℕ)) (word : List ℕ) (xs : List ℤ) → ReadsNumbers old now xs → length xs < n → now ≡ word ∷ new → (IsCellWord word → ⊥) → All IsCellWord (take n old) → ⊥
not-all_cells n old now new word xs h lt e not all =
    let as_many : length xs ≡ length h.read = ap length h.values ∙ length-map h.read (signed_digits_value 10) in
    let whole : old ≡ h.read ++ word ∷ new = h.words ∙ ap (λ z. h.read ++ z) e in
    let all_of : All IsCellWord (take n (h.read ++ word ∷ new)) = subst (λ z. All IsCellWord (take n z)) whole all in
    let (below, here) = at-word n h.read new word (omega arith) in
    not (subst IsCellWord here (all_of (length h.read) [] below))
