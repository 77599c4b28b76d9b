-- Texts without control characters.
use Rattle.ndarray.proofs.Common.{◌≡◌, ◌∙◌, ◌++◌, ◌∷◌, [], ◌<◌, ◌≤◌, ◌^◌, ℕ, ⊎_elim, List, false, ap, append-nil, append_assoc, arith, cases_lt, get_or, refl, sym, All, decimal, ◌||◌, list_any, nat_tests, All-cons, All-from_get_or, All-nil, list_any-append, list_any_none}
use Rattle.std.specs.Char.{IsDigitChar, encode_utf8, is_control}
use Rattle.std.specs.Prelude.{codes}
use Rattle.std.specs.Str.{NoCharPasses}
use Rattle.std.specs.Str.Parse.{AllDigits}
use Rattle.std.proofs.lemmas.Fmt.{decimal_is_IsNumeral}
use Rattle.std.proofs.lemmas.Str.{NoCharPasses-byte}
use Rattle.std.proofs.lemmas.Str.Parse.{digit_from_value}
use Rattle.ndtables.specs.Places.{AreShown, Extends, IsPlaceLine, is_control_byte}

abbrev Other : ℕ → Type 0
Other b = is_control_byte b ≡ false

pub shown-append : (xs ys : List ℕ) → AreShown xs → AreShown ys → AreShown (xs ++ ys)
shown-append xs ys a b = list_any-append is_control_byte xs ys ∙ (ap (λ t. t || list_any is_control_byte ys) a ∙ b)

pub extends-none : (a : List ℕ) → Extends a a
extends-none a = record { more = []; appended = sym (append-nil a); shown = refl }

pub extends-by : (a b c more : List ℕ) → Extends a b → c ≡ b ++ more → AreShown more → Extends a c
extends-by a b c more e f shown = record {
  more = e.more ++ more;
  appended = f ∙ (ap (λ z. z ++ more) e.appended ∙ append_assoc a e.more more);
  shown = shown-append e.more more e.shown shown;
}

other : (b : ℕ) → 32 ≤ b → (b ≡ 127 → ⊥) → Other b
other b wide not = grind (arith, nat_tests)

digits-shown : (ds : List ℕ) → AllDigits 10 ds → All Other ds
digits-shown [] all = All-nil Other
digits-shown (d ∷ ds) (digit, all) = All-cons Other d ds (let h = digit_from_value d digit in other d (omega (arith, h)) (λ e. omega (arith, h, e))) (digits-shown ds all)

pub number-shown : (n : ℕ) → n < 2 ^ 64 → AreShown (decimal n)
number-shown n small = list_any_none is_control_byte (decimal n) (digits-shown (decimal n) (decimal_is_IsNumeral n small).0.1)

no-control : (c : ℕ) → is_control c ≡ false → is_control_byte c ≡ false
no-control c not = grind (arith, nat_tests)

high-byte : (b : ℕ) → 128 ≤ b → Other b
high-byte b high = grind (arith, nat_tests)

pub letter-shown : (c : ℕ) → is_control c ≡ false → AreShown (encode_utf8 c)
letter-shown c not =
    let none : NoCharPasses is_control_byte (encode_utf8 c) = (c ∷ [], append-nil (encode_utf8 c), (no-control c not, tt)) in
    list_any_none is_control_byte (encode_utf8 c) (All-from_get_or Other (encode_utf8 c) 0
    (λ k lt. ⊎_elim (λ low. NoCharPasses-byte is_control_byte (encode_utf8 c) k none lt low) (λ high. high-byte (get_or (encode_utf8 c) k 0) high) (cases_lt (get_or (encode_utf8 c) k 0) 128)))

-- a hexadecimal digit is no control character
pub digit-plain : (c d : ℕ) → d < 16 → IsDigitChar c d → is_control c ≡ false
digit-plain c d lt h = ⊎_elim (λ low. let e = h.1 low in grind (arith, nat_tests)) (λ high. let e = h.2 high in grind (arith, nat_tests)) (cases_lt d 10)

-- a line that begins with where a fault is, more without control characters, and a newline
pub line-told : (line : ℕ) (first last all : List ℕ) → first ≡ codes "ndtables: line " ++ decimal line → Extends first last → all ≡ last ++ 10 ∷ [] → IsPlaceLine all
line-told line first last all begin more end = record {
  line = line;
  place = more.more;
  told = end
      ∙ (ap (λ t. t ++ 10 ∷ []) (more.appended ∙ ap (λ t. t ++ more.more) begin)
      ∙ (append_assoc (codes "ndtables: line " ++ decimal line) more.more (10 ∷ []) ∙ append_assoc (codes "ndtables: line ") (decimal line) (more.more ++ 10 ∷ [])));
  shown = more.shown;
}
