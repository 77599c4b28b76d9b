-- Texts without a newline.
use Rattle.ndarray.proofs.Common.{◌≡◌, ◌∙◌, ◌++◌, ◌∷◌, [], ◌==◌, ◌<◌, ◌^◌, ℕ, List, false, ap, append-nil, append_assoc, arith, get_or, refl, subst, sym, All, decimal, ◌||◌, list_any, nat_tests, All-cons, All-from_get_or, All-nil, list_any-append, list_any_none}
use Rattle.std.specs.Char.{digit_value, encode_utf8}
use Rattle.std.specs.Str.{NoCharPasses}
use Rattle.std.specs.Str.Parse.{AllDigits}
use Rattle.std.proofs.lemmas.Fmt.{decimal_is_IsNumeral}
use Rattle.std.proofs.lemmas.Str.Pattern.{NoCharPasses-char}
use Rattle.uses.specs.Streams.{Extends, IsInLine}

abbrev Other : ℕ → Type 0
Other b = (b == 10) ≡ false

pub in-line_append : (xs ys : List ℕ) → IsInLine xs → IsInLine ys → IsInLine (xs ++ ys)
in-line_append xs ys a b = list_any-append (λ b. b == 10) xs ys ∙ (ap (λ t. t || list_any (λ b. b == 10) ys) a ∙ b)

pub extends-none : (a : List ℕ) → Extends a a
extends-none a = record { more = []; appended = sym (append-nil a); in_line = refl }

pub extends-by : (a b c more : List ℕ) → Extends a b → c ≡ b ++ more → IsInLine more → Extends a c
extends-by a b c more e f line = record {
  more = e.more ++ more;
  appended = f ∙ (ap (λ z. z ++ more) e.appended ∙ append_assoc a e.more more);
  in_line = in-line_append e.more more e.in_line line;
}

other : (b : ℕ) → (b ≡ 10 → ⊥) → Other b
other b not = grind (arith, nat_tests)

digits-in_line : (ds : List ℕ) → AllDigits 10 ds → All Other ds
digits-in_line [] all = All-nil Other
digits-in_line (d ∷ ds) (digit, all) = All-cons Other d ds (other d (λ e. let wide : digit_value 10 < 10 = subst (λ b. digit_value b < 10) e digit in omega (arith, wide))) (digits-in_line ds all)

pub number-in_line : (n : ℕ) → n < 2 ^ 64 → IsInLine (decimal n)
number-in_line n small = list_any_none (λ b. b == 10) (decimal n) (digits-in_line (decimal n) (decimal_is_IsNumeral n small).0.1)

pub letter-in_line : (c : ℕ) → (c ≡ 10 → ⊥) → IsInLine (encode_utf8 c)
letter-in_line c not =
    let none : NoCharPasses (λ d. d == 10) (encode_utf8 c) = (c ∷ [], append-nil (encode_utf8 c), (other c not, tt)) in
    list_any_none (λ b. b == 10) (encode_utf8 c) (All-from_get_or Other (encode_utf8 c) 0 (λ k lt. other (get_or (encode_utf8 c) k 0) (NoCharPasses-char 10 (encode_utf8 c) k none (omega arith) lt)))
