-- Numbers as they are printed are words that are read as these numbers.
use Rattle.std.proofs.Common.{◌≡◌, ◌∙◌, ◌++◌, ◌∷◌, [], ◌<◌, ◌≤◌, ◌^◌, ℕ, ℤ, pos, negsuc, suc, List, Bool, true, false, ap, append-nil, append_assoc, arith, length, map, refl, subst, sym}
use Rattle.std.specs.Prelude.{◌==◌, All, IsUtf8, FitsSigned, decimal, drop, flat_map, cond, neg_ℤ}
use Rattle.std.specs.Int.{w64}
use Rattle.std.specs.Fmt.{signed_decimal}
use Rattle.std.specs.Char.{digit_value}
use Rattle.std.specs.List.{join_with_byte}
use Rattle.std.specs.Str.Parse.{AllDigits, IsNumeral, digits_value, signed_digits_value, starts_with_minus, without_leading_plus, without_leading_sign}
use Rattle.std.proofs.lemmas.Bool.{ne_eqb}
use Rattle.std.proofs.lemmas.Bool.Decides.{nat_tests}
use Rattle.std.proofs.lemmas.Fmt.{decimal_is_IsNumeral}
use Rattle.std.proofs.lemmas.List.Elements.{All-cons, All-head, All-nil, All-tail}
use Rattle.std.proofs.lemmas.Str.{IsUtf8-from_ascii, IsUtf8-nil}
use Rattle.std.proofs.lemmas.Str.Ascii.{IsAscii-from_all}
use Rattle.ndtables.specs.Printing.{shape_word}
use Rattle.ndtables.specs.Words.{words_of}
use Rattle.ndtables.specs.Spelling.{IsCellWord, IsDigits, SpellsLengths, some}
use Rattle.ndtables.proofs.SpacedWords.{IsInWord, Spells, blank-first, spells-word}

-- a digit is between 48 and 57
digit-low : (c : ℕ) → digit_value c < 10 → (48 ≤ c) × (c ≤ 57)
digit-low c lt = grind (arith, nat_tests)

digit-in_word : (c : ℕ) → digit_value c < 10 → IsInWord c
digit-in_word c lt = let (low, high) = digit-low c lt in grind (arith, nat_tests)

pub digits-in_word : (ds : List ℕ) → AllDigits 10 ds → All IsInWord ds
digits-in_word [] all = All-nil IsInWord
digits-in_word (d ∷ ds) (digit, all) = All-cons IsInWord d ds (digit-in_word d digit) (digits-in_word ds all)

minus-in_word : IsInWord 45
minus-in_word = refl

-- digits have no sign
no-minus : (ds : List ℕ) → IsNumeral 10 ds → starts_with_minus ds ≡ false
no-minus [] (long, all) = absurd (omega (arith, long))
no-minus (d ∷ ds) (long, (digit, all)) = let (low, high) = digit-low d digit in ne_eqb d 45 (λ e. omega (arith, e, low))

no-plus : (ds : List ℕ) → IsNumeral 10 ds → without_leading_plus ds ≡ ds
no-plus [] (long, all) = absurd (omega (arith, long))
no-plus (d ∷ ds) (long, (digit, all)) = let (low, high) = digit-low d digit in ap (λ t. drop (cond t 1 0) (d ∷ ds)) (ne_eqb d 43 (λ e. omega (arith, e, low)))

no-sign : (ds : List ℕ) → IsNumeral 10 ds → without_leading_sign ds ≡ ds
no-sign ds h = ap (λ t. cond t (drop 1 ds) (without_leading_plus ds)) (no-minus ds h) ∙ no-plus ds h

value-unsigned : (ds : List ℕ) → IsNumeral 10 ds → signed_digits_value 10 ds ≡ pos (digits_value 10 ds)
value-unsigned ds h =
    ap (λ t. cond t (neg_ℤ (pos (digits_value 10 (without_leading_sign ds)))) (pos (digits_value 10 (without_leading_sign ds)))) (no-minus ds h)
    ∙ ap (λ bs. pos (digits_value 10 bs)) (no-sign ds h)

pub cell-value : (z : ℤ) → FitsSigned w64 z → signed_digits_value 10 (signed_decimal z) ≡ z
cell-value (pos n) fits =
    let k = decimal_is_IsNumeral n (omega (arith, fits.sfits)) in
    value-unsigned (decimal n) k.0 ∙ ap pos k.1
cell-value (negsuc n) fits =
    let k = decimal_is_IsNumeral (suc n) (omega (arith, fits.sfits)) in
    ap (λ m. neg_ℤ (pos m)) k.1

pub cell-word : (z : ℤ) → FitsSigned w64 z → IsCellWord (signed_decimal z)
cell-word (pos n) fits =
    let k = decimal_is_IsNumeral n (omega (arith, fits.sfits)) in
    (subst (IsNumeral 10) (sym (no-sign (decimal n) k.0)) k.0, subst (FitsSigned w64) (sym (cell-value (pos n) fits)) fits)
cell-word (negsuc n) fits =
    let k = decimal_is_IsNumeral (suc n) (omega (arith, fits.sfits)) in
    (k.0, subst (FitsSigned w64) (sym (cell-value (negsuc n) fits)) fits)

cell-some : (z : ℤ) → FitsSigned w64 z → (0 < length (signed_decimal z)) × All IsInWord (signed_decimal z)
cell-some (pos n) fits = let k = decimal_is_IsNumeral n (omega (arith, fits.sfits)) in (k.0.0, digits-in_word (decimal n) k.0.1)
cell-some (negsuc n) fits =
    let k = decimal_is_IsNumeral (suc n) (omega (arith, fits.sfits)) in
    (omega arith, All-cons IsInWord 45 (decimal (suc n)) minus-in_word (digits-in_word (decimal (suc n)) k.0.1))

pub spells-cell : (z : ℤ) → FitsSigned w64 z → Spells (signed_decimal z) (signed_decimal z ∷ [])
spells-cell z fits = let h = cell-some z fits in spells-word (signed_decimal z) h.0 h.1

-- digits of lengths, joined by `x`
joined : (n : ℕ) (ns : List ℕ) → join_with_byte 120 (map decimal (n ∷ ns)) ≡ decimal n ++ flat_map (λ m. 120 ∷ decimal m) ns
joined n [] = sym (append-nil (decimal n))
joined n (m ∷ ns) = ap (λ t. decimal n ++ 120 ∷ t) (joined m ns)

all-digits : (ns : List ℕ) → All (λ n. n < 2 ^ 64) ns → All IsDigits (map decimal ns)
all-digits [] all = All-nil IsDigits
all-digits (n ∷ ns) all = All-cons IsDigits (decimal n) (map decimal ns) (decimal_is_IsNumeral n (all 0 n (omega arith))).0 (all-digits ns (λ k d lt. all (suc k) d (omega arith)))

values-back : (ns : List ℕ) → All (λ n. n < 2 ^ 64) ns → map (digits_value 10) (map decimal ns) ≡ ns
values-back [] all = refl
values-back (n ∷ ns) all =
    ap (λ m. m ∷ map (digits_value 10) (map decimal ns)) (decimal_is_IsNumeral n (all 0 n (omega arith))).1
    ∙ ap (λ ms. n ∷ ms) (values-back ns (λ k d lt. all (suc k) d (omega arith)))

pub spells-lengths : (n : ℕ) (ns : List ℕ) → All (λ n. n < 2 ^ 64) (n ∷ ns) → SpellsLengths (decimal n ++ flat_map (λ m. 120 ∷ decimal m) ns) (n ∷ ns)
spells-lengths n ns all =
    subst (λ w. SpellsLengths w (n ∷ ns)) (joined n ns)
    (subst (SpellsLengths (join_with_byte 120 (map decimal (n ∷ ns)))) (values-back (n ∷ ns) all)
    (some (map decimal (n ∷ ns)) (omega arith) (all-digits (n ∷ ns) all)))

in-both : (xs ys : List ℕ) → All IsInWord xs → All IsInWord ys → All IsInWord (xs ++ ys)
in-both [] ys a b = b
in-both (x ∷ xs) ys a b = All-cons IsInWord x (xs ++ ys) (a 0 x (omega arith)) (in-both xs ys (λ k d lt. a (suc k) d (omega arith)) b)

others-in_word : (ns : List ℕ) → All (λ n. n < 2 ^ 64) ns → All IsInWord (flat_map (λ m. 120 ∷ decimal m) ns)
others-in_word [] all = All-nil IsInWord
others-in_word (n ∷ ns) all =
    in-both (120 ∷ decimal n) (flat_map (λ m. 120 ∷ decimal m) ns)
    (All-cons IsInWord 120 (decimal n) refl (digits-in_word (decimal n) (decimal_is_IsNumeral n (all 0 n (omega arith))).0.1))
    (others-in_word ns (λ k d lt. all (suc k) d (omega arith)))

pub lengths-in_word : (n : ℕ) (ns : List ℕ) → All (λ n. n < 2 ^ 64) (n ∷ ns) → (0 < length (decimal n ++ flat_map (λ m. 120 ∷ decimal m) ns)) × All IsInWord (decimal n ++ flat_map (λ m. 120 ∷ decimal m) ns)
lengths-in_word n ns all =
    let k = decimal_is_IsNumeral n (all 0 n (omega arith)) in
    (longer (decimal n) (flat_map (λ m. 120 ∷ decimal m) ns) k.0.0, in-both (decimal n) (flat_map (λ m. 120 ∷ decimal m) ns) (digits-in_word (decimal n) k.0.1) (others-in_word ns (λ k d lt. all (suc k) d (omega arith))))
  where
    longer : (xs ys : List ℕ) → 0 < length xs → 0 < length (xs ++ ys)
    longer [] ys lt = absurd (omega (arith, lt))
    longer (x ∷ xs) ys lt = omega arith

-- a cell's word is text
sign-or_digit : (t u : Bool) (c : ℕ) (cs : List ℕ) → (c == 45) ≡ t → (c == 43) ≡ u → IsNumeral 10 (cond t cs (drop (cond u 1 0) (c ∷ cs))) → (c < 128) × AllDigits 10 cs
sign-or_digit true u c cs e f h = (grind (arith, nat_tests), h.1)
sign-or_digit false true c cs e f h = (grind (arith, nat_tests), h.1)
sign-or_digit false false c cs e f h = let (low, high) = digit-low c h.1.0 in (omega (arith, high), h.1.1)

pub cell-text : (word : List ℕ) → IsCellWord word → IsUtf8 word
cell-text [] h = IsUtf8-nil
cell-text (c ∷ cs) h =
    let (small, digits) = sign-or_digit (c == 45) (c == 43) c cs refl refl h.0 in
    IsUtf8-from_ascii (c ∷ cs) (IsAscii-from_all (c ∷ cs) (All-cons (λ b. b < 128) c cs small (low-digits cs digits)))
  where
    low-digits : (ds : List ℕ) → AllDigits 10 ds → All (λ b. b < 128) ds
    low-digits [] all = All-nil (λ b. b < 128)
    low-digits (d ∷ ds) (digit, all) = All-cons (λ b. b < 128) d ds (let (low, high) = digit-low d digit in omega (arith, high)) (low-digits ds all)

-- a cell's word has no white space
in-word_first : (t u : Bool) (c : ℕ) (cs : List ℕ) → (c == 45) ≡ t → (c == 43) ≡ u → IsNumeral 10 (cond t cs (drop (cond u 1 0) (c ∷ cs))) → IsInWord c × AllDigits 10 cs
in-word_first true u c cs e f h = (let is : c ≡ 45 = grind (arith, nat_tests) in subst IsInWord (sym is) refl, h.1)
in-word_first false true c cs e f h = (let is : c ≡ 43 = grind (arith, nat_tests) in subst IsInWord (sym is) refl, h.1)
in-word_first false false c cs e f h = (digit-in_word c h.1.0, h.1.1)

pub cell-in_word : (word : List ℕ) → IsCellWord word → (0 < length word) × All IsInWord word
cell-in_word [] h = absurd (let long = h.0.0 in omega (arith, long))
cell-in_word (c ∷ cs) h =
    let (first, digits) = in-word_first (c == 45) (c == 43) c cs refl refl h.0 in
    (omega arith, All-cons IsInWord c cs first (digits-in_word cs digits))

-- words of cells, each before a blank
pub spaced-words : (ws : List (List ℕ)) → All IsCellWord ws → words_of (flat_map (λ w. w ++ 32 ∷ []) ws) ≡ ws
spaced-words [] all = refl
spaced-words (w ∷ ws) all =
    let (long, inside) = cell-in_word w (All-head IsCellWord w ws all) in
    let more = flat_map (λ v. v ++ 32 ∷ []) ws in
    ap words_of (append_assoc w (32 ∷ []) more)
    ∙ (spells-word w long inside (32 ∷ more) refl
    ∙ ap (λ vs. w ∷ vs) (blank-first 32 more refl ∙ spaced-words ws (All-tail IsCellWord w ws all)))

-- a shape word of two lengths before a blank and a text
pub shape-before : (n m : ℕ) (text : List ℕ) (words : List (List ℕ)) → n < 2 ^ 64 → m < 2 ^ 64 → words_of text ≡ words → words_of (shape_word (n ∷ m ∷ []) ++ 32 ∷ text) ≡ shape_word (n ∷ m ∷ []) ∷ words
shape-before n m text words a b e =
    let (long, inside) = lengths-in_word n (m ∷ []) (All-cons (λ k. k < 2 ^ 64) n (m ∷ []) a (All-cons (λ k. k < 2 ^ 64) m [] b (All-nil (λ k. k < 2 ^ 64)))) in
    spells-word (shape_word (n ∷ m ∷ [])) long inside (32 ∷ text) refl ∙ ap (λ ws. shape_word (n ∷ m ∷ []) ∷ ws) (blank-first 32 text refl ∙ e)
