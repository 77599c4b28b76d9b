-- A table that was printed as a table is read back as the same table.
use Rattle.std.proofs.Common.{◌≡◌, ◌∙◌, ◌++◌, ◌∷◌, [], ◌<◌, ◌≤◌, ◌+◌, ◌*◌, ◌^◌, ℕ, zero, suc, ℤ, List, ap, append-nil, arith, drop, inl, inr, length, map, refl, subst, sym, take, take-append-drop}
use Rattle.std.specs.Prelude.{◌&&◌, All, FitsSigned, codes, flat_map, nat_eq, nat_lt}
use Rattle.std.specs.Int.{w64}
use Rattle.std.specs.Fmt.{signed_decimal}
use Rattle.std.specs.Str.Parse.{signed_digits_value}
use Rattle.std.proofs.lemmas.Bool.{cases_Bool}
use Rattle.std.proofs.lemmas.Bool.Decides.{nat_tests}
use Rattle.std.proofs.lemmas.List.{length-drop, length-take-le, map-append, nil_from_length}
use Rattle.std.proofs.lemmas.List.Elements.{All-cons, All-from_get_or, All-head, All-nil, All-tail}
use Rattle.ndarray.specs.Grid.{Grid, IsGrid}
use Rattle.ndarray.specs.Index.{size}
use Rattle.ndarray.specs.Limits.{IsWithinLimit}
use Rattle.ndarray.specs.declared.base.shape.Order.TheVariants.{RowMajor}
use Rattle.ndtables.specs.Printing.{array_text, cells_text, pieces, separator_text, shape_word, table_text}
use Rattle.ndtables.specs.Reading.{ReadsNumbers, ReadsTable}
use Rattle.ndtables.specs.Spelling.{IsCellWord, SpellsLengths, none}
use Rattle.ndtables.specs.Words.{words_of}
use Rattle.ndtables.proofs.NumberWords.{cell-value, cell-word, lengths-in_word, spells-cell, spells-lengths}
use Rattle.ndtables.proofs.ReadRecords.{all-left, all-right}
use Rattle.ndtables.proofs.ShapeWords.{length-within}
use Rattle.ndtables.proofs.SpacedWords.{IsInWord, Spells, blank-first, spells-joined, spells-word}
use Rattle.ndtables.proofs.TextWords.{IsBlank}

abbrev blank : List ℕ
blank = codes " "

abbrev Fits : ℤ → Type 0
Fits = FitsSigned w64

-- what is between two subarrays is white space
separators-blank : (ns : List ℕ) → All IsBlank (separator_text blank ns)
separators-blank [] = All-cons IsBlank 32 [] refl (All-nil IsBlank)
separators-blank (n ∷ []) = All-cons IsBlank 10 [] refl (All-nil IsBlank)
separators-blank (n ∷ m ∷ ns) = All-cons IsBlank 10 (10 ∷ []) refl (All-cons IsBlank 10 [] refl (All-nil IsBlank))

separators-some : (ns : List ℕ) → 0 < length (separator_text blank ns)
separators-some [] = omega arith
separators-some (n ∷ []) = omega arith
separators-some (n ∷ m ∷ ns) = omega arith

-- pieces are all of a list
module _ (s : ℕ) where
  rest-long : (n : ℕ) (xs : List ℤ) → length xs ≡ suc n * s → length (drop s xs) ≡ n * s
  rest-long n xs e = let h = length-drop s xs in let more : suc n * s ≡ s + n * s = omega arith in omega (arith, e, h, more)

  first-long : (n : ℕ) (xs : List ℤ) → length xs ≡ suc n * s → length (take s xs) ≡ s
  first-long n xs e = let more : suc n * s ≡ s + n * s = omega arith in length-take-le s xs (omega (arith, e, more))

  pieces-words : (n : ℕ) (xs : List ℤ) → length xs ≡ n * s → flat_map (map signed_decimal) (pieces n s xs) ≡ map signed_decimal xs
  pieces-words zero xs e = ap (map signed_decimal) (sym (nil_from_length xs (let nothing : 0 * s ≡ 0 = omega arith in omega (arith, e, nothing))))
  pieces-words (suc n) xs e =
      ap (λ ws. map signed_decimal (take s xs) ++ ws) (pieces-words n (drop s xs) (rest-long n xs e))
      ∙ (sym (map-append signed_decimal (take s xs) (drop s xs)) ∙ ap (map signed_decimal) (take-append-drop s xs))

  module _ (f : List ℤ → List ℕ) (each : (ys : List ℤ) → length ys ≡ s → All Fits ys → Spells (f ys) (map signed_decimal ys)) where
    pieces-spell : (n : ℕ) (xs : List ℤ) → length xs ≡ n * s → All Fits xs → All (λ ys. Spells (f ys) (map signed_decimal ys)) (pieces n s xs)
    pieces-spell zero xs e all = All-nil (λ ys. Spells (f ys) (map signed_decimal ys))
    pieces-spell (suc n) xs e all =
        let parts : All Fits (take s xs ++ drop s xs) = subst (All Fits) (sym (take-append-drop s xs)) all in
        All-cons (λ ys. Spells (f ys) (map signed_decimal ys)) (take s xs) (pieces n s (drop s xs))
        (each (take s xs) (first-long n xs e) (all-left Fits (take s xs) (drop s xs) parts))
        (pieces-spell n (drop s xs) (rest-long n xs e) (all-right Fits (take s xs) (drop s xs) parts))

-- the cells of an array as text are as many words
spells-cells : (ns : List ℕ) (xs : List ℤ) → length xs ≡ size ns → All Fits xs → Spells (cells_text blank ns xs) (map signed_decimal xs)
spells-cells [] [] e all = absurd (omega (arith, e))
spells-cells [] (x ∷ []) e all = subst (λ t. Spells t (signed_decimal x ∷ [])) (sym (append-nil (signed_decimal x))) (spells-cell x (All-head Fits x [] all))
spells-cells [] (x ∷ y ∷ xs) e all = absurd (omega (arith, e))
spells-cells (n ∷ ns) xs e all =
    subst (Spells (cells_text blank (n ∷ ns) xs)) (pieces-words (size ns) n xs e)
    (spells-joined (cells_text blank ns) (map signed_decimal) (separator_text blank ns) (separators-blank ns) (separators-some ns) (pieces n (size ns) xs)
    (pieces-spell (size ns) (cells_text blank ns) (spells-cells ns) n xs e all))

-- the words of an array as text are its cells
array-words : (g : Grid ℤ) → IsGrid g → All Fits g.cells → words_of (array_text g) ≡ map signed_decimal g.cells
array-words g whole all = elim (cases_Bool (nat_lt 1 (length g.lengths) && nat_eq (length g.cells) 0)) [
  | inl absent ↦ (let empty : g.cells ≡ [] = nil_from_length g.cells (grind (arith, nat_tests)) in rw absent (ap (map signed_decimal) (sym empty)))
  | inr present ↦ rw present (spells-cells g.lengths g.cells whole all (10 ∷ []) refl ∙ (ap (λ ws. map signed_decimal g.cells ++ ws) (blank-first 10 [] refl) ∙ append-nil (map signed_decimal g.cells)))
]

-- the shape word of lengths within the limit
lengths-small : (ns : List ℕ) → IsWithinLimit ns → All (λ n. n < 2 ^ 64) ns
lengths-small ns limit = All-from_get_or (λ n. n < 2 ^ 64) ns 0 (λ k lt. let le = length-within ns k lt in omega (arith, le, limit))

shape-spelled : (ns : List ℕ) → All (λ n. n < 2 ^ 64) ns → SpellsLengths (shape_word ns) ns
shape-spelled [] all = none
shape-spelled (n ∷ ns) all = spells-lengths n ns all

shape-alone : (ns : List ℕ) → All (λ n. n < 2 ^ 64) ns → (0 < length (shape_word ns)) × All IsInWord (shape_word ns)
shape-alone [] all = (omega arith, All-cons IsInWord 46 [] refl (All-nil IsInWord))
shape-alone (n ∷ ns) all = lengths-in_word n ns all

cells-spelled : (xs : List ℤ) → All Fits xs → All IsCellWord (map signed_decimal xs)
cells-spelled [] all = All-nil IsCellWord
cells-spelled (x ∷ xs) all = All-cons IsCellWord (signed_decimal x) (map signed_decimal xs) (cell-word x (All-head Fits x xs all)) (cells-spelled xs (All-tail Fits x xs all))

cells-back : (xs : List ℤ) → All Fits xs → xs ≡ map (signed_digits_value 10) (map signed_decimal xs)
cells-back [] all = refl
cells-back (x ∷ xs) all = ap (λ y. y ∷ xs) (sym (cell-value x (All-head Fits x xs all))) ∙ ap (λ ys. signed_digits_value 10 (signed_decimal x) ∷ ys) (cells-back xs (All-tail Fits x xs all))

-- of the words of a printed table the same table is read, and no word is left over
pub reads-back : (g : Grid ℤ) → IsGrid g → IsWithinLimit g.lengths → length g.lengths ≤ 32 → All (FitsSigned w64) g.cells → ReadsTable (words_of (table_text g)) [] g
reads-back g whole limit axes fits =
    let small = lengths-small g.lengths limit in
    let (long, inside) = shape-alone g.lengths small in
    let cells : ReadsNumbers (map signed_decimal g.cells) [] g.cells = record { read = map signed_decimal g.cells; words = sym (append-nil (map signed_decimal g.cells)); spelled = cells-spelled g.cells fits; values = cells-back g.cells fits } in
    record {
      word = shape_word g.lengths;
      order = RowMajor;
      rest = map signed_decimal g.cells;
      words = spells-word (shape_word g.lengths) long inside (10 ∷ array_text g) refl ∙ ap (λ ws. shape_word g.lengths ∷ ws) (blank-first 10 (array_text g) refl ∙ array-words g whole fits);
      shape = record { spelled = shape_word g.lengths; lengths = shape-spelled g.lengths small; ends = sym (append-nil (shape_word g.lengths)); axes = axes; limit = limit };
      cells = cells;
      whole = whole;
    }
