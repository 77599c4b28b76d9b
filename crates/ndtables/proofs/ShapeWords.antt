-- Which words spell shapes, and which shape: each word at most one.
use Rattle.std.proofs.Common.{◌≡◌, ℕ, zero, suc, ◌<◌, ◌≤◌, ◌+◌, ◌*◌, ◌^◌, ◌⊎◌, inl, inr, List, [], ◌∷◌, ◌++◌, Bool, false, length, get_or, map, refl, sym, ap, ◌∙◌, subst, arith}
use Rattle.std.specs.Prelude.{All, ◌==◌}
use Rattle.std.proofs.Math.Nat.{mul-suc, suc-mul}
use Rattle.std.specs.List.{join_with_byte, slice_split}
use Rattle.std.specs.Str.Parse.{AllDigits, digits_value}
use Rattle.std.specs.Char.{digit_value}
use Rattle.std.proofs.lemmas.Bool.{ne_eqb}
use Rattle.std.proofs.lemmas.List.{append_cancel_right, append-nil, length-map}
use Rattle.std.proofs.lemmas.List.Elements.{All-append}
use Rattle.std.proofs.lemmas.List.Splits.{slice_split_at, slice_split_none}
use Rattle.ndarray.specs.Limits.{IsWithinLimit, nonzero_size}
use Rattle.ndarray.specs.declared.base.shape.Order.{Order}
use Rattle.ndarray.specs.declared.base.shape.Order.TheVariants.{RowMajor, ColumnMajor}
use Rattle.ndtables.specs.Spelling.{IsCountWord, IsDigits, SpellsLengths, SpellsNoLengths, SpellsNoShape, SpellsShape, none, some}

-- the byte between two lengths
abbrev pub is_x : ℕ → Bool
is_x b = b == 120

-- products of a positive number
times-positive : (n m : ℕ) → 0 < m → 0 < suc n * m
times-positive n m h = let e : suc n * m ≡ n * m + m = suc-mul n m in omega (arith, e, h)

times-right : (n m : ℕ) → m ≤ suc n * m
times-right n m = let e : suc n * m ≡ n * m + m = suc-mul n m in omega (arith, e)

times-left : (n m : ℕ) → 0 < m → suc n ≤ suc n * m
times-left n (suc m) h = let e = mul-suc (suc n) m in omega (arith, e)
times-left n zero h = absurd (omega arith)

-- no length is longer than the product of those that are not 0
size-positive : (ns : List ℕ) → 0 < nonzero_size ns
size-positive [] = omega arith
size-positive (zero ∷ ns) = size-positive ns
size-positive (suc n ∷ ns) = times-positive n (nonzero_size ns) (size-positive ns)

pub length-within : (ns : List ℕ) (k : ℕ) → k < length ns → get_or ns k 0 ≤ nonzero_size ns
length-within [] k lt = absurd (omega arith)
length-within (zero ∷ ns) zero lt = omega arith
length-within (zero ∷ ns) (suc k) lt = length-within ns k (omega arith)
length-within (suc n ∷ ns) zero lt = times-left n (nonzero_size ns) (size-positive ns)
length-within (suc n ∷ ns) (suc k) lt = let h = length-within ns k (omega arith) in let m = times-right n (nonzero_size ns) in omega (arith, h, m)

-- a digit is no byte that is none
digit-is_not : (b c : ℕ) → digit_value b < 10 → 10 ≤ digit_value c → b ≡ c → ⊥
digit-is_not b c lt le e = let h : digit_value b ≡ digit_value c = ap digit_value e in absurd (omega arith)

-- digits have no byte that is no digit
digits-lack : (c : ℕ) → 10 ≤ digit_value c → (bs : List ℕ) → AllDigits 10 bs → All (λ b. (b == c) ≡ false) bs
digits-lack c le [] h k d lt = absurd (omega arith)
digits-lack c le (b ∷ bs) h zero d lt = ne_eqb b c (digit-is_not b c h.0 le)
digits-lack c le (b ∷ bs) h (suc k) d lt = digits-lack c le bs h.1 k d (omega arith)

All-first : {A : Type 0} (P : A → Type 0) (x : A) (xs : List A) → All P (x ∷ xs) → P x
All-first P x xs all = all 0 x (omega arith)

All-rest : {A : Type 0} (P : A → Type 0) (x : A) (xs : List A) → All P (x ∷ xs) → All P xs
All-rest P x xs all = λ k d lt. all (suc k) d (omega arith)

-- lengths that are joined are cut into them again
pub split-joined : (pieces : List (List ℕ)) → 0 < length pieces → All IsDigits pieces → slice_split is_x (join_with_byte 120 pieces) ≡ pieces
split-joined [] several digits = absurd (omega arith)
split-joined (x ∷ []) several digits = slice_split_none is_x x (digits-lack 120 (omega arith) x (All-first IsDigits x [] digits).1)
split-joined (x ∷ y ∷ xs) several digits =
    slice_split_at is_x x 120 (join_with_byte 120 (y ∷ xs)) (digits-lack 120 (omega arith) x (All-first IsDigits x (y ∷ xs) digits).1) refl
    ∙ ap (λ parts. x ∷ parts) (split-joined (y ∷ xs) (omega arith) (All-rest IsDigits x (y ∷ xs) digits))

-- how lengths are spelled
pub record IsJoined (word ns : List ℕ) : Type 0 where
  pub pieces : List (List ℕ)
  pub several : 0 < length pieces
  pub digits : All IsDigits pieces
  pub joined : word ≡ join_with_byte 120 pieces
  pub values : ns ≡ map (digits_value 10) pieces

pub spelled-by : (word ns : List ℕ) → SpellsLengths word ns → ((word ≡ 46 ∷ []) × (ns ≡ [])) ⊎ IsJoined word ns
spelled-by _ _ none = inl (refl, refl)
spelled-by _ _ (some pieces several digits) = inr (record { pieces = pieces; several = several; digits = digits; joined = refl; values = refl })

split-of : (word ns : List ℕ) (j : IsJoined word ns) → slice_split is_x word ≡ j.pieces
split-of word ns j = ap (slice_split is_x) j.joined ∙ split-joined j.pieces j.several j.digits

dot-not_joined : (word ns : List ℕ) → word ≡ 46 ∷ [] → IsJoined word ns → ⊥
dot-not_joined word ns dot j =
    let alone : slice_split is_x (46 ∷ []) ≡ (46 ∷ []) ∷ [] = refl in
    let parts : (46 ∷ []) ∷ [] ≡ j.pieces = sym alone ∙ (ap (slice_split is_x) (sym dot) ∙ split-of word ns j) in
    let digits : IsDigits (46 ∷ []) = All-first IsDigits (46 ∷ []) [] (subst (All IsDigits) (sym parts) j.digits) in
    let below : digit_value 46 < 10 = digits.1.0 in
    absurd (omega arith)

-- a word spells one list of lengths
pub one-spelling : (word ns ms : List ℕ) → SpellsLengths word ns → SpellsLengths word ms → ns ≡ ms
one-spelling word ns ms a b = elim (spelled-by word ns a) [
  | inl p ↦ elim (spelled-by word ms b) [
    | inl q ↦ p.1 ∙ sym q.1
    | inr j ↦ absurd (dot-not_joined word ms p.0 j)
  ]
  | inr i ↦ elim (spelled-by word ms b) [
    | inl q ↦ absurd (dot-not_joined word ns q.0 i)
    | inr j ↦ i.values ∙ (ap (map (digits_value 10)) (sym (split-of word ns i) ∙ split-of word ms j) ∙ sym j.values)
  ]
]

-- a piece of a word that is no length, or a 33rd one, and the word spells no lengths
pub no-lengths : (word : List ℕ) → (word ≡ 46 ∷ [] → ⊥)
    → ((pieces : List (List ℕ)) → slice_split is_x word ≡ pieces → (length pieces ≤ 32 → ⊥) ⊎ ((k : ℕ) × (d : List ℕ) × (k < length pieces) × (IsCountWord (get_or pieces k d) → ⊥)))
    → SpellsNoLengths word
no-lengths word not wrong ns spelled few limit = elim (spelled-by word ns spelled) [
  | inl p ↦ not p.0
  | inr j ↦
      (let long : length ns ≡ length j.pieces = ap length j.values ∙ length-map j.pieces (digits_value 10) in
      elim (wrong j.pieces (split-of word ns j)) [
        | inl many ↦ many (omega arith)
        | inr bad ↦
            (let (k, d, lt, no_count) = bad in
            let piece = get_or j.pieces k d in
            let at : get_or ns k 0 ≡ digits_value 10 piece = ap (λ l. get_or l k 0) j.values ∙ value-at j.pieces k d lt in
            let within = length-within ns k (omega arith) in
            let below : digits_value 10 piece < 2 ^ 64 = omega (arith, at, within, limit) in
            no_count (j.digits k d lt, below))
      ])
]
  where
    value-at : (pieces : List (List ℕ)) (k : ℕ) (d : List ℕ) → k < length pieces → get_or (map (digits_value 10) pieces) k 0 ≡ digits_value 10 (get_or pieces k d)
    value-at [] k d lt = absurd (omega arith)
    value-at (p ∷ ps) zero d lt = refl
    value-at (p ∷ ps) (suc k) d lt = value-at ps k d (omega arith)

-- `f` is in no word that spells lengths
abbrev NotF : ℕ → Type 0
NotF b = (b == 102) ≡ false

joined-lacks_f : (pieces : List (List ℕ)) → All IsDigits pieces → All NotF (join_with_byte 120 pieces)
joined-lacks_f [] digits = λ k d lt. absurd (omega arith)
joined-lacks_f (x ∷ []) digits = digits-lack 102 (omega arith) x (All-first IsDigits x [] digits).1
joined-lacks_f (x ∷ y ∷ xs) digits =
    All-append NotF x (120 ∷ join_with_byte 120 (y ∷ xs)) (digits-lack 102 (omega arith) x (All-first IsDigits x (y ∷ xs) digits).1)
    (behind (join_with_byte 120 (y ∷ xs)) (joined-lacks_f (y ∷ xs) (All-rest IsDigits x (y ∷ xs) digits)))
  where
    behind : (bs : List ℕ) → All NotF bs → All NotF (120 ∷ bs)
    behind bs all zero d lt = refl
    behind bs all (suc k) d lt = all k d (omega arith)

lengths-lack_f : (word ns : List ℕ) → SpellsLengths word ns → All NotF word
lengths-lack_f word ns spelled = elim (spelled-by word ns spelled) [
  | inl p ↦ subst (All NotF) (sym p.0) (λ k d lt. dot k d lt)
  | inr j ↦ subst (All NotF) (sym j.joined) (joined-lacks_f j.pieces j.digits)
]
  where
    dot : (k d : ℕ) → k < 1 → NotF (get_or (46 ∷ []) k d)
    dot zero d lt = refl
    dot (suc k) d lt = absurd (omega arith)

ends-with_f : (front : List ℕ) → All NotF (front ++ 102 ∷ []) → ⊥
ends-with_f [] all = let no : NotF 102 = All-first NotF 102 [] all in absurd (cc)
ends-with_f (b ∷ front) all = ends-with_f front (All-rest NotF b (front ++ 102 ∷ []) all)

-- what is before the `f` spells no lengths
pub no-shape_column : (word spelled : List ℕ) → word ≡ spelled ++ 102 ∷ [] → SpellsNoLengths spelled → SpellsNoShape word
no-shape_column word spelled e not ns RowMajor s =
    ends-with_f spelled (subst (All NotF) (sym (append-nil s.spelled) ∙ (sym s.ends ∙ e)) (lengths-lack_f s.spelled ns s.lengths))
no-shape_column word spelled e not ns ColumnMajor s =
    not ns (subst (λ w. SpellsLengths w ns) (append_cancel_right s.spelled spelled (102 ∷ []) (sym s.ends ∙ e)) s.lengths) s.axes s.limit

-- a word that does not end in `f` spells no lengths
pub no-shape_row : (word : List ℕ) → ((front : List ℕ) → word ≡ front ++ 102 ∷ [] → ⊥) → SpellsNoLengths word → SpellsNoShape word
no-shape_row word no_f not ns RowMajor s =
    not ns (subst (λ w. SpellsLengths w ns) (sym (append-nil s.spelled) ∙ sym s.ends) s.lengths) s.axes s.limit
no-shape_row word no_f not ns ColumnMajor s = no_f s.spelled s.ends

-- lengths that are beyond the limit are the only ones
pub beyond-limit : (word ms : List ℕ) → SpellsLengths word ms → (IsWithinLimit ms → ⊥) → SpellsNoLengths word
beyond-limit word ms spelled not ns s few limit = not (subst IsWithinLimit (one-spelling word ns ms s spelled) limit)

-- a word spells one shape
pub one-shape : (word ns ms : List ℕ) (p q : Order) → SpellsShape word ns p → SpellsShape word ms q → ns ≡ ms
one-shape word ns ms RowMajor RowMajor a b =
    one-spelling word ns ms (subst (λ w. SpellsLengths w ns) (sym (append-nil a.spelled) ∙ sym a.ends) a.lengths) (subst (λ w. SpellsLengths w ms) (sym (append-nil b.spelled) ∙ sym b.ends) b.lengths)
one-shape word ns ms ColumnMajor ColumnMajor a b =
    one-spelling a.spelled ns ms a.lengths (subst (λ w. SpellsLengths w ms) (append_cancel_right b.spelled a.spelled (102 ∷ []) (sym b.ends ∙ a.ends)) b.lengths)
one-shape word ns ms RowMajor ColumnMajor a b =
    absurd (ends-with_f b.spelled (subst (All NotF) (sym (append-nil a.spelled) ∙ (sym a.ends ∙ b.ends)) (lengths-lack_f a.spelled ns a.lengths)))
one-shape word ns ms ColumnMajor RowMajor a b =
    absurd (ends-with_f a.spelled (subst (All NotF) (sym (append-nil b.spelled) ∙ (sym b.ends ∙ a.ends)) (lengths-lack_f b.spelled ms b.lengths)))
