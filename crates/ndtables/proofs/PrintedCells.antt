-- Pieces of a list, and texts that are joined while they are made.
use Rattle.std.proofs.Common.{◌≡◌, ℕ, zero, suc, ◌+◌, ◌-◌, ◌*◌, ◌<◌, ◌≤◌, ℤ, List, [], ◌∷◌, ◌++◌, length, take, drop, false, true, refl, sym, ap, ◌∙◌, append_assoc, rules, arith}
use Rattle.std.specs.Prelude.{flat_map, ◌&&◌, nat_lt, nat_eq}
use Rattle.std.specs.List.{join_by}
use Rattle.std.proofs.lemmas.List.{take-take, take_all, drop-take, drop-drop}
use Rattle.ndarray.specs.Grid.{Grid}
use Rattle.ndarray.specs.Index.{size}
use Rattle.ndtables.specs.Printing.{pieces, array_text_by, cells_text, separator_text}

-- the pieces are made of the first elements alone
pub pieces-take : {A : Type 0} (n s : ℕ) (xs : List A) → pieces n s (take (n * s) xs) ≡ pieces n s xs
pieces-take zero s xs = refl
pieces-take (suc n) s xs =
    let more : suc n * s ≡ s + n * s = omega arith in
    let first : take s (take (suc n * s) xs) ≡ take s xs = take-take s (suc n * s) xs (omega arith) in
    let rest : drop s (take (suc n * s) xs) ≡ take (n * s) (drop s xs) = ap (λ k. drop s (take k xs)) more ∙ drop-take s (n * s) xs in
    ap (λ ys. ys ∷ pieces n s (drop s (take (suc n * s) xs))) first
    ∙ ap (λ ys. take s xs ∷ ys) (ap (pieces n s) rest ∙ pieces-take n s (drop s xs))

-- the pieces that are left after k of n
pub pieces-left : {A : Type 0} (n k s : ℕ) (xs : List A) → k < n → pieces (n - k) s xs ≡ take s xs ∷ pieces (n - (k + 1)) s (drop s xs)
pieces-left n k s xs lt =
    let e : n - k ≡ suc (n - (k + 1)) = omega arith in
    ap (λ m. pieces m s xs) e

-- the elements after the pieces that are left, seen from one piece later
pub cells-left : {A : Type 0} (n k s : ℕ) (xs : List A) → k < n → drop ((n - (k + 1)) * s) (drop s xs) ≡ drop ((n - k) * s) xs
cells-left n k s xs lt =
    let e : n - k ≡ suc (n - (k + 1)) = omega arith in
    let m = n - (k + 1) in
    let more : suc m * s ≡ s + m * s = omega arith in
    drop-drop (m * s) s xs ∙ ap (λ j. drop j xs) (sym more ∙ ap (λ j. j * s) (sym e))

-- all pieces are left at the start
pub none-made : (n : ℕ) → n - 0 ≡ n
none-made n = omega arith

-- no piece is left at the end
pub all-made : (n k : ℕ) → n ≤ k → n - k ≡ 0
all-made n k h = omega arith

-- after no piece all elements are left
pub none-behind : {A : Type 0} (k s : ℕ) (xs : List A) → k ≡ 0 → drop (k * s) xs ≡ xs
none-behind k s xs h =
    let none : 0 * s ≡ 0 = omega arith in
    ap (λ m. drop (m * s) xs) h ∙ ap (λ m. drop m xs) none

-- the texts of the elements, with `first` before the first one, and the separator before each other
abbrev pub joined_after : {X : Type 0} → (X → List ℕ) → List ℕ → List ℕ → List X → List ℕ
joined_after f sep first [] = []
joined_after f sep first (x ∷ xs) = first ++ (f x ++ joined_after f sep sep xs)

module _ {X : Type 0} (f : X → List ℕ) (sep : List ℕ) where
  after-separator : (xs : List X) → joined_after f sep sep xs ≡ flat_map (λ x. sep ++ f x) xs
  after-separator [] = refl
  after-separator (x ∷ xs) = ap (λ t. sep ++ (f x ++ t)) (after-separator xs) ∙ sym (append_assoc sep (f x) (flat_map (λ y. sep ++ f y) xs))

  -- with nothing before the first one
  pub joined-from_nothing : (xs : List X) → joined_after f sep [] xs ≡ join_by f sep xs
  joined-from_nothing [] = refl
  joined-from_nothing (x ∷ xs) = ap (λ t. f x ++ t) (after-separator xs)

  -- a text before that of the elements to come, once the next element is appended to it
  pub joined-more : (before now old first : List ℕ) (x : X) (xs ys : List X) → ys ≡ x ∷ xs → before ≡ old ++ first → now ≡ before ++ f x → now ++ joined_after f sep sep xs ≡ old ++ joined_after f sep first ys
  joined-more before now old first x xs ys e a b =
      ap (λ t. t ++ joined_after f sep sep xs) b
      ∙ (append_assoc before (f x) (joined_after f sep sep xs)
      ∙ (ap (λ t. t ++ (f x ++ joined_after f sep sep xs)) a
      ∙ (append_assoc old first (f x ++ joined_after f sep sep xs)
      ∙ ap (λ zs. old ++ joined_after f sep first zs) (sym e))))

-- the subarrays along the first axis are made of the first cells alone
pub cells_text-first : (b : List ℕ) (n : ℕ) (ns : List ℕ) (xs : List ℤ) → cells_text b (n ∷ ns) (take (size (n ∷ ns)) xs) ≡ join_by (cells_text b ns) (separator_text b ns) (pieces n (size ns) xs)
cells_text-first b n ns xs = ap (join_by (cells_text b ns) (separator_text b ns)) (pieces-take n (size ns) xs)

few-axes : (a b : ℕ) → a ≤ 1 → (nat_lt 1 a && nat_eq b 0) ≡ false
few-axes a b h = search rules

some-cells : (a b : ℕ) → 0 < b → (nat_lt 1 a && nat_eq b 0) ≡ false
some-cells a b h = search rules

no-cells : (a b : ℕ) → 1 < a → b ≡ 0 → (nat_lt 1 a && nat_eq b 0) ≡ true
no-cells a b h e = search rules

module _ (b : List ℕ) (g : Grid ℤ) where
  lines : length g.cells ≡ size g.lengths → (nat_lt 1 (length g.lengths) && nat_eq (length g.cells) 0) ≡ false → cells_text b g.lengths (take (size g.lengths) g.cells) ++ 10 ∷ [] ≡ array_text_by b g
  lines whole e =
      let all : take (size g.lengths) g.cells ≡ g.cells = take_all (size g.lengths) g.cells (omega arith) in
      rw e (ap (λ xs. cells_text b g.lengths xs ++ 10 ∷ []) all)

  -- an array of at most one axis has a line
  pub array_text-line : length g.cells ≡ size g.lengths → length g.lengths ≤ 1 → cells_text b g.lengths (take (size g.lengths) g.cells) ++ 10 ∷ [] ≡ array_text_by b g
  array_text-line whole h = lines whole (few-axes _ _ h)

  -- and so has each with cells
  pub array_text-lines : length g.cells ≡ size g.lengths → 0 < length g.cells → cells_text b g.lengths (take (size g.lengths) g.cells) ++ 10 ∷ [] ≡ array_text_by b g
  array_text-lines whole h = lines whole (some-cells _ _ h)

  -- one of more axes without cells is no text
  pub array_text-none : 1 < length g.lengths → length g.cells ≡ 0 → array_text_by b g ≡ []
  array_text-none h e = rw (no-cells (length g.lengths) (length g.cells) h e) refl
