-- A row in parts, and what two readings of its index lists give.
use Rattle.std.proofs.Common.{inl, inr, ◌≡◌, ℕ, ◌+◌, ◌<◌, suc, zero, List, [], ◌∷◌, ◌++◌, Option, Some, length, set, get_or, refl, sym, ◌∙◌, ap, arith, subst, All, ◌-◌, ◌≤◌}
use Rattle.std.specs.Prelude.{filter_map, flat_map, replicate, pos, ◌+ℤ◌}
use Rattle.std.proofs.lemmas.Int.{ints}
use Rattle.std.proofs.lemmas.Bool.{cases_lt}
use Rattle.std.proofs.lemmas.List.Elements.{filter_map-append}
use Rattle.std.proofs.lemmas.List.{length-set, get_or-set_same, get_or-set_other, set-set, set-get_or, set_past}
use Rattle.ndarray.specs.Triangles.{column_minus_row}
use Rattle.ndarray.specs.base.Ranks.{row_at, row_from}
use Rattle.ndarray.proofs.lists.Parts.{All-first, All-second}

module _ (is : List ℕ) (axis : ℕ) where
  pub row_at-none : row_at is axis 0 ≡ is
  row_at-none = (let e : get_or is axis 0 + 0 ≡ get_or is axis 0 = omega arith in ap (set is axis) e) ∙ set-get_or is axis 0

  pub row_at-further : (b c : ℕ) → row_at (row_at is axis b) axis c ≡ row_at is axis (b + c)
  row_at-further b c = set-set is axis (get_or is axis 0 + b) _ ∙ elim (cases_lt axis (length is)) [
    | inl lt ↦ (let g = get_or-set_same is axis (get_or is axis 0 + b) 0 lt in
        let e : get_or (row_at is axis b) axis 0 + c ≡ get_or is axis 0 + (b + c) = omega (arith, g) in
        ap (set is axis) e)
    | inr past ↦ set_past is axis _ (omega (arith, past)) ∙ sym (set_past is axis (get_or is axis 0 + (b + c)) (omega (arith, past)))
  ]

  row_at-more : (c : ℕ) → row_at (row_at is axis 1) axis c ≡ row_at is axis (suc c)
  row_at-more c = row_at-further 1 c ∙ (let e : 1 + c ≡ suc c = omega arith in ap (row_at is axis) e)

-- a row is its first part and the rest
pub row_from-append : (m n : ℕ) (is : List ℕ) (axis : ℕ) → row_from is axis (m + n) ≡ row_from is axis m ++ row_from (row_at is axis m) axis n
row_from-append zero n is axis = (let e : 0 + n ≡ n = omega arith in ap (row_from is axis) e) ∙ ap (λ js. row_from js axis n) (sym (row_at-none is axis))
row_from-append (suc m) n is axis =
    (let e : suc m + n ≡ suc (m + n) = omega arith in ap (row_from is axis) e)
    ∙ ap (λ l. is ∷ l)
    (row_from-append m n (row_at is axis 1) axis
    ∙ ap (λ js. row_from (row_at is axis 1) axis m ++ row_from js axis n) (row_at-more is axis m))

-- and a middle part is between a first one and a last one
pub row_from-middle : (from n m : ℕ) (is : List ℕ) (axis : ℕ) → from + n ≤ m
    → row_from is axis m ≡ row_from is axis from ++ (row_from (row_at is axis from) axis n ++ row_from (row_at is axis (from + n)) axis (m - (from + n)))
row_from-middle from n m is axis fits =
    (let e : m ≡ from + (n + (m - (from + n))) = omega (arith, fits) in ap (row_from is axis) e)
    ∙ (row_from-append from (n + (m - (from + n))) is axis
    ∙ ap (λ l. row_from is axis from ++ l)
    (row_from-append n (m - (from + n)) (row_at is axis from) axis
    ∙ ap (λ js. row_from (row_at is axis from) axis n ++ row_from js axis (m - (from + n))) (row_at-further is axis from n)))

-- what holds along a row holds along a part of it
pub row_from-part : (P : List ℕ → Type 0) (from n m : ℕ) (is : List ℕ) (axis : ℕ) → from + n ≤ m → All P (row_from is axis m) → All P (row_from (row_at is axis from) axis n)
row_from-part P from n m is axis fits all = All-first P _ _ (All-second P _ _ (subst (All P) (row_from-middle from n m is axis fits) all))

-- two readings that agree along a row give the same of it
pub row_from-read : {A : Type 0} (f h : List ℕ → Option A) (n : ℕ) (is : List ℕ) (axis : ℕ) → ((c : ℕ) → c < n → f (row_at is axis c) ≡ h (row_at is axis c)) → filter_map f (row_from is axis n) ≡ filter_map h (row_from is axis n)
row_from-read f h zero is axis same = refl
row_from-read f h (suc n) is axis same =
    let here : f is ≡ h is = ap f (sym (row_at-none is axis)) ∙ (same 0 (omega arith) ∙ ap h (row_at-none is axis)) in
    let rest = row_from-read f h n (row_at is axis 1) axis
    (λ c more. ap f (row_at-more is axis c) ∙ (same (suc c) (omega (arith, more)) ∙ ap h (sym (row_at-more is axis c)))) in
    rw (here, rest) refl

-- one value at each index list
pub row_from-constant : {A : Type 0} (x : A) (n : ℕ) (is : List ℕ) (axis : ℕ) → filter_map (λ _. Some x) (row_from is axis n) ≡ replicate n x
row_from-constant x zero is axis = refl
row_from-constant x (suc n) is axis = ap (λ l. x ∷ l) (row_from-constant x n (row_at is axis 1) axis)

-- rows read one after another
pub filter_map-rows : {X Y A : Type 0} (f : Y → Option A) (row : X → List Y) (xs : List X) → filter_map f (flat_map row xs) ≡ flat_map (λ x. filter_map f (row x)) xs
filter_map-rows f row [] = refl
filter_map-rows f row (x ∷ xs) = filter_map-append f (row x) (flat_map row xs) ∙ ap (λ l. filter_map f (row x) ++ l) (filter_map-rows f row xs)

-- along the last axis the diagonals come one after another
pub diagonal-along : (is : List ℕ) (c : ℕ) → 2 ≤ length is → column_minus_row (row_at is (length is - 1) c) ≡ column_minus_row is +ℤ pos c
diagonal-along is c axes =
    let axis : ℕ = length is - 1 in
    let v : ℕ = get_or is axis 0 + c in
    let l : length (row_at is axis c) ≡ length is = length-set is axis v in
    let column : get_or (row_at is axis c) axis 0 ≡ v = get_or-set_same is axis v 0 (omega arith) in
    let row : get_or (row_at is axis c) (length is - 2) 0 ≡ get_or is (length is - 2) 0 = get_or-set_other is axis (length is - 2) v 0 (λ e. omega arith) in
    rw (l, column, row) (omega (arith, ints))
