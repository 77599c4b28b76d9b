-- What is known of shapes that nothing is wrong with.
use Rattle.std.proofs.Common.{◌≡◌, ℕ, ◌+◌, ◌<◌, ◌≤◌, ◌^◌, suc, zero, List, [], ◌∷◌, Option, Some, None, length, drop, set, get_or, true, false, inl, inr, refl, sym, ◌∙◌, ap, arith, subst}
use Rattle.std.specs.Prelude.{All, nat_eq, nat_lt, not, if◌then◌else◌, ◌&&◌, sum_by, insert, Bool}
use Rattle.std.specs.Cmp.Lexicographic.{pointwise}
use Rattle.std.specs.List.{list_all}
use Rattle.std.proofs.Math.Seq.{drop-cons}
use Rattle.std.proofs.lemmas.Bool.{cases_lt, and_left, and_parts, le-ltb, lt-ltb, not_from_false, not_from_true}
use Rattle.std.proofs.lemmas.List.Elements.{All-cons}
use Rattle.std.proofs.lemmas.List.{at_drop_all, get_or-set_same, get_or_default, length-map, length-set, set-set, set-get_or}
use Rattle.ndarray.specs.Grid.{Grid, IsGrid, same_index}
use Rattle.ndarray.specs.Joining.{concatenate_error, concatenation_lengths, is_same_but_along, is_within_limit, shapes_of, stack_error, stack_lengths}
use Rattle.ndarray.specs.Limits.{IsWithinLimit, nonzero_size}
use Rattle.ndarray.specs.declared.base.error.ErrorKind.TheVariants.{IncompatibleShape, RangeLimited, OutOfBounds, Overflow}
use Rattle.ndarray.specs.stacking.Blocks.{JoinsAs, outer_lengths}
use Rattle.ndarray.proofs.boxes.Sizes.{nonzero-one_of, size-le}
use Rattle.ndarray.proofs.joining.OuterAxes.{nonzero-outer}
use Rattle.ndarray.proofs.lists.CellLookup.{same_index-true}

-- the first case that holds
pub if-none : {E : Type 0} (b : Bool) (e : E) (rest : Option E) → (if b then Some e else rest) ≡ None → (b ≡ false) × (rest ≡ None)
if-none true e rest h = absurd (cc)
if-none false e rest h = (refl, h)

pub not-false : (b : Bool) → not b ≡ false → b ≡ true
not-false true h = refl
not-false false h = absurd (cc)

pub list_all-head : {X : Type 0} (p : X → Bool) (x : X) (xs : List X) → list_all p (x ∷ xs) ≡ true → (p x ≡ true) × (list_all p xs ≡ true)
list_all-head p x xs h = and_parts (p x) (list_all p xs) h

pub if-false : {X : Type 0} (b : Bool) (x y : X) → b ≡ false → (if b then x else y) ≡ y
if-false true x y e = absurd (cc)
if-false false x y e = refl

pub if-true : {X : Type 0} (b : Bool) (x y : X) → b ≡ true → (if b then x else y) ≡ x
if-true true x y e = refl
if-true false x y e = absurd (cc)

-- two lists of numbers are compared element by element
pub same-pointwise : (xs ys : List ℕ) → pointwise nat_eq xs ys ≡ same_index xs ys
same-pointwise [] [] = refl
same-pointwise [] (y ∷ ys) = refl
same-pointwise (x ∷ xs) [] = refl
same-pointwise (x ∷ xs) (y ∷ ys) = ap (λ b. nat_eq x y && b) (same-pointwise xs ys)

-- a number that was put in, and another in its place
pub set-inserted : (ns : List ℕ) (a n m : ℕ) → a ≤ length ns → set (insert ns a n) a m ≡ insert ns a m
set-inserted ns zero n m le = refl
set-inserted [] (suc a) n m le = absurd (omega arith)
set-inserted (k ∷ ns) (suc a) n m le = ap (λ l. k ∷ l) (set-inserted ns a n m (omega arith))

-- a length beyond the limit is one of lengths beyond it
pub too-long : (ns : List ℕ) (a n : ℕ) → a < length ns → 2 ^ 63 ≤ n → nonzero_size (set ns a n) < 2 ^ 63 → ⊥
too-long ns a n lt much limit =
    let l = length-set ns a n in
    let one = nonzero-one_of (set ns a n) a (omega arith) in
    let here = ap (λ m. nonzero_size (m ∷ [])) (get_or-set_same ns a n 0 lt) in
    let s = size-le (n ∷ []) in
    omega arith

-- the lengths of the others, from those of the first
pub same_but_along-set : (a : ℕ) (ns ms : List ℕ) → is_same_but_along a ns ms ≡ true → ms ≡ set ns a (get_or ms a 0)
same_but_along-set a ns ms h =
    let e : ns ≡ set ms a (get_or ns a 0) = same_index-true ns (set ms a (get_or ns a 0)) h in
    sym (ap (λ l. set l a (get_or ms a 0)) e ∙ (set-set ms a (get_or ns a 0) (get_or ms a 0) ∙ set-get_or ms a 0))

module _ {A : Type 0} where
  -- of each array
  pub each-but_along : (a : ℕ) (ns : List ℕ) (gs : List (Grid A)) → list_all (is_same_but_along a ns) (shapes_of gs) ≡ true → All (λ g. g.lengths ≡ set ns a (get_or g.lengths a 0)) gs
  each-but_along a ns gs h k d lt = each gs k h lt
    where
      each : (gs : List (Grid A)) (k : ℕ) → list_all (is_same_but_along a ns) (shapes_of gs) ≡ true → k < length gs → (get_or gs k d).lengths ≡ set ns a (get_or (get_or gs k d).lengths a 0)
      each [] k h lt = absurd (omega arith)
      each (g ∷ gs) zero h lt = same_but_along-set a ns g.lengths (list_all-head (is_same_but_along a ns) g.lengths (shapes_of gs) h).0
      each (g ∷ gs) (suc k) h lt = each gs k (list_all-head (is_same_but_along a ns) g.lengths (shapes_of gs) h).1 (omega arith)

  pub each-same : (ns : List ℕ) (gs : List (Grid A)) → list_all (same_index ns) (shapes_of gs) ≡ true → All (λ g. g.lengths ≡ ns) gs
  each-same ns gs h k d lt = each gs k h lt
    where
      each : (gs : List (Grid A)) (k : ℕ) → list_all (same_index ns) (shapes_of gs) ≡ true → k < length gs → (get_or gs k d).lengths ≡ ns
      each [] k h lt = absurd (omega arith)
      each (g ∷ gs) zero h lt = sym (same_index-true ns g.lengths (list_all-head (same_index ns) g.lengths (shapes_of gs) h).0)
      each (g ∷ gs) (suc k) h lt = each gs k (list_all-head (same_index ns) g.lengths (shapes_of gs) h).1 (omega arith)

  -- ---- a loop over the arrays

  here : (p : List ℕ → Bool) (gs : List (Grid A)) (i : ℕ) (g : Grid A) → i < length gs → g ≡ get_or gs i g → list_all p (shapes_of (drop i gs)) ≡ (p g.lengths && list_all p (shapes_of (drop (i + 1) gs)))
  here p gs i g lt is =
      let next : suc i ≡ i + 1 = omega arith in
      let e : drop i gs ≡ g ∷ drop (i + 1) gs = drop-cons gs i g lt ∙ (ap (λ x. x ∷ drop (suc i) gs) (sym is) ∙ ap (λ n. g ∷ drop n gs) next) in
      ap (λ l. list_all p (shapes_of l)) e

  -- one that fails decides
  pub shapes-stop : (p : List ℕ → Bool) (gs : List (Grid A)) (i : ℕ) (g : Grid A) → i < length gs → g ≡ get_or gs i g → list_all p (shapes_of (drop i gs)) ≡ list_all p (shapes_of gs) → p g.lengths ≡ false → false ≡ list_all p (shapes_of gs)
  shapes-stop p gs i g lt is so_far fails = sym (sym so_far ∙ (here p gs i g lt is ∙ and_left (p g.lengths) (list_all p (shapes_of (drop (i + 1) gs))) fails))

  -- and one that does not leaves it to the others
  pub shapes-more : (p : List ℕ → Bool) (gs : List (Grid A)) (i : ℕ) (g : Grid A) → i < length gs → g ≡ get_or gs i g → list_all p (shapes_of (drop i gs)) ≡ list_all p (shapes_of gs) → p g.lengths ≡ true → list_all p (shapes_of (drop (i + 1) gs)) ≡ list_all p (shapes_of gs)
  shapes-more p gs i g lt is so_far passes = sym (here p gs i g lt is ∙ ap (λ b. b && list_all p (shapes_of (drop (i + 1) gs))) passes) ∙ so_far

  pub whole-more : (gs : List (Grid A)) (i : ℕ) (g : Grid A) → i < length gs → g ≡ get_or gs i g → IsGrid g → ((k : ℕ) (d : Grid A) → k < i → IsGrid (get_or gs k d)) → (k : ℕ) (d : Grid A) → k < i + 1 → IsGrid (get_or gs k d)
  whole-more gs i g lt is w so_far k d below = elim (cases_lt k i) [
    | inl before ↦ so_far k d before
    | inr after ↦
        (let e : k ≡ i = omega (arith, after, below) in
        subst IsGrid (is ∙ (get_or_default gs i g d lt ∙ ap (λ n. get_or gs n d) (sym e))) w)
  ]

  -- at the end none fails, and all are whole
  pub shapes-all : (p : List ℕ → Bool) (gs : List (Grid A)) (i : ℕ) → length gs ≤ i → list_all p (shapes_of (drop i gs)) ≡ list_all p (shapes_of gs) → true ≡ list_all p (shapes_of gs)
  shapes-all p gs i end so_far = sym (at_drop_all (λ l. list_all p (shapes_of l)) gs i end) ∙ so_far

  pub whole-all : (gs : List (Grid A)) (i : ℕ) → length gs ≤ i → ((k : ℕ) (d : Grid A) → k < i → IsGrid (get_or gs k d)) → All IsGrid gs
  whole-all gs i end so_far k d lt = so_far k d (omega arith)

  -- ---- the error of shapes of which only the size is left to see

  module _ (a : ℕ) (g : Grid A) (gs : List (Grid A)) where
    module _ (below : a < length g.lengths) (same : list_all (is_same_but_along a g.lengths) (shapes_of gs) ≡ true) where
      abbrev sums : List ℕ
      sums = concatenation_lengths a (shapes_of (g ∷ gs))

      concatenate-size : concatenate_error a (shapes_of (g ∷ gs)) ≡ (if not (is_within_limit sums) then Some Overflow else None)
      concatenate-size =
          if-false (not (nat_lt a (length g.lengths))) (Some OutOfBounds)
          (if not (list_all (is_same_but_along a g.lengths) (shapes_of gs)) then Some IncompatibleShape else if not (is_within_limit sums) then Some Overflow else None)
          (not_from_true (nat_lt a (length g.lengths)) (lt-ltb a (length g.lengths) below))
          ∙ if-false (not (list_all (is_same_but_along a g.lengths) (shapes_of gs))) (Some IncompatibleShape) (if not (is_within_limit sums) then Some Overflow else None)
          (not_from_true (list_all (is_same_but_along a g.lengths) (shapes_of gs)) same)

      pub concatenate-none : IsWithinLimit sums → concatenate_error a (shapes_of (g ∷ gs)) ≡ None
      concatenate-none limit = concatenate-size ∙ if-false (not (is_within_limit sums)) (Some Overflow) None (not_from_true (is_within_limit sums) (lt-ltb (nonzero_size sums) (2 ^ 63) limit))

      concatenate-over : (IsWithinLimit sums → ⊥) → concatenate_error a (shapes_of (g ∷ gs)) ≡ Some Overflow
      concatenate-over over = concatenate-size ∙ if-true (not (is_within_limit sums)) (Some Overflow) None (not_from_false (is_within_limit sums) (le-ltb (nonzero_size sums) (2 ^ 63) (beyond over)))
        where
          beyond : (IsWithinLimit sums → ⊥) → 2 ^ 63 ≤ nonzero_size sums
          beyond over = elim (cases_lt (nonzero_size sums) (2 ^ 63)) [ inl lt ↦ absurd (over lt) | inr ge ↦ ge ]

    module _ (most : a ≤ length g.lengths) (same : list_all (same_index g.lengths) (shapes_of gs) ≡ true) (few : length g.lengths < 32) where
      abbrev counts : List ℕ
      counts = stack_lengths a (shapes_of (g ∷ gs))

      stack-size : stack_error a (shapes_of (g ∷ gs)) ≡ (if not (is_within_limit counts) then Some Overflow else None)
      stack-size =
          if-false (nat_lt (length g.lengths) a) (Some OutOfBounds)
          (if not (list_all (same_index g.lengths) (shapes_of gs)) then Some IncompatibleShape else if nat_lt 32 (length g.lengths + 1) then Some RangeLimited else if not (is_within_limit counts) then Some Overflow else None)
          (le-ltb (length g.lengths) a most)
          ∙ (if-false (not (list_all (same_index g.lengths) (shapes_of gs))) (Some IncompatibleShape) (if nat_lt 32 (length g.lengths + 1) then Some RangeLimited else if not (is_within_limit counts) then Some Overflow else None)
          (not_from_true (list_all (same_index g.lengths) (shapes_of gs)) same)
          ∙ if-false (nat_lt 32 (length g.lengths + 1)) (Some RangeLimited) (if not (is_within_limit counts) then Some Overflow else None) (le-ltb 32 (length g.lengths + 1) (omega arith)))

      stack-none : IsWithinLimit counts → stack_error a (shapes_of (g ∷ gs)) ≡ None
      stack-none limit = stack-size ∙ if-false (not (is_within_limit counts)) (Some Overflow) None (not_from_true (is_within_limit counts) (lt-ltb (nonzero_size counts) (2 ^ 63) limit))

      stack-over : (IsWithinLimit counts → ⊥) → stack_error a (shapes_of (g ∷ gs)) ≡ Some Overflow
      stack-over over = stack-size ∙ if-true (not (is_within_limit counts)) (Some Overflow) None (not_from_false (is_within_limit counts) (le-ltb (nonzero_size counts) (2 ^ 63) (beyond over)))
        where
          beyond : (IsWithinLimit counts → ⊥) → 2 ^ 63 ≤ nonzero_size counts
          beyond over = elim (cases_lt (nonzero_size counts) (2 ^ 63)) [ inl lt ↦ absurd (over lt) | inr ge ↦ ge ]

  -- ---- the same of a list of arrays, by its first one

  module _ (a : ℕ) (gs : List (Grid A)) (g : Grid A) (rest : List (Grid A)) (all : gs ≡ g ∷ rest) where
    pub concatenate-outside : length g.lengths ≤ a → concatenate_error a (shapes_of gs) ≡ Some OutOfBounds
    concatenate-outside out = ap (λ hs. concatenate_error a (shapes_of hs)) all ∙ if-true _ _ _ (not_from_false (nat_lt a (length g.lengths)) (le-ltb a (length g.lengths) out))

    pub concatenate-differs : a < length g.lengths → list_all (is_same_but_along a g.lengths) (shapes_of rest) ≡ false → concatenate_error a (shapes_of gs) ≡ Some IncompatibleShape
    concatenate-differs below differ =
        ap (λ hs. concatenate_error a (shapes_of hs)) all
        ∙ (if-false _ _ _ (not_from_true (nat_lt a (length g.lengths)) (lt-ltb a (length g.lengths) below))
        ∙ if-true _ _ _ (not_from_false (list_all (is_same_but_along a g.lengths) (shapes_of rest)) differ))

    pub stack-outside : length g.lengths < a → stack_error a (shapes_of gs) ≡ Some OutOfBounds
    stack-outside out = ap (λ hs. stack_error a (shapes_of hs)) all ∙ if-true _ _ _ (lt-ltb (length g.lengths) a out)

    module _ (most : a ≤ length g.lengths) where
      pub stack-differs : list_all (same_index g.lengths) (shapes_of rest) ≡ false → stack_error a (shapes_of gs) ≡ Some IncompatibleShape
      stack-differs differ =
          ap (λ hs. stack_error a (shapes_of hs)) all
          ∙ (if-false _ _ _ (le-ltb (length g.lengths) a most) ∙ if-true _ _ _ (not_from_false (list_all (same_index g.lengths) (shapes_of rest)) differ))

      pub stack-many : list_all (same_index g.lengths) (shapes_of rest) ≡ true → 32 ≤ length g.lengths → stack_error a (shapes_of gs) ≡ Some RangeLimited
      stack-many same many =
          ap (λ hs. stack_error a (shapes_of hs)) all
          ∙ (if-false _ _ _ (le-ltb (length g.lengths) a most)
          ∙ (if-false _ _ _ (not_from_true (list_all (same_index g.lengths) (shapes_of rest)) same) ∙ if-true _ _ _ (lt-ltb 32 (length g.lengths + 1) (omega (arith, many)))))

    module _ (below : a < length g.lengths) (same : list_all (is_same_but_along a g.lengths) (shapes_of rest) ≡ true) where
      pub axes-below : All (λ h. a < length h.lengths) gs
      axes-below =
          subst (All (λ h. a < length h.lengths)) (sym all)
          (All-cons (λ h. a < length h.lengths) g rest below
          (λ k d lt. let e = ap length (each-but_along a g.lengths rest same k d lt) ∙ length-set g.lengths a (get_or (get_or rest k d).lengths a 0) in omega (arith, e, below)))

      pub concatenate-overflow : (IsWithinLimit (set g.lengths a (sum_by (λ ns. get_or ns a 0) (shapes_of gs))) → ⊥) → concatenate_error a (shapes_of gs) ≡ Some Overflow
      concatenate-overflow over =
          ap (λ hs. concatenate_error a (shapes_of hs)) all
          ∙ concatenate-over a g rest below same (λ limit. over (subst (λ hs. IsWithinLimit (set g.lengths a (sum_by (λ ns. get_or ns a 0) (shapes_of hs)))) (sym all) limit))

      pub concatenate-joins : (os ms : List ℕ) → os ≡ outer_lengths a g.lengths → ms ≡ set g.lengths a (sum_by (λ ns. get_or ns a 0) (shapes_of gs)) → IsWithinLimit ms → IsWithinLimit g.lengths → IsGrid g → All IsGrid rest
          → JoinsAs a (concatenate_error a) (concatenation_lengths a) gs os ms
      concatenate-joins os ms outer lengths limit own whole wholes =
          let sums : ms ≡ concatenation_lengths a (shapes_of (g ∷ rest)) = lengths ∙ ap (λ hs. set g.lengths a (sum_by (λ ns. get_or ns a 0) (shapes_of hs))) all in
          let within = nonzero-outer a g.lengths in
          subst (λ hs. JoinsAs a (concatenate_error a) (concatenation_lengths a) hs os ms) (sym all)
          (record {
            none = concatenate-none a g rest below same (subst IsWithinLimit sums limit);
            lengths = sums;
            outer = outer;
            outer_limit = subst IsWithinLimit (sym outer) (omega (arith, within, own));
            whole = All-cons IsGrid g rest whole wholes;
          })

    module _ (most : a ≤ length g.lengths) (same : list_all (same_index g.lengths) (shapes_of rest) ≡ true) (few : length g.lengths < 32) where
      counted : insert g.lengths a (length gs) ≡ stack_lengths a (shapes_of (g ∷ rest))
      counted = ap (insert g.lengths a) (ap length all ∙ sym (length-map (g ∷ rest) (λ h. h.lengths)))

      pub stack-overflow : (IsWithinLimit (insert g.lengths a (length gs)) → ⊥) → stack_error a (shapes_of gs) ≡ Some Overflow
      stack-overflow over =
          ap (λ hs. stack_error a (shapes_of hs)) all
          ∙ stack-over a g rest most same few (λ limit. over (subst IsWithinLimit (sym counted) limit))

      pub stack-joins : (os ms : List ℕ) → os ≡ outer_lengths a g.lengths → ms ≡ insert g.lengths a (length gs) → IsWithinLimit ms → IsWithinLimit g.lengths → IsGrid g → All IsGrid rest
          → JoinsAs a (stack_error a) (stack_lengths a) gs os ms
      stack-joins os ms outer lengths limit own whole wholes =
          let within = nonzero-outer a g.lengths in
          subst (λ hs. JoinsAs a (stack_error a) (stack_lengths a) hs os ms) (sym all)
          (record {
            none = stack-none a g rest most same few (subst IsWithinLimit (lengths ∙ counted) limit);
            lengths = lengths ∙ counted;
            outer = outer;
            outer_limit = subst IsWithinLimit (sym outer) (omega (arith, within, own));
            whole = All-cons IsGrid g rest whole wholes;
          })
