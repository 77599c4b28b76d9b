-- Totals of the elements at different places of a list: each is that of a selection.
use Rattle.std.proofs.Common.{◌≡◌, ◌≢◌, ◌∙◌, ◌<◌, ℕ, zero, suc, Bool, true, false, if◌then◌else◌, inl, inr, List, [], ◌∷◌, length, map, Option, Some, ap, sym, refl, arith}
use Rattle.std.specs.Prelude.{All, AllPairs, Contains, filter_map, nat_eq, slice_get}
use Rattle.std.specs.List.{cons_option}
use Rattle.std.proofs.lemmas.Bool.{eq-eqb}
use Rattle.std.proofs.lemmas.Bool.Decides.{eqb_tells}
use Rattle.std.proofs.lemmas.List.Elements.{All-cons, All-head, All-tail}
use Rattle.std.proofs.lemmas.List.Kept.{AllPairs-cons}
use Rattle.ndarray.specs.Algebra.{CommutativeMonoid}
use Rattle.ndarray.specs.Sums.{select, total, total_by}
use Rattle.ndarray.proofs.algebra.Totals.{value_of}
use Rattle.ndarray.proofs.lists.Elements.{slice_get-Some}
use Rattle.ndarray.proofs.lists.Pairs.{AllPairs-head, AllPairs-tail, Contains-first, Contains-later}
use Rattle.ndarray.proofs.sums.Selections.{select-none}

-- the mask that keeps a place as well
abbrev also : ℕ → (ℕ → Bool) → ℕ → Bool
also p keep i = if nat_eq i p then true else keep i

other-place : (i p : ℕ) → i ≢ p → nat_eq i p ≡ false
other-place i p other = elim (eqb_tells i p) [
  | inl same ↦ absurd (other same.1)
  | inr differ ↦ differ.0
]

-- one place further in both
also-later : (p : ℕ) (keep : ℕ → Bool) (i : ℕ) → also (suc p) keep (suc i) ≡ also p (λ j. keep (suc j)) i
also-later p keep i = ap (λ b. if b then true else keep (suc i)) (elim (eqb_tells i p) [
  | inl same ↦ eq-eqb (suc i) (suc p) (let e = same.1 in omega (arith, e)) ∙ sym same.0
  | inr differ ↦ other-place (suc i) (suc p) (λ e. differ.1 (omega (arith, e))) ∙ sym differ.0
])

-- masks that keep the same places select the same
select-same : {A : Type 0} (xs : List A) (f h : ℕ → Bool) → ((i : ℕ) → f i ≡ h i) → select f xs ≡ select h xs
select-same [] f h e = refl
select-same (x ∷ xs) f h e =
    ap (λ l. if f 0 then x ∷ l else l) (select-same xs (λ i. f (suc i)) (λ i. h (suc i)) (λ i. e (suc i)))
    ∙ ap (λ b. if b then x ∷ select (λ i. h (suc i)) xs else select (λ i. h (suc i)) xs) (e 0)

module _ {A C : Type 0} (M : CommutativeMonoid C) (value : A → C) where
  kept-also : (xs : List A) (keep : ℕ → Bool) (p : ℕ) (x : A) → slice_get xs p ≡ Some x → keep p ≡ false → total_by M value (select (also p keep) xs) ≡ M.op (value x) (total_by M value (select keep xs))
  kept-also [] keep p x e out = absurd (cc)
  kept-also (y ∷ ys) keep zero x e out =
      let same : y ≡ x = cc in
      ap (λ l. M.op (value y) (total_by M value l)) (select-same ys (λ i. also 0 keep (suc i)) (λ i. keep (suc i)) (λ i. ap (λ b. if b then true else keep (suc i)) (other-place (suc i) 0 (λ e. absurd (omega (arith, e))))))
      ∙ ap (λ z. M.op (value z) (total_by M value (select (λ i. keep (suc i)) ys))) same
      ∙ ap (λ b. M.op (value x) (total_by M value (if b then y ∷ select (λ i. keep (suc i)) ys else select (λ i. keep (suc i)) ys))) (sym out)
  kept-also (y ∷ ys) keep (suc p) x e out =
      ap (λ b. total_by M value (chosen (if b then true else keep 0) (select (λ i. also (suc p) keep (suc i)) ys))) (other-place 0 (suc p) (λ e. absurd (omega (arith, e))))
      ∙ first (ap (total_by M value) (select-same ys (λ i. also (suc p) keep (suc i)) (also p (λ i. keep (suc i))) (also-later p keep)) ∙ kept-also ys (λ i. keep (suc i)) p x e out) (keep 0)
    where
      chosen : Bool → List A → List A
      chosen b l = if b then y ∷ l else l

      first : total_by M value (select (λ i. also (suc p) keep (suc i)) ys) ≡ M.op (value x) (total_by M value (select (λ i. keep (suc i)) ys))
          → (b : Bool) → total_by M value (chosen b (select (λ i. also (suc p) keep (suc i)) ys)) ≡ M.op (value x) (total_by M value (chosen b (select (λ i. keep (suc i)) ys)))
      first rest true =
          let t : C = total_by M value (select (λ i. keep (suc i)) ys) in
          ap (M.op (value y)) rest
          ∙ (sym (M.associates (value y) (value x) t) ∙ (ap (λ s. M.op s t) (M.commutes (value y) (value x)) ∙ M.associates (value x) (value y) t))
      first rest false = rest

  -- a selection with the total of the elements at some places
  pub record SelectsPlaces (xs : List A) (ps : List ℕ) : Type 0 where
    pub keep : ℕ → Bool
    pub others : (p : ℕ) → (Contains ps p → ⊥) → keep p ≡ false
    pub same : total_by M value (select keep xs) ≡ total M (map (λ p. value_of M value (slice_get xs p)) ps)

  pub places-selected : (xs : List A) (ps : List ℕ) → AllPairs ◌≢◌ ps → All (λ p. p < length xs) ps → SelectsPlaces xs ps
  places-selected xs [] once within = record { keep = λ _. false; others = λ p out. refl; same = ap (total_by M value) (select-none xs) }
  places-selected xs (p ∷ ps) once within =
      let rest = places-selected xs ps (AllPairs-tail ◌≢◌ p ps once) (All-tail (λ p. p < length xs) p ps within) in
      let (x, here) = slice_get-Some xs p (All-head (λ p. p < length xs) p ps within) in
      record {
        keep = also p rest.keep;
        others = λ q out. elim (eqb_tells q p) [
          | inl same ↦ absurd (out (rw same.1 (Contains-first p ps)))
          | inr other ↦ ap (λ b. if b then true else rest.keep q) other.0 ∙ rest.others q (λ c. out (Contains-later p ps q c))
        ];
        same = kept-also xs rest.keep p x here (rest.others p (λ c. AllPairs-head ◌≢◌ p ps p once c refl))
            ∙ (ap (M.op (value x)) rest.same ∙ ap (λ o. M.op (value_of M value o) (total M (map (λ p. value_of M value (slice_get xs p)) ps))) (sym here));
      }

  -- the total of a selection of elements that a function finds is that of what it finds of the same selection
  pub found-selected : {X : Type 0} (f : X → Option A) (xs : List X) → All (λ x. (y : A) × (f x ≡ Some y)) xs → (keep : ℕ → Bool)
      → total_by M value (select keep (filter_map f xs)) ≡ total M (map (λ x. value_of M value (f x)) (select keep xs))
  found-selected f [] some keep = refl
  found-selected f (x ∷ xs) some keep =
      let (y, here) = All-head (λ x. (y : A) × (f x ≡ Some y)) x xs some in
      ap (λ o. total_by M value (select keep (cons_option o (filter_map f xs)))) here
      ∙ first y here (keep 0) (found-selected f xs (All-tail (λ x. (y : A) × (f x ≡ Some y)) x xs some) (λ i. keep (suc i)))
    where
      chosen : {Y : Type 0} → Bool → Y → List Y → List Y
      chosen b y l = if b then y ∷ l else l

      first : (y : A) → f x ≡ Some y → (b : Bool) → total_by M value (select (λ i. keep (suc i)) (filter_map f xs)) ≡ total M (map (λ x. value_of M value (f x)) (select (λ i. keep (suc i)) xs))
          → total_by M value (chosen b y (select (λ i. keep (suc i)) (filter_map f xs))) ≡ total M (map (λ x. value_of M value (f x)) (chosen b x (select (λ i. keep (suc i)) xs)))
      first y here true e =
          ap (M.op (value y)) e
          ∙ ap (λ o. M.op (value_of M value o) (total M (map (λ x. value_of M value (f x)) (select (λ i. keep (suc i)) xs)))) (sym here)
      first y here false e = e

-- a selection has elements of the list alone, and in their order
module _ {X : Type 0} where
  chosen-all : (P : X → Type 0) (x : X) (ys : List X) → P x → All P ys → (b : Bool) → All P (if b then x ∷ ys else ys)
  chosen-all P x ys here all true = All-cons P x ys here all
  chosen-all P x ys here all false = all

  pub select-all : (P : X → Type 0) (xs : List X) (keep : ℕ → Bool) → All P xs → All P (select keep xs)
  select-all P [] keep all = all
  select-all P (x ∷ xs) keep all = chosen-all P x (select (λ i. keep (suc i)) xs) (All-head P x xs all) (select-all P xs (λ i. keep (suc i)) (All-tail P x xs all)) (keep 0)

  chosen-pairs : (R : X → X → Type 0) (x : X) (ys : List X) → All (R x) ys → AllPairs R ys → (b : Bool) → AllPairs R (if b then x ∷ ys else ys)
  chosen-pairs R x ys here up true = AllPairs-cons R x ys here up
  chosen-pairs R x ys here up false = up

  pub select-pairs : (R : X → X → Type 0) (xs : List X) (keep : ℕ → Bool) → AllPairs R xs → AllPairs R (select keep xs)
  select-pairs R [] keep up = up
  select-pairs R (x ∷ xs) keep up =
      chosen-pairs R x (select (λ i. keep (suc i)) xs)
      (select-all (R x) xs (λ i. keep (suc i)) (λ k d lt. up 0 (suc k) d (omega arith) (omega arith))) (select-pairs R xs (λ i. keep (suc i)) (AllPairs-tail R x xs up)) (keep 0)
