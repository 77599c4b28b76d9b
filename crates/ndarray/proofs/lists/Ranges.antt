-- Numbers that are counted, one after another and in blocks.
use Rattle.std.proofs.Common.{◌≡◌, ◌∙◌, ℕ, zero, suc, ◌+◌, ◌*◌, ◌<◌, ◌≤◌, List, [], ◌∷◌, ◌++◌, All, ap, arith, map, refl, subst, sym}
use Rattle.std.specs.Prelude.{flat_map}
use Rattle.std.specs.List.{range_with_len}
use Rattle.std.proofs.lemmas.Grind.{flat_map-append}
use Rattle.std.proofs.lemmas.List.Concat.{flat_map_single}
use Rattle.std.proofs.lemmas.List.Folds.{flat_map-map}
use Rattle.std.proofs.lemmas.List.FromFn.{fill_by_all, get_or-range_with_len, length-range_with_len}
use Rattle.ndarray.proofs.lists.FlatMaps.{flat_map-same}

-- the numbers after the first
pub range-later : (a n : ℕ) → range_with_len (suc a) n ≡ map suc (range_with_len a n)
range-later a zero = refl
range-later a (suc n) = ap (λ k. suc a ∷ range_with_len k n) (omega arith) ∙ ap (λ l. suc a ∷ l) (range-later (a + 1) n)

pub range-first : (n : ℕ) → range_with_len 0 (suc n) ≡ 0 ∷ map suc (range_with_len 0 n)
range-first n = ap (λ l. 0 ∷ l) (range-later 0 n)

pub range-last : (a n : ℕ) → range_with_len a (suc n) ≡ range_with_len a n ++ (a + n) ∷ []
range-last a zero = ap (λ k. k ∷ []) (omega arith)
range-last a (suc n) = ap (λ l. a ∷ l) (range-last (a + 1) n) ∙ ap (λ k. a ∷ (range_with_len (a + 1) n ++ k ∷ [])) (omega arith)

pub range-append : (a n m : ℕ) → range_with_len a (n + m) ≡ range_with_len a n ++ range_with_len (a + n) m
range-append a zero m = ap (λ k. range_with_len a k) (omega arith) ∙ ap (λ k. range_with_len k m) (omega arith)
range-append a (suc n) m =
    ap (range_with_len a) (let e : suc n + m ≡ suc (n + m) = omega arith in e)
    ∙ (ap (λ l. a ∷ l) (range-append (a + 1) n m)
    ∙ ap (λ k. a ∷ (range_with_len (a + 1) n ++ range_with_len k m)) (omega arith))

range-shifted : (a n : ℕ) → range_with_len a n ≡ map (λ k. a + k) (range_with_len 0 n)
range-shifted a n = fill_by_all (λ k. a + k) (range_with_len a n) n 0 (length-range_with_len a n) (λ k lt. get_or-range_with_len a n k 0 lt)

pub All-range : (P : ℕ → Type 0) (n : ℕ) → ((k : ℕ) → k < n → P k) → All P (range_with_len 0 n)
All-range P n each = λ k d lt.
    let below : k < n = (let l = length-range_with_len 0 n in omega (arith, l, lt)) in
    subst P (sym (get_or-range_with_len 0 n k d below ∙ (let e : 0 + k ≡ k = omega arith in e))) (each k below)

module _ {Y : Type 0} where
  -- what a function gives that agrees with another one on them
  pub flat_map-range : (f h : ℕ → List Y) (a n : ℕ) → ((i : ℕ) → a ≤ i → i < a + n → f i ≡ h i) → flat_map f (range_with_len a n) ≡ flat_map h (range_with_len a n)
  flat_map-range f h a zero e = refl
  flat_map-range f h a (suc n) e =
      ap (λ l. l ++ flat_map f (range_with_len (a + 1) n)) (e a (omega arith) (omega arith))
      ∙ ap (λ l. h a ++ l) (flat_map-range f h (a + 1) n (λ i l m. e i (omega arith) (omega arith)))

  -- each number below l * m is i * m + k, for an i below l and a k below m
  pub flat_map-blocks : (f : ℕ → List Y) (l m : ℕ) → flat_map f (range_with_len 0 (l * m)) ≡ flat_map (λ i. flat_map (λ k. f (i * m + k)) (range_with_len 0 m)) (range_with_len 0 l)
  flat_map-blocks f zero m = ap (λ n. flat_map f (range_with_len 0 n)) (let none : 0 * m ≡ 0 = omega arith in none)
  flat_map-blocks f (suc l) m =
      let first = λ (k : ℕ). (let e : k ≡ 0 * m + k = omega arith in ap f e) in
      let later = λ (i k : ℕ). (let e : m + (i * m + k) ≡ suc i * m + k = omega arith in ap f e) in
      let block = λ (i : ℕ). flat_map (λ k. f (i * m + k)) (range_with_len 0 m) in
      ap (λ n. flat_map f (range_with_len 0 n)) (let e : suc l * m ≡ m + l * m = omega arith in e)
      ∙ (ap (flat_map f) (range-append 0 m (l * m) ∙ ap (λ k. range_with_len 0 m ++ range_with_len k (l * m)) (let e : 0 + m ≡ m = omega arith in e))
      ∙ (flat_map-append f (range_with_len 0 m) (range_with_len m (l * m))
      ∙ (ap (λ ys. ys ++ flat_map f (range_with_len m (l * m))) (flat_map-same f (λ k. f (0 * m + k)) first (range_with_len 0 m))
      ∙ ap (λ ys. block 0 ++ ys)
      (ap (flat_map f) (range-shifted m (l * m))
      ∙ (flat_map-map f (λ k. m + k) (range_with_len 0 (l * m))
      ∙ (flat_map-blocks (λ k. f (m + k)) l m
      ∙ (flat_map-same _ (λ i. block (suc i)) (λ i. flat_map-same _ _ (later i) (range_with_len 0 m)) (range_with_len 0 l)
      ∙ (sym (flat_map-map block suc (range_with_len 0 l)) ∙ sym (ap (flat_map block) (range-later 0 l))))))))))

  pub map-blocks : (f : ℕ → Y) (l m : ℕ) → map f (range_with_len 0 (l * m)) ≡ flat_map (λ i. map (λ k. f (i * m + k)) (range_with_len 0 m)) (range_with_len 0 l)
  map-blocks f l m =
      sym (flat_map_single f (range_with_len 0 (l * m)))
      ∙ (flat_map-blocks (λ k. f k ∷ []) l m ∙ flat_map-same _ _ (λ i. flat_map_single (λ k. f (i * m + k)) (range_with_len 0 m)) (range_with_len 0 l))
