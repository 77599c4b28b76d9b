-- Axes turned so that their strides go up.
use Rattle.std.proofs.Common.{◌≡◌, ◌≢◌, ℕ, ◌+◌, ◌-◌, ◌*◌, ◌/◌, ◌%◌, ◌<◌, ◌≤◌, ◌^◌, cond, suc, zero, List, [], ◌∷◌, length, get_or, inl, inr, refl, ◌∙◌, ap, arith}
use Rattle.std.specs.Prelude.{nat_eq}
use Rattle.std.proofs.lemmas.Bool.{cases_eq}
use Rattle.std.proofs.lemmas.Bool.Decides.{nat_tests}
use Rattle.ndarray.specs.Index.{InBox}
use Rattle.ndarray.specs.base.Places.{dot}
use Rattle.ndarray.specs.base.Nested.{distance, reach, sum_over_axes, forward_index, below_first}
use Rattle.ndarray.proofs.strides.NestedLifts.{lift}

-- ---- one axis

cond-same : (x y u v : ℕ) → x ≡ y → cond (nat_eq x y) u v ≡ u
cond-same x y u v h = grind (arith, nat_tests)

cond-other : (x y u v : ℕ) → x ≢ y → cond (nat_eq x y) u v ≡ v
cond-other x y u v h = grind (arith, nat_tests)

-- a stride that goes up
pub forward_index-up : (n b i : ℕ) → distance b ≡ b % 2 ^ 64 → forward_index n b i ≡ i
unfolding forward_index
forward_index-up n b i e = cond-same (distance b) (b % 2 ^ 64) i (n - 1 - i) e

pub below_first-up : (n b : ℕ) → distance b ≡ b % 2 ^ 64 → below_first n b ≡ 0
unfolding below_first
below_first-up n b e = cond-same (distance b) (b % 2 ^ 64) 0 (reach n b) e

-- a stride that goes down
pub forward_index-down : (n b i : ℕ) → distance b ≢ b % 2 ^ 64 → forward_index n b i ≡ n - 1 - i
unfolding forward_index
forward_index-down n b i ne = cond-other (distance b) (b % 2 ^ 64) i (n - 1 - i) ne

pub below_first-down : (n b : ℕ) → distance b ≢ b % 2 ^ 64 → below_first n b ≡ reach n b
unfolding below_first
below_first-down n b ne = cond-other (distance b) (b % 2 ^ 64) 0 (reach n b) ne

-- no axis goes below its first place farther than it reaches
pub below_first-le : (n b : ℕ) → below_first n b ≤ reach n b
below_first-le n b =
    elim (cases_eq (distance b) (b % 2 ^ 64)) [
      | inl up ↦ (let e = below_first-up n b up in omega (arith, e))
      | inr down ↦ (let e = below_first-down n b down in omega (arith, e))
    ]

-- it is an index of the axis
pub forward_index-within : (n b i : ℕ) → i < n → forward_index n b i < n
forward_index-within n b i lt =
    elim (cases_eq (distance b) (b % 2 ^ 64)) [
      | inl up ↦ (let e = forward_index-up n b i up in omega (arith, e))
      | inr down ↦ (let e = forward_index-down n b i down in omega (arith, e))
    ]

-- an axis that is turned twice is as it was
pub forward_index-again : (n b i : ℕ) → i < n → forward_index n b (forward_index n b i) ≡ i
forward_index-again n b i lt =
    elim (cases_eq (distance b) (b % 2 ^ 64)) [
      | inl up ↦ forward_index-up n b (forward_index n b i) up ∙ forward_index-up n b i up
      | inr down ↦ (let e = forward_index-down n b i down in let f = forward_index-down n b (forward_index n b i) down in omega (arith, e, f))
    ]

-- i times a stride that goes down by m, and how far the axis goes below its first place
plain : (i b m q n : ℕ) → i < n → b + m ≡ 2 ^ 64 * q → i * b + (n - 1) * m ≡ (n - 1 - i) * m + 2 ^ 64 * (i * q)
plain i b m q n lt e =
    let p : i * (b + m) ≡ i * (2 ^ 64 * q) = ap (λ x. i * x) e in
    let r : n - 1 ≡ n - 1 - i + i = omega arith in
    let s : (n - 1) * m ≡ (n - 1 - i + i) * m = ap (λ x. x * m) r in
    omega (arith, p, s)

-- how far an index lies above the lowest place of its axis
pub forward_index-far : (n b i : ℕ) → i < n → (q : ℕ) × (i * b + below_first n b ≡ forward_index n b i * distance b + 2 ^ 64 * q)
forward_index-far n b i lt =
    let m : ℕ = distance b in
    let r : ℕ = b / 2 ^ 64 in
    elim (cases_eq (distance b) (b % 2 ^ 64)) [
      | inl up ↦ (
          let t = forward_index-up n b i up in
          let s = below_first-up n b up in
          let e : b ≡ m + 2 ^ 64 * r = omega (arith, up) in
          let p : i * b ≡ i * (m + 2 ^ 64 * r) = ap (λ x. i * x) e in
          let o : forward_index n b i * m ≡ i * m = ap (λ x. x * m) t in
          (i * r, omega (arith, p, s, o)))
      | inr down ↦ (
          let t = forward_index-down n b i down in
          let s = below_first-down n b down in
          let e : b + m ≡ 2 ^ 64 * (r + 1) = omega (arith, down) in
          let p = plain i b m (r + 1) n lt e in
          let o : forward_index n b i * m ≡ (n - 1 - i) * m = ap (λ x. x * m) t in
          (i * (r + 1), omega (arith, p, s, o)))
    ]

-- ---- all axes

-- the index list where all axes are turned so
unfoldable pub turned_list : List ℕ → List ℕ → List ℕ → List ℕ
turned_list [] bs is = is
turned_list (n ∷ ns) [] is = is
turned_list (n ∷ ns) (b ∷ bs) [] = []
turned_list (n ∷ ns) (b ∷ bs) (i ∷ is) = forward_index n b i ∷ turned_list ns bs is

pub turned_list-within : (ns bs is : List ℕ) → InBox ns is → InBox ns (turned_list ns bs is)
unfolding turned_list
turned_list-within [] bs is h = h
turned_list-within (n ∷ ns) [] is h = h
turned_list-within (n ∷ ns) (b ∷ bs) [] h = absurd h
turned_list-within (n ∷ ns) (b ∷ bs) (i ∷ is) h = (forward_index-within n b i h.0, turned_list-within ns bs is h.1)

pub turned_list-again : (ns bs is : List ℕ) → InBox ns is → turned_list ns bs (turned_list ns bs is) ≡ is
unfolding turned_list
turned_list-again [] bs is h = refl
turned_list-again (n ∷ ns) [] is h = refl
turned_list-again (n ∷ ns) (b ∷ bs) [] h = absurd h
turned_list-again (n ∷ ns) (b ∷ bs) (i ∷ is) h =
    ap (λ x. x ∷ turned_list ns bs (turned_list ns bs is)) (forward_index-again n b i h.0) ∙ ap (λ xs. i ∷ xs) (turned_list-again ns bs is h.1)

-- each index of it
pub turned_list-at : (ns bs is : List ℕ) (k : ℕ) → length bs ≡ length ns → InBox ns is → k < length ns → get_or (turned_list ns bs is) k 0 ≡ forward_index (get_or ns k 0) (get_or bs k 0) (get_or is k 0)
unfolding turned_list
turned_list-at [] bs is k l h lt = absurd (omega arith)
turned_list-at (n ∷ ns) [] is k l h lt = absurd (omega arith)
turned_list-at (n ∷ ns) (b ∷ bs) [] k l h lt = absurd h
turned_list-at (n ∷ ns) (b ∷ bs) (i ∷ is) zero l h lt = refl
turned_list-at (n ∷ ns) (b ∷ bs) (i ∷ is) (suc k) l h lt = turned_list-at ns bs is k (omega arith) h.1 (omega arith)

-- how far an index list lies above the lowest place of the box
pub turned_list-far : (ns bs is : List ℕ) → length bs ≡ length ns → InBox ns is → (q : ℕ) × (dot bs is + sum_over_axes below_first ns bs ≡ lift (turned_list ns bs is) bs + 2 ^ 64 * q)
unfolding turned_list dot sum_over_axes
turned_list-far [] [] [] l h = (0, refl)
turned_list-far [] [] (i ∷ is) l h = absurd h
turned_list-far [] (b ∷ bs) is l h = absurd (omega arith)
turned_list-far (n ∷ ns) [] is l h = absurd (omega arith)
turned_list-far (n ∷ ns) (b ∷ bs) [] l h = absurd h
turned_list-far (n ∷ ns) (b ∷ bs) (i ∷ is) l h =
    let s = forward_index-far n b i h.0 in
    let t = turned_list-far ns bs is (omega arith) h.1 in
    (s.0 + t.0, let u = s.1 in let v = t.1 in omega (arith, u, v))
