-- The diagonal of an array.
use Rattle.std.proofs.Common.{◌≡◌, ℕ, ◌+◌, ◌-◌, ◌*◌, ◌/◌, ◌%◌, ◌<◌, ◌≤◌, ◌^◌, suc, zero, List, [], ◌∷◌, length, replicate, get_or, min, Option, refl, sym, ◌∙◌, ap, arith}
use Rattle.std.specs.Prelude.{remove, sum}
use Rattle.std.specs.List.{fold}
use Rattle.std.proofs.Math.Nat.{add-mul-mod_self_left, mul-le-mul_left, mul-le-mul_right}
use Rattle.std.proofs.lemmas.List.{length-replicate}
use Rattle.std.proofs.lemmas.List.Sums.{sum_by-cons}
use Rattle.std.proofs.lemmas.Nat.{div-add-mod'}
use Rattle.ndarray.specs.Index.{InBox}
use Rattle.ndarray.specs.Limits.{IsWithinLimit}
use Rattle.ndarray.specs.Diagonals.{shortest}
use Rattle.ndarray.specs.base.Nested.{AreNested, distance, reach, reached_within, sum_over_axes}
use Rattle.ndarray.specs.base.Places.{dot, place, Reaches, Rearranges}
use Rattle.ndarray.proofs.boxes.Boxes.{InBox-from_each}
use Rattle.ndarray.proofs.boxes.Sizes.{length-fits, limit-one}
use Rattle.ndarray.proofs.strides.NestedPlaces.{nested-distinct}

-- ---- the shortest length

fold-min : (n : ℕ) (ns : List ℕ) → fold min n ns ≤ n
fold-min n [] = omega arith
fold-min n (m ∷ ns) = let h = fold-min (min n m) ns in omega (arith, h)

shortest-later : (n : ℕ) (ns : List ℕ) (k : ℕ) → k < length ns → fold min n ns ≤ get_or ns k 0
shortest-later n [] k lt = absurd (omega arith)
shortest-later n (m ∷ ns) zero lt = let h = fold-min (min n m) ns in omega (arith, h)
shortest-later n (m ∷ ns) (suc k) lt = shortest-later (min n m) ns k (omega arith)

-- no length is below the shortest
pub shortest-each : (ns : List ℕ) (k : ℕ) → k < length ns → shortest ns ≤ get_or ns k 0
shortest-each [] k lt = absurd (omega arith)
shortest-each (n ∷ ns) zero lt = fold-min n ns
shortest-each (n ∷ ns) (suc k) lt = shortest-later n ns k (omega arith)

shortest-fits : (ns : List ℕ) → IsWithinLimit ns → shortest ns < 2 ^ 63
shortest-fits [] limit = omega arith
shortest-fits (n ∷ ns) limit = let a = shortest-each (n ∷ ns) 0 (omega arith) in let b = length-fits (n ∷ ns) 0 (omega arith) limit in omega (arith, a, b)

-- ---- index lists of one index

pub get_or-alike : (n i k : ℕ) → k < n → get_or (replicate n i) k 0 ≡ i
get_or-alike zero i k lt = absurd (omega arith)
get_or-alike (suc n) i zero lt = refl
get_or-alike (suc n) i (suc k) lt = get_or-alike n i k (omega arith)

pub InBox-alike : (ns : List ℕ) (i : ℕ) → i < shortest ns → InBox ns (replicate (length ns) i)
InBox-alike ns i lt =
    InBox-from_each ns (replicate (length ns) i) (length-replicate (length ns) i)
    (λ k below.
    let least = shortest-each ns k below in
    let here = get_or-alike (length ns) i k below in
    omega (arith, least, here, lt))

dot-alike : (bs : List ℕ) (i : ℕ) → dot bs (replicate (length bs) i) ≡ i * sum bs
unfolding dot
dot-alike [] i = omega arith
dot-alike (b ∷ bs) i = let ih = dot-alike bs i in let all = sum_by-cons (λ x. x) b bs in let times : i * sum (b ∷ bs) ≡ i * (b + sum bs) = ap (λ x. i * x) all in omega (arith, ih, times)

-- ---- the stride of the diagonal: all strides together

distance-sum : (b c : ℕ) → distance (b + c) ≤ distance b + distance c
distance-sum b c = omega arith

reach-alike : (m : ℕ) (ns bs : List ℕ) → length bs ≡ length ns → ((k : ℕ) → k < length ns → m ≤ get_or ns k 0) → (m - 1) * distance (sum bs) ≤ sum_over_axes reach ns bs
unfolding sum_over_axes
reach-alike m [] [] l le = omega arith
reach-alike m [] (b ∷ bs) l le = absurd (omega arith)
reach-alike m (n ∷ ns) [] l le = absurd (omega arith)
reach-alike m (n ∷ ns) (b ∷ bs) l le =
    let ih = reach-alike m ns bs (omega arith) (λ k lt. le (suc k) (omega arith)) in
    let here = le 0 (omega arith) in
    let less : (m - 1) * distance b ≤ (n - 1) * distance b = mul-le-mul_right (distance b) (omega (arith, here)) in
    let both : (m - 1) * distance (b + sum bs) ≤ (m - 1) * (distance b + distance (sum bs)) = mul-le-mul_left (m - 1) (distance-sum b (sum bs)) in
    let all : (m - 1) * distance (sum (b ∷ bs)) ≡ (m - 1) * distance (b + sum bs) = ap (λ x. (m - 1) * distance x) (sum_by-cons (λ x. x) b bs) in
    omega (arith, ih, less, both, all)

distance-none : (b : ℕ) → distance b ≡ 0 → b % 2 ^ 64 ≡ 0
distance-none b none = omega arith

place-alike : (bs : List ℕ) (i : ℕ) → place 0 bs (replicate (length bs) i) ≡ (i * sum bs) % 2 ^ 64
unfolding place
place-alike bs i = let d = dot-alike bs i in ap (λ x. x % 2 ^ 64) (omega (arith, d))

-- the diagonal of nested strides goes on by more than 0
diagonal-moves : (ns bs : List ℕ) → length bs ≡ length ns → AreNested ns bs → 1 < shortest ns → distance (sum bs) ≡ 0 → ⊥
diagonal-moves [] bs l h long none = absurd (omega (arith, long))
diagonal-moves (n ∷ ns) bs l h long none =
    let flat = distance-none (sum bs) none in
    let zeros : place 0 bs (replicate (length (n ∷ ns)) 0) ≡ (0 * sum bs) % 2 ^ 64 = ap (λ m. place 0 bs (replicate m 0)) (sym l) ∙ place-alike bs 0 in
    let ones : place 0 bs (replicate (length (n ∷ ns)) 1) ≡ (1 * sum bs) % 2 ^ 64 = ap (λ m. place 0 bs (replicate m 1)) (sym l) ∙ place-alike bs 1 in
    let same = nested-distinct (n ∷ ns) 0 bs (replicate (length (n ∷ ns)) 0) (replicate (length (n ∷ ns)) 1) l h
    (InBox-alike (n ∷ ns) 0 (omega (arith, long))) (InBox-alike (n ∷ ns) 1 long) (omega (arith, flat, zeros, ones)) in
    let one : 0 ≡ 1 = ap (λ is. get_or is 0 0) same in
    absurd (omega (arith, one))

pos-from : (x : ℕ) → (x ≡ 0 → ⊥) → 0 < x
pos-from zero some = absurd (some refl)
pos-from (suc x) some = omega arith

diagonal-each : (ns bs : List ℕ) → length bs ≡ length ns → AreNested ns bs → (k : ℕ) → k < 1 → 1 < get_or (shortest ns ∷ []) k 0
    → reached_within (distance (get_or (sum bs % 2 ^ 64 ∷ []) k 0)) (remove (shortest ns ∷ []) k) (remove (sum bs % 2 ^ 64 ∷ []) k) < distance (get_or (sum bs % 2 ^ 64 ∷ []) k 0)
unfolding sum_over_axes
diagonal-each ns bs l h zero lt long =
    let some = pos-from (distance (sum bs)) (diagonal-moves ns bs l h long) in
    omega (arith, some)
diagonal-each ns bs l h (suc k) lt long = absurd (omega arith)

nested-diagonal : (ns bs : List ℕ) → length bs ≡ length ns → AreNested ns bs → AreNested (shortest ns ∷ []) (sum bs % 2 ^ 64 ∷ [])
unfolding sum_over_axes
nested-diagonal ns bs l h = record {
  each = λ k lt long. diagonal-each ns bs l h k lt long;
  near =
      let r = reach-alike (shortest ns) ns bs l (λ k lt. shortest-each ns k lt) in
      let n = h.near in
      let same : distance (sum bs % 2 ^ 64) ≡ distance (sum bs) = omega arith in
      let e : reach (shortest ns) (sum bs % 2 ^ 64) ≡ reach (shortest ns) (sum bs) = ap (λ d. (shortest ns - 1) * d) same in
      omega (arith, r, n, e);
}

first-below : (n : ℕ) (js : List ℕ) → InBox (n ∷ []) js → get_or js 0 0 < n
first-below n [] box = absurd box
first-below n (i ∷ js) box = box.0

place-diagonal : (n start m : ℕ) (bs js : List ℕ) → length bs ≡ m → InBox (n ∷ []) js → place start (sum bs % 2 ^ 64 ∷ []) js ≡ place start bs (replicate m (get_or js 0 0))
unfolding place dot
place-diagonal n start m bs [] l box = absurd box
place-diagonal n start m bs (i ∷ js) l box =
    let w : ℕ = 2 ^ 64 in
    let q : ℕ = sum bs / w in
    let d = dot-alike bs i in
    let parts = div-add-mod' (sum bs) w in
    let times : i * (q * w + sum bs % w) ≡ i * sum bs = ap (λ x. i * x) parts in
    let all : start + dot bs (replicate m i) ≡ start + i * (sum bs % w) + w * (i * q) = ap (λ n. start + dot bs (replicate n i)) (sym l) ∙ omega (arith, d, times) in
    sym (ap (λ x. x % w) all ∙ (add-mul-mod_self_left (start + i * (sum bs % w)) w (i * q) ∙ ap (λ x. x % w) (omega arith)))

-- the diagonal lies where the array lies at index lists of one index
pub rearranges-diagonal : {A one : Type 0} (two : Type 0) (at : ℕ → Option A) (ns : List ℕ) (start : ℕ) (bs : List ℕ) → Reaches one at ns start bs
    → Rearranges two ns start bs (shortest ns ∷ []) start (sum bs % 2 ^ 64 ∷ []) (λ is. replicate (length ns) (get_or is 0 0))
rearranges-diagonal two at ns start bs h = record {
  as_many = refl;
  limit = limit-one (shortest ns) (shortest-fits ns h.limit);
  image = λ js box. InBox-alike ns (get_or js 0 0) (first-below (shortest ns) js box);
  same = λ js box. place-diagonal (shortest ns) start (length ns) bs js h.as_many box;
  nested = λ _. nested-diagonal ns bs h.as_many;
}
