-- Strides stay nested where some of the places of an axis are kept.
use Rattle.std.proofs.Common.{◌≡◌, ◌≢◌, ℕ, ◌+◌, ◌-◌, ◌*◌, ◌%◌, ◌<◌, ◌≤◌, ◌^◌, List, length, get_or, set, inl, inr, ◌∙◌, ap, arith}
use Rattle.std.proofs.Math.Nat.{mul-le-mul_left, mul-le-mul_right}
use Rattle.std.proofs.lemmas.Bool.{cases_lt, cases_eq}
use Rattle.std.proofs.lemmas.List.{length-set, get_or-set_same, get_or-set_other}
use Rattle.ndarray.specs.base.Nested.{distance, reach, reach_within, reached_within, sum_over_axes, AreNested}
use Rattle.ndarray.proofs.strides.SumsOverAxes.{sum_over_axes-one, sum_over_axes-set, sum_over_axes-le}
use Rattle.ndarray.proofs.strides.Distances.{distance-times, reach-short, reach-long, within-near, within-far, within-le, within-short}
use Rattle.ndarray.proofs.strides.Nesting.{nested-each, nested-from_each, nested-two}

-- axis k gets a length n, not larger, and a stride b, not smaller, but reaches no farther
module _ (ns bs : List ℕ) (l : length bs ≡ length ns) (k : ℕ) (lt : k < length ns) (n b : ℕ) (fewer : n ≤ get_or ns k 0) (apart : 1 < n → (distance (get_or bs k 0) ≤ distance b) × (reach n b ≤ reach (get_or ns k 0) (get_or bs k 0))) (h : AreNested ns bs) where
  no_farther : reach n b ≤ reach (get_or ns k 0) (get_or bs k 0)
  no_farther =
      elim (cases_lt 1 n) [
        | inl long ↦ (apart long).1
        | inr short ↦ (let e = reach-short n b short in omega (arith, e))
      ]

  set-near : sum_over_axes reach (set ns k n) (set bs k b) < 2 ^ 63
  set-near = let s = sum_over_axes-set reach ns bs k n b l lt in let f = h.near in let r = no_farther in omega (arith, s, f, r)

  -- no axis longer than 1 has a stride between the old one and the new
  none_between : 1 < n → (j : ℕ) → j < length ns → reach_within (distance b) (get_or ns j 0) (get_or bs j 0) ≤ reach_within (distance (get_or bs k 0)) (get_or ns j 0) (get_or bs j 0)
  none_between long j lj =
      elim (cases_lt (distance (get_or bs k 0)) (distance (get_or bs j 0))) [
        | inr low ↦ (
            let w = within-near (distance (get_or bs k 0)) (get_or ns j 0) (get_or bs j 0) low in
            let v = within-le (distance b) (get_or ns j 0) (get_or bs j 0) in
            omega (arith, w, v))
        | inl high ↦ elim (cases_lt 1 (get_or ns j 0)) [
          | inr short ↦ (let w = within-short (distance b) (get_or ns j 0) (get_or bs j 0) short in omega (arith, w))
          | inl longer ↦ (
              let ne : j ≢ k = λ e. let same = ap (λ i. distance (get_or bs i 0)) e in omega (arith, high, same) in
              let two = nested-two ns bs l h j k lj lt ne longer (omega (arith, high)) in
              let a = (apart long).1 in
              let r = reach-long n b long in
              let w = within-far (distance b) (get_or ns j 0) (get_or bs j 0) (omega (arith, two, a, r)) in
              omega (arith, w))
        ]
      ]

  -- the axis itself, with its new stride
  set-here : 1 < n → reached_within (distance b) (set ns k n) (set bs k b) < reach n b + distance b
  set-here long =
      let a = apart long in
      let s = sum_over_axes-set (reach_within (distance b)) ns bs k n b l lt in
      let t = sum_over_axes-le (reach_within (distance b)) (reach_within (distance (get_or bs k 0))) ns bs l (none_between long) in
      let e = nested-each ns bs l h k lt (omega (arith, long, fewer)) in
      let w = within-near (distance b) (get_or ns k 0) (get_or bs k 0) a.0 in
      let v = within-le (distance b) n b in
      omega (arith, a, s, t, e, w, v)

  -- it counts no more among others than before
  less : (m : ℕ) → reach_within m n b ≤ reach_within m (get_or ns k 0) (get_or bs k 0)
  less m =
      elim (cases_lt m (distance b)) [
        | inl far ↦ (let w = within-far m n b far in omega (arith, w))
        | inr near ↦ elim (cases_lt 1 n) [
          | inr short ↦ (let w = within-short m n b short in omega (arith, w))
          | inl long ↦ (
              let a = apart long in
              let w = within-near m (get_or ns k 0) (get_or bs k 0) (omega (arith, a, near)) in
              let v = within-le m n b in
              omega (arith, a, w, v))
        ]
      ]

  -- another axis
  set-other : (j : ℕ) → j < length ns → 1 < get_or ns j 0 → reached_within (distance (get_or bs j 0)) (set ns k n) (set bs k b) < reach (get_or ns j 0) (get_or bs j 0) + distance (get_or bs j 0)
  set-other j lj long =
      let s = sum_over_axes-set (reach_within (distance (get_or bs j 0))) ns bs k n b l lt in
      let e = nested-each ns bs l h j lj long in
      let v = less (distance (get_or bs j 0)) in
      omega (arith, s, e, v)

  -- each axis, as the lists have it
  set-each : (j : ℕ) → j < length (set ns k n) → 1 < get_or (set ns k n) j 0 → reached_within (distance (get_or (set bs k b) j 0)) (set ns k n) (set bs k b) < reach (get_or (set ns k n) j 0) (get_or (set bs k b) j 0) + distance (get_or (set bs k b) j 0)
  set-each j lj long =
      elim (cases_eq j k) [
        | inl e ↦ (
            let en : get_or (set ns k n) j 0 ≡ n = ap (λ i. get_or (set ns k n) i 0) e ∙ get_or-set_same ns k n 0 lt in
            let eb : get_or (set bs k b) j 0 ≡ b = ap (λ i. get_or (set bs k b) i 0) e ∙ get_or-set_same bs k b 0 (omega (arith, l, lt)) in
            rw (en, eb) (set-here (omega (arith, en, long))))
        | inr ne ↦ (
            let en : get_or (set ns k n) j 0 ≡ get_or ns j 0 = get_or-set_other ns k j n 0 ne in
            let eb : get_or (set bs k b) j 0 ≡ get_or bs j 0 = get_or-set_other bs k j b 0 ne in
            rw (en, eb) (set-other j (let ln = length-set ns k n in omega (arith, lj, ln)) (omega (arith, en, long))))
      ]

  pub nested-set : AreNested (set ns k n) (set bs k b)
  nested-set = nested-from_each (set ns k n) (set bs k b) (let x = length-set ns k n in let y = length-set bs k b in omega (arith, l, x, y)) set-near set-each

-- a stride m times a step s, on an axis of length n of which len places are kept
scaled : (len n m s : ℕ) → 1 < len → 0 < s → (len - 1) * s ≤ n - 1 → (m ≤ m * s) × (m * s ≤ (n - 1) * m) × ((len - 1) * (m * s) ≤ (n - 1) * m)
scaled len n m s long some h =
    let a : m * 1 ≤ m * s = mul-le-mul_left m (omega arith) in
    let b : 1 * (m * s) ≤ (len - 1) * (m * s) = mul-le-mul_right (m * s) (omega arith) in
    let c : m * ((len - 1) * s) ≤ m * (n - 1) = mul-le-mul_left m h in
    let e : (len - 1) * (m * s) ≡ m * ((len - 1) * s) = omega arith in
    let f : (n - 1) * m ≡ m * (n - 1) = omega arith in
    (omega (arith, a), omega (arith, b, c, e, f), omega (arith, c, e, f))

-- of axis k some places are kept, a step apart
pub nested-cut : (ns bs : List ℕ) (k len step : ℕ) → length bs ≡ length ns → k < length ns → len ≤ get_or ns k 0 → reach len step ≤ get_or ns k 0 - 1 → (1 < len → 0 < distance step) → AreNested ns bs → AreNested (set ns k len) (set bs k ((get_or bs k 0 * step) % 2 ^ 64))
nested-cut ns bs k len step l lt fewer near some h =
    nested-set ns bs l k lt len ((get_or bs k 0 * step) % 2 ^ 64) fewer
    (λ long.
    let s = scaled len (get_or ns k 0) (distance (get_or bs k 0)) (distance step) long (some long) near in
    let one = sum_over_axes-one reach ns bs k l lt in
    let all = h.near in
    let e = distance-times (get_or bs k 0) step (omega (arith, s, one, all)) in
    (omega (arith, s, e), let r = ap (λ x. (len - 1) * x) e in omega (arith, s, r)))
    h
