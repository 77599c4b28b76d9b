-- Strides stay nested where axes are moved, taken out, or put in with length 1.
use Rattle.std.proofs.Common.{◌≡◌, ℕ, ◌+◌, ◌-◌, ◌<◌, ◌≤◌, List, length, reverse, get_or, set, swap, inl, inr, sym, ◌∙◌, ap, arith}
use Rattle.std.specs.Prelude.{insert, remove}
use Rattle.std.proofs.lemmas.Bool.{cases_lt, cases_eq}
use Rattle.std.proofs.lemmas.List.{length-set, length-reverse, get_or-reverse, get_or-set_same, get_or-set_other}
use Rattle.std.proofs.lemmas.List.Edits.{swap_is, length-swap, length-remove, length-insert, get_or-remove_below, get_or-remove_above, get_or-insert_at, get_or-insert_below, get_or-insert_above}
use Rattle.ndarray.specs.base.Nested.{reach, reach_within, AreNested}
use Rattle.ndarray.proofs.strides.Distances.{reach-short, within-short}
use Rattle.ndarray.proofs.strides.Nesting.{nested-fewer}
use Rattle.ndarray.proofs.strides.SumsOverAxes.{sum_over_axes-remove, sum_over_axes-insert, sum_over_axes-reverse, sum_over_axes-swap}

-- ---- which axis stands where

-- after one is taken out, what stands at k stood at k or one further
pub remove-at : (k j : ℕ) → (i : ℕ) × ((xs : List ℕ) → k < length xs → j < length (remove xs k) → (i < length xs) × (get_or (remove xs k) j 0 ≡ get_or xs i 0))
remove-at k j =
    elim (cases_lt j k) [
      | inl below ↦ (j, λ xs lt lj. (omega arith, get_or-remove_below xs k 0 j below lt))
      | inr above ↦ (j + 1, λ xs lt lj. (let l = length-remove xs k lt in omega arith, get_or-remove_above xs k 0 j above lt))
    ]

-- after two are exchanged, what stands at k stood at one of them, or at k
swap-at : (i j k : ℕ) → (p : ℕ) × ((xs : List ℕ) → i < length xs → j < length xs → k < length xs → (p < length xs) × (get_or (swap xs i j) k 0 ≡ get_or xs p 0))
swap-at i j k =
    let at : (xs : List ℕ) → i < length xs → j < length xs → get_or (swap xs i j) k 0 ≡ get_or (set (set xs i (get_or xs j 0)) j (get_or xs i 0)) k 0 = λ xs hi hj. ap (λ l. get_or l k 0) (sym (swap_is xs i j 0 hi hj)) in
    elim (cases_eq k j) [
      | inl e ↦ (i, λ xs hi hj hk. (hi, at xs hi hj ∙ (ap (λ p. get_or (set (set xs i (get_or xs j 0)) j (get_or xs i 0)) p 0) e ∙ get_or-set_same (set xs i (get_or xs j 0)) j (get_or xs i 0) 0 (let l = length-set xs i (get_or xs j 0) in omega arith))))
      | inr ne ↦ elim (cases_eq k i) [
        | inl e ↦ (j, λ xs hi hj hk. (hj, at xs hi hj ∙ (get_or-set_other (set xs i (get_or xs j 0)) j k (get_or xs i 0) 0 ne ∙ (ap (λ p. get_or (set xs i (get_or xs j 0)) p 0) e ∙ get_or-set_same xs i (get_or xs j 0) 0 hi))))
        | inr other ↦ (k, λ xs hi hj hk. (hk, at xs hi hj ∙ (get_or-set_other (set xs i (get_or xs j 0)) j k (get_or xs i 0) 0 ne ∙ get_or-set_other xs i k (get_or xs j 0) 0 other)))
      ]
    ]

-- ---- nested strides

-- two axes exchanged
pub nested-swapped : (ns bs : List ℕ) (i j : ℕ) → length bs ≡ length ns → i < length ns → j < length ns → AreNested ns bs → AreNested (swap ns i j) (swap bs i j)
nested-swapped ns bs i j l hi hj h =
    let ln = length-swap ns i j in
    let lb = length-swap bs i j in
    nested-fewer ns bs (swap ns i j) (swap bs i j) l (omega arith)
    (let t = sum_over_axes-swap reach ns bs i j l hi hj in omega (arith, t))
    (λ m. let t = sum_over_axes-swap (reach_within m) ns bs i j l hi hj in omega (arith, t))
    (λ k lk _.
    let s = swap-at i j k in
    let a = s.1 ns hi hj (omega arith) in
    let b = s.1 bs (omega arith) (omega arith) (omega arith) in
    (s.0, a.0, a.1, b.1))
    h

-- the axes from the last to the first
pub nested-reversed : (ns bs : List ℕ) → length bs ≡ length ns → AreNested ns bs → AreNested (reverse ns) (reverse bs)
nested-reversed ns bs l h =
    let ln = length-reverse ns in
    let lb = length-reverse bs in
    nested-fewer ns bs (reverse ns) (reverse bs) l (omega arith)
    (let t = sum_over_axes-reverse reach ns bs l in omega (arith, t))
    (λ m. let t = sum_over_axes-reverse (reach_within m) ns bs l in omega (arith, t))
    (λ k lt _. (length ns - 1 - k, omega arith, get_or-reverse ns k 0 (omega arith), get_or-reverse bs k 0 (omega arith) ∙ ap (λ n. get_or bs (n - 1 - k) 0) l))
    h

-- an axis taken out
pub nested-removed : (ns bs : List ℕ) (k : ℕ) → length bs ≡ length ns → k < length ns → AreNested ns bs → AreNested (remove ns k) (remove bs k)
nested-removed ns bs k l lt h =
    let ln = length-remove ns k lt in
    let lb = length-remove bs k (omega arith) in
    nested-fewer ns bs (remove ns k) (remove bs k) l (omega arith)
    (let t = sum_over_axes-remove reach ns bs k l lt in omega (arith, t))
    (λ m. let t = sum_over_axes-remove (reach_within m) ns bs k l lt in omega (arith, t))
    (λ j lj _.
    let r = remove-at k j in
    let a = r.1 ns lt lj in
    let b = r.1 bs (omega arith) (omega arith) in
    (r.0, a.0, a.1, b.1))
    h

-- an axis of length 1 put in, whatever its stride
pub nested-inserted : (ns bs : List ℕ) (k b : ℕ) → length bs ≡ length ns → k ≤ length ns → AreNested ns bs → AreNested (insert ns k 1) (insert bs k b)
nested-inserted ns bs k b l le h =
    let ln = length-insert ns k 1 le in
    let lb = length-insert bs k b (omega arith) in
    nested-fewer ns bs (insert ns k 1) (insert bs k b) l (omega arith)
    (let t = sum_over_axes-insert reach ns bs k 1 b l le in let r = reach-short 1 b (omega arith) in omega (arith, t, r))
    (λ m. let t = sum_over_axes-insert (reach_within m) ns bs k 1 b l le in let r = within-short m 1 b (omega arith) in omega (arith, t, r))
    (λ j lj long.
    elim (cases_lt j k) [
      | inl below ↦ (j, omega arith, get_or-insert_below ns k 1 0 j below le, get_or-insert_below bs k b 0 j below (omega arith))
      | inr from ↦ elim (cases_eq j k) [
        | inl e ↦ absurd (let one : get_or (insert ns k 1) j 0 ≡ 1 = ap (λ p. get_or (insert ns k 1) p 0) e ∙ get_or-insert_at ns k 1 0 le in omega (arith, one, long))
        | inr ne ↦ (
            let e : j ≡ j - 1 + 1 = omega arith in (
              j - 1,
              omega arith,
              ap (λ p. get_or (insert ns k 1) p 0) e ∙ get_or-insert_above ns k 1 0 (j - 1) (omega arith) le,
              ap (λ p. get_or (insert bs k b) p 0) e ∙ get_or-insert_above bs k b 0 (j - 1) (omega arith) (omega arith),
            ))
      ]
    ])
    h
