-- Some of the places of an axis kept.
use Rattle.std.proofs.Common.{◌≡◌, ℕ, ◌+◌, ◌-◌, ◌*◌, ◌/◌, ◌%◌, ◌<◌, ◌≤◌, ◌^◌, List, length, get_or, set, Option, sym, ◌∙◌, ap, arith, subst}
use Rattle.std.proofs.lemmas.List.{length-set, get_or-set_same, set-set, set-get_or}
use Rattle.std.proofs.lemmas.Nat.{div-add-mod'}
use Rattle.std.proofs.Math.Nat.{add-mul-mod_self_left}
use Rattle.ndarray.specs.Index.{InBox}
use Rattle.ndarray.specs.base.Nested.{distance, reach}
use Rattle.ndarray.specs.base.Places.{dot, place, Reaches, Rearranges}
use Rattle.ndarray.proofs.boxes.Boxes.{InBox-length, InBox-get, InBox-set_both}
use Rattle.ndarray.proofs.strides.NestedCuts.{nested-cut}
use Rattle.ndarray.proofs.strides.Reach.{dot-set, mod_twice}
use Rattle.ndarray.proofs.boxes.Sizes.{length-fits, nonzero-set_le}

-- of an axis of length n, the `len` places that `at` names: from `from` on by `step`, which is not 0, modulo 2 ^ 64
pub record IsAxisCut (n from len step : ℕ) (at : ℕ → ℕ) : Type 0 where
  pub fewer : len ≤ n
  pub within : (i : ℕ) → i < len → at i < n
  pub steps : (i : ℕ) → i < len → (from + i * step) % 2 ^ 64 ≡ at i
  pub near : reach len step ≤ n - 1
  pub moves : 1 < len → 0 < distance step

-- those of a part side by side
IsAxisCut-part : (n from len : ℕ) → from + len ≤ n → n < 2 ^ 63 → IsAxisCut n from len 1 (λ i. from + i)
IsAxisCut-part n from len le fits = record {
  fewer = omega arith;
  within = λ i lt. omega arith;
  steps = λ i lt. omega arith;
  near = omega arith;
  moves = λ long. omega arith;
}

-- all of them, from the last to the first
pub IsAxisCut-turned : (n : ℕ) → n < 2 ^ 63 → IsAxisCut n ((n + (2 ^ 64 - 1)) % 2 ^ 64) n (2 ^ 64 - 1) (λ i. n - 1 - i)
IsAxisCut-turned n fits = record {
  fewer = omega arith;
  within = λ i lt. omega arith;
  steps = λ i lt. omega arith;
  near = omega arith;
  moves = λ long. omega arith;
}

-- where the i-th place of the axis lies
step-same : (start from b step i at x y : ℕ) → (from + i * step) % 2 ^ 64 ≡ at → x + i * b ≡ y + i * ((b * step) % 2 ^ 64) → (z : ℕ) → z + i * b ≡ y + at * b → ((start + (from * b) % 2 ^ 64) % 2 ^ 64 + x) % 2 ^ 64 ≡ (start + z) % 2 ^ 64
step-same start from b step i at x y e ex z ez =
    let m : ℕ = 2 ^ 64 in
    let q : ℕ = (from + i * step) / m in
    let r : ℕ = (b * step) / m in
    let dq = div-add-mod' (from + i * step) m in
    let dr = div-add-mod' (b * step) m in
    let eq : q * m + at ≡ from + i * step = omega arith in
    let eqb : (q * m + at) * b ≡ (from + i * step) * b = ap (λ n. n * b) eq in
    let erb : i * (r * m + (b * step) % m) ≡ i * (b * step) = ap (λ n. i * n) dr in
    let same : start + from * b + x + m * (i * r) ≡ start + z + m * (q * b) = omega arith in
    mod_twice m start (from * b) x
    ∙ (sym (add-mul-mod_self_left (start + from * b + x) m (i * r))
    ∙ (ap (λ n. n % m) same ∙ add-mul-mod_self_left (start + z) m (q * b)))

module _ {A one : Type 0} (two : Type 0) (held : ℕ → Option A) (ns : List ℕ) (start : ℕ) (bs : List ℕ) (h : Reaches one held ns start bs) (k : ℕ) (lt : k < length ns) (from len step : ℕ) (at : ℕ → ℕ) (cut : IsAxisCut (get_or ns k 0) from len step at) where
  cut-index : (js : List ℕ) → InBox (set ns k len) js → get_or js k 0 < len
  cut-index js box =
      let there = get_or-set_same ns k len 0 lt in
      let below = InBox-get (set ns k len) js k box (omega (arith, length-set {A = ℕ})) in
      omega arith

  cut-image : (js : List ℕ) → InBox (set ns k len) js → InBox ns (set js k (at (get_or js k 0)))
  cut-image js box =
      let b = InBox-set_both (set ns k len) js k (get_or ns k 0) (at (get_or js k 0)) box (cut.within (get_or js k 0) (cut-index js box)) in
      subst (λ ms. InBox ms (set js k (at (get_or js k 0)))) (set-set ns k len (get_or ns k 0) ∙ set-get_or ns k 0) b

  cut-same : (js : List ℕ) → InBox (set ns k len) js → place ((start + (from * get_or bs k 0) % 2 ^ 64) % 2 ^ 64) (set bs k ((get_or bs k 0 * step) % 2 ^ 64)) js ≡ place start bs (set js k (at (get_or js k 0)))
  unfolding place
  cut-same js box =
      let l = InBox-length (set ns k len) js box in
      let ln = length-set ns k len in
      let ab = h.as_many in
      let i : ℕ = get_or js k 0 in
      let b : ℕ = get_or bs k 0 in
      let v : ℕ = (b * step) % 2 ^ 64 in
      let d1 = dot-set bs js k v i (omega arith) (omega arith) in
      let d2 = dot-set bs js k b (at i) (omega arith) (omega arith) in
      let e1 : dot (set bs k v) js + i * b ≡ dot bs js + i * v = ap (λ x. dot (set bs k v) x + i * b) (sym (set-get_or js k 0)) ∙ d1 in
      let e2 : dot bs (set js k (at i)) + i * b ≡ dot bs js + at i * b = ap (λ x. dot x (set js k (at i)) + i * b) (sym (set-get_or bs k 0)) ∙ d2 in
      step-same start from b step i (at i) (dot (set bs k v) js) (dot bs js) (cut.steps i (cut-index js box)) e1 (dot bs (set js k (at i))) e2

  -- the array that keeps these places of the axis
  pub rearranges-cut : Rearranges two ns start bs (set ns k len) ((start + (from * get_or bs k 0) % 2 ^ 64) % 2 ^ 64) (set bs k ((get_or bs k 0 * step) % 2 ^ 64)) (λ js. set js k (at (get_or js k 0)))
  rearranges-cut = record {
    as_many = let a = length-set bs k ((get_or bs k 0 * step) % 2 ^ 64) in let b = length-set ns k len in let c = h.as_many in omega arith;
    limit = let m = nonzero-set_le ns k len lt cut.fewer in let l = h.limit in omega arith;
    image = cut-image;
    same = cut-same;
    nested = λ _. nested-cut ns bs k len step h.as_many lt cut.fewer cut.near cut.moves;
  }

-- the array that keeps `len` places side by side
pub rearranges-part : {A one : Type 0} (two : Type 0) (held : ℕ → Option A) (ns : List ℕ) (start : ℕ) (bs : List ℕ) → Reaches one held ns start bs → (k : ℕ) → k < length ns → (from len : ℕ) → from + len ≤ get_or ns k 0
    → Rearranges two ns start bs (set ns k len) ((start + (from * get_or bs k 0) % 2 ^ 64) % 2 ^ 64) (set bs k ((get_or bs k 0 * 1) % 2 ^ 64)) (λ js. set js k (from + get_or js k 0))
rearranges-part two held ns start bs h k lt from len le = rearranges-cut two held ns start bs h k lt from len 1 (λ i. from + i) (IsAxisCut-part (get_or ns k 0) from len le (length-fits ns k lt h.limit))

-- of two cuts that keep different places of the axis, no index lists are one
pub cuts-apart : (ns : List ℕ) (k : ℕ) → k < length ns → (len len' : ℕ) (at at' : ℕ → ℕ) → ((i j : ℕ) → i < len → j < len' → at i ≡ at' j → ⊥) → (is js : List ℕ) → InBox (set ns k len) is → InBox (set ns k len') js → set is k (at (get_or is k 0)) ≡ set js k (at' (get_or js k 0)) → ⊥
cuts-apart ns k lt len len' at at' differ is js bi bj e =
    let li = InBox-length (set ns k len) is bi in
    let lj = InBox-length (set ns k len') js bj in
    let ln = length-set ns k len in
    let ln' = length-set ns k len' in
    let gi = InBox-get (set ns k len) is k bi (omega arith) in
    let gj = InBox-get (set ns k len') js k bj (omega arith) in
    let there = get_or-set_same ns k len 0 lt in
    let there' = get_or-set_same ns k len' 0 lt in
    let ei : get_or (set is k (at (get_or is k 0))) k 0 ≡ at (get_or is k 0) = get_or-set_same is k (at (get_or is k 0)) 0 (omega arith) in
    let ej : get_or (set js k (at' (get_or js k 0))) k 0 ≡ at' (get_or js k 0) = get_or-set_same js k (at' (get_or js k 0)) 0 (omega arith) in
    differ (get_or is k 0) (get_or js k 0) (omega arith) (omega arith) (sym ei ∙ (ap (λ xs. get_or xs k 0) e ∙ ej))

-- no two index lists of the part that begins at `from` are the same index list of the whole
pub part-once : (ns : List ℕ) (k : ℕ) → k < length ns → (len from : ℕ) (is js : List ℕ) → InBox (set ns k len) is → InBox (set ns k len) js → set is k (from + get_or is k 0) ≡ set js k (from + get_or js k 0) → is ≡ js
part-once ns k lt len from is js bi bj e =
    let li = InBox-length (set ns k len) is bi in
    let lj = InBox-length (set ns k len) js bj in
    let ln = length-set ns k len in
    let ei : get_or (set is k (from + get_or is k 0)) k 0 ≡ from + get_or is k 0 = get_or-set_same is k (from + get_or is k 0) 0 (omega arith) in
    let ej : get_or (set js k (from + get_or js k 0)) k 0 ≡ from + get_or js k 0 = get_or-set_same js k (from + get_or js k 0) 0 (omega arith) in
    let same : get_or is k 0 ≡ get_or js k 0 = let m = ap (λ xs. get_or xs k 0) e in omega arith in
    let back = λ (xs : List ℕ). set-set xs k (from + get_or xs k 0) (get_or xs k 0) ∙ set-get_or xs k 0 in
    sym (back is) ∙ (ap (λ xs. set xs k (get_or is k 0)) e ∙ (ap (set (set js k (from + get_or js k 0)) k) same ∙ back js))
