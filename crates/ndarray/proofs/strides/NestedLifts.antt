-- How far index lists lie from the first by nested strides without their signs: that tells them apart.
use Rattle.std.proofs.Common.{◌≡◌, ℕ, ◌+◌, ◌-◌, ◌*◌, ◌/◌, ◌<◌, ◌≤◌, suc, zero, List, [], ◌∷◌, length, get_or, inl, inr, refl, sym, ◌∙◌, ap, arith}
use Rattle.std.specs.Prelude.{insert, remove}
use Rattle.std.proofs.Math.Nat.{mul-le-mul_right}
use Rattle.std.proofs.lemmas.Bool.{cases_lt}
use Rattle.std.proofs.lemmas.List.Edits.{length-remove}
use Rattle.std.proofs.lemmas.Nat.{div-mul-add}
use Rattle.ndarray.specs.Index.{InBox}
use Rattle.ndarray.specs.base.Nested.{distance, reach, reach_within, sum_over_axes, AreNested}
use Rattle.ndarray.proofs.boxes.Boxes.{InBox-length, InBox-get, InBox-removed}
use Rattle.ndarray.proofs.lists.Elements.{insert-remove}
use Rattle.ndarray.proofs.strides.Distances.{within-near}
use Rattle.ndarray.proofs.strides.NestedMoves.{remove-at, nested-removed}
use Rattle.ndarray.proofs.strides.SumsOverAxes.{sum_over_axes-remove, sum_over_axes-le}

-- an axis of the largest stride
largest : (bs : List ℕ) → 0 < length bs → (k : ℕ) × (k < length bs) × ((j : ℕ) → j < length bs → distance (get_or bs j 0) ≤ distance (get_or bs k 0))
largest [] some = absurd (omega arith)
largest (b ∷ []) some = (0, some, λ j lt. let e : j ≡ 0 = omega arith in let q = ap (λ p. distance (get_or (b ∷ []) p 0)) e in omega (arith, q))
largest (b ∷ c ∷ bs) some =
    let r = largest (c ∷ bs) (omega arith) in
    elim (cases_lt (distance b) (distance (get_or (c ∷ bs) r.0 0))) [
      | inl later ↦ (suc r.0, let lt = r.1 in omega (arith, lt), first-or_later b (c ∷ bs) (distance (get_or (c ∷ bs) r.0 0)) (omega (arith, later)) r.2)
      | inr first ↦ (0, some, first-or_later b (c ∷ bs) (distance b) (omega arith) (λ j lt. let m = r.2 j lt in omega (arith, m, first)))
    ]
  where
    first-or_later : (b : ℕ) (bs : List ℕ) (m : ℕ) → distance b ≤ m → ((j : ℕ) → j < length bs → distance (get_or bs j 0) ≤ m) → (j : ℕ) → j < length (b ∷ bs) → distance (get_or (b ∷ bs) j 0) ≤ m
    first-or_later b bs m here there zero lt = here
    first-or_later b bs m here there (suc j) lt = there j (omega arith)

-- how far an index list lies from the first, by the strides without their signs
abbrev pub lift : List ℕ → List ℕ → ℕ
lift = sum_over_axes (λ i b. i * distance b)

-- an index list of the box lies no farther than all axes reach
pub lift-le : (ns bs is : List ℕ) → length bs ≡ length ns → InBox ns is → lift is bs ≤ sum_over_axes reach ns bs
unfolding sum_over_axes
lift-le [] bs [] l h = omega arith
lift-le [] bs (i ∷ is) l h = absurd h
lift-le (n ∷ ns) bs [] l h = absurd h
lift-le (n ∷ ns) [] (i ∷ is) l h = absurd (omega arith)
lift-le (n ∷ ns) (b ∷ bs) (i ∷ is) l h =
    let lt = h.0 in
    let m : i * distance b ≤ (n - 1) * distance b = mul-le-mul_right (distance b) (omega arith) in
    let ih = lift-le ns bs is (omega arith) h.1 in
    omega (arith, m, ih)

-- a sum with a multiple of m tells the multiple and what is below m
same_parts : (m i j r s : ℕ) → r < m → s < m → r + i * m ≡ s + j * m → (i ≡ j) × (r ≡ s)
same_parts m i j r s lr ls e =
    let q : i * m + r ≡ j * m + s = omega (arith, e) in
    let same : i ≡ j = sym (div-mul-add i m r lr) ∙ (ap (λ x. x / m) q ∙ div-mul-add j m s ls) in
    let p : i * m ≡ j * m = ap (λ x. x * m) same in
    (same, omega (arith, e, p))

-- what the axes other than that of the largest stride reach together
others-below : (ns bs : List ℕ) (k : ℕ) → length bs ≡ length ns → k < length ns → ((j : ℕ) → j < length bs → distance (get_or bs j 0) ≤ distance (get_or bs k 0)) → AreNested ns bs → 1 < get_or ns k 0 → sum_over_axes reach (remove ns k) (remove bs k) < distance (get_or bs k 0)
others-below ns bs k l lt big h long =
    let m : ℕ = distance (get_or bs k 0) in
    let ln = length-remove ns k lt in
    let lb = length-remove bs k (omega arith) in
    let e = h.each k lt long in
    let t = sum_over_axes-le reach (reach_within m) (remove ns k) (remove bs k) (omega arith)
    (λ j lj.
    let r = remove-at k j in
    let a = r.1 bs (omega arith) (omega arith) in
    let s = ap distance a.1 in
    let b = big r.0 a.0 in
    let w = within-near m (get_or (remove ns k) j 0) (get_or (remove bs k) j 0) (omega (arith, s, b)) in
    omega (arith, w)) in
    omega (arith, e, t)

-- index lists of no axes
no_axes-same : (is js : List ℕ) → length is ≡ 0 → length js ≡ 0 → is ≡ js
no_axes-same [] [] li lj = refl
no_axes-same [] (j ∷ js) li lj = absurd (omega arith)
no_axes-same (i ∷ is) js li lj = absurd (omega arith)

-- index lists that lie equally far are equal: of the axis of the largest stride the index is known, and then of the others
pub lift-apart : (count : ℕ) (ns bs is js : List ℕ) → length ns ≡ count → length bs ≡ length ns → AreNested ns bs → InBox ns is → InBox ns js → lift is bs ≡ lift js bs → is ≡ js
lift-apart zero ns bs is js ec l h bi bj e = no_axes-same is js (let a = InBox-length ns is bi in omega arith) (let a = InBox-length ns js bj in omega arith)
lift-apart (suc count) ns bs is js ec l h bi bj e =
    let big = largest bs (omega arith) in
    let k : ℕ = big.0 in
    let m : ℕ = distance (get_or bs k 0) in
    let lk : k < length bs = big.1 in
    let li = InBox-length ns is bi in
    let lj = InBox-length ns js bj in
    let ln = length-remove ns k (omega arith) in
    let lb = length-remove bs k (omega arith) in
    let ri = sum_over_axes-remove (λ i b. i * distance b) is bs k (omega arith) (omega arith) in
    let rj = sum_over_axes-remove (λ i b. i * distance b) js bs k (omega arith) (omega arith) in
    let bi2 = InBox-removed ns is k (omega arith) bi in
    let bj2 = InBox-removed ns js k (omega arith) bj in
    let gi = InBox-get ns is k bi (omega arith) in
    let gj = InBox-get ns js k bj (omega arith) in
    let parts : (get_or is k 0 ≡ get_or js k 0) × (lift (remove is k) (remove bs k) ≡ lift (remove js k) (remove bs k)) =
    elim (cases_lt 1 (get_or ns k 0)) [
      | inl long ↦ (
          let o = others-below ns bs k l (omega arith) big.2 h long in
          let ti = lift-le (remove ns k) (remove bs k) (remove is k) (omega arith) bi2 in
          let tj = lift-le (remove ns k) (remove bs k) (remove js k) (omega arith) bj2 in
          same_parts m (get_or is k 0) (get_or js k 0) (lift (remove is k) (remove bs k)) (lift (remove js k) (remove bs k)) (omega (arith, o, ti)) (omega (arith, o, tj)) (ri ∙ (e ∙ sym rj)))
      | inr short ↦ (
          let same : get_or is k 0 ≡ get_or js k 0 = omega (arith, gi, gj, short) in
          let p : get_or is k 0 * m ≡ get_or js k 0 * m = ap (λ x. x * m) same in
          (same, omega (arith, ri, rj, p, e)))
    ] in
    let ih = lift-apart count (remove ns k) (remove bs k) (remove is k) (remove js k) (omega arith) (omega arith) (nested-removed ns bs k l (omega arith) h) bi2 bj2 parts.1 in
    sym (insert-remove is k 0 (omega arith))
    ∙ (ap (λ xs. insert xs k (get_or is k 0)) ih
    ∙ (ap (λ i. insert (remove js k) k i) parts.0 ∙ insert-remove js k 0 (omega arith)))
