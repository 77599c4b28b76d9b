-- Strides that are nested, and what keeps them so.
use Rattle.std.proofs.Common.{◌≡◌, ◌≢◌, ℕ, ◌+◌, ◌<◌, ◌≤◌, ◌^◌, List, length, get_or, sym, ◌∙◌, ap, arith}
use Rattle.std.specs.Prelude.{remove}
use Rattle.ndarray.specs.base.Nested.{distance, reach, reach_within, reached_within, sum_over_axes, AreNested}
use Rattle.ndarray.proofs.strides.SumsOverAxes.{sum_over_axes-two, sum_over_axes-remove}
use Rattle.ndarray.proofs.strides.Distances.{within-near}

module _ (ns bs : List ℕ) (l : length bs ≡ length ns) where
  -- what the axes of no larger stride than axis k reach, without it and with it
  own : (k : ℕ) → k < length ns → reached_within (distance (get_or bs k 0)) (remove ns k) (remove bs k) + reach (get_or ns k 0) (get_or bs k 0) ≡ reached_within (distance (get_or bs k 0)) ns bs
  own k lt =
      let r = sum_over_axes-remove (reach_within (distance (get_or bs k 0))) ns bs k l lt in
      let w = within-near (distance (get_or bs k 0)) (get_or ns k 0) (get_or bs k 0) (omega arith) in
      ap (λ x. reached_within (distance (get_or bs k 0)) (remove ns k) (remove bs k) + x) (sym w) ∙ r

  -- nested strides, with the axis itself counted: the axes of no larger stride reach less far than it and one stride more
  pub nested-each : AreNested ns bs → (k : ℕ) → k < length ns → 1 < get_or ns k 0 → reached_within (distance (get_or bs k 0)) ns bs < reach (get_or ns k 0) (get_or bs k 0) + distance (get_or bs k 0)
  nested-each h k lt long = let o = own k lt in let e = h.each k lt long in omega (arith, o, e)

  -- the other way round
  pub nested-from_each : sum_over_axes reach ns bs < 2 ^ 63 → ((k : ℕ) → k < length ns → 1 < get_or ns k 0 → reached_within (distance (get_or bs k 0)) ns bs < reach (get_or ns k 0) (get_or bs k 0) + distance (get_or bs k 0)) → AreNested ns bs
  nested-from_each near each = record {
    near = near;
    each = λ k lt long. let o = own k lt in let e = each k lt long in omega (arith, o, e);
  }

  -- of two axes longer than 1, the larger stride is larger than the reach of the other axis
  pub nested-two : AreNested ns bs → (j k : ℕ) → j < length ns → k < length ns → j ≢ k → 1 < get_or ns j 0 → distance (get_or bs k 0) ≤ distance (get_or bs j 0) → reach (get_or ns k 0) (get_or bs k 0) < distance (get_or bs j 0)
  nested-two h j k hj hk ne long le =
      let m : ℕ = distance (get_or bs j 0) in
      let two = sum_over_axes-two (reach_within m) ns bs j k l hj hk ne in
      let wj = within-near m (get_or ns j 0) (get_or bs j 0) (omega arith) in
      let wk = within-near m (get_or ns k 0) (get_or bs k 0) le in
      let e = nested-each h j hj long in
      omega (arith, two, wj, wk, e)

-- strides stay nested where each axis longer than 1 was there before, and all reach no farther than before
pub nested-fewer : (ns bs ms cs : List ℕ) → length bs ≡ length ns → length cs ≡ length ms → sum_over_axes reach ms cs ≤ sum_over_axes reach ns bs → ((m : ℕ) → reached_within m ms cs ≤ reached_within m ns bs) → ((k : ℕ) → k < length ms → 1 < get_or ms k 0 → (j : ℕ) × (j < length ns) × (get_or ms k 0 ≡ get_or ns j 0) × (get_or cs k 0 ≡ get_or bs j 0)) → AreNested ns bs → AreNested ms cs
nested-fewer ns bs ms cs l lc le within there h =
    nested-from_each ms cs lc (let n = h.near in omega (arith, n, le))
    (λ k lt long.
    let a = there k lt long in
    let j : ℕ = a.0 in
    let m : ℕ = distance (get_or cs k 0) in
    let e = nested-each ns bs l h j a.1 (omega (arith, a.2)) in
    let same : m ≡ distance (get_or bs j 0) = ap distance a.3 in
    let r : reach (get_or ms k 0) (get_or cs k 0) ≡ reach (get_or ns j 0) (get_or bs j 0) = ap (λ x. reach x (get_or cs k 0)) a.2 ∙ ap (λ x. reach (get_or ns j 0) x) a.3 in
    let w = within m in
    let t : reached_within m ns bs ≡ reached_within (distance (get_or bs j 0)) ns bs = ap (λ x. reached_within x ns bs) same in
    omega (arith, e, same, r, w, t))
