-- The index list that lies at a place, found one axis after another.
use Rattle.std.proofs.Common.{◌≡◌, ℕ, ◌+◌, ◌-◌, ◌*◌, ◌/◌, ◌%◌, ◌<◌, ◌≤◌, ◌^◌, List, length, get_or, set, inl, inr, refl, sym, ◌∙◌, ap, arith, subst}
use Rattle.std.proofs.lemmas.Bool.{cases_lt, cases_eq}
use Rattle.std.proofs.lemmas.List.{ext_get_or, length-set, set-get_or, get_or-set_same, get_or-set_other}
use Rattle.std.proofs.lemmas.Nat.{div-mul-add}
use Rattle.ndarray.specs.Index.{InBox}
use Rattle.ndarray.specs.base.Places.{dot, place}
use Rattle.ndarray.specs.base.Nested.{distance, reach, reach_within, sum_over_axes, forward_index, below_first, AreNested}
use Rattle.ndarray.proofs.boxes.Boxes.{InBox-length, InBox-get, InBox-set_both}
use Rattle.ndarray.proofs.strides.Distances.{reach-short, within-near}
use Rattle.ndarray.proofs.strides.Nesting.{nested-each}
use Rattle.ndarray.proofs.strides.NestedCuts.{nested-set}
use Rattle.ndarray.proofs.strides.NestedLifts.{lift, lift-le}
use Rattle.ndarray.proofs.strides.SumsOverAxes.{sum_over_axes-set, sum_over_axes-le}
use Rattle.ndarray.proofs.strides.ForwardAxes.{forward_index-again, turned_list, turned_list-within, turned_list-at, turned_list-far}

-- what the search for the index list `is` has: of an axis that ms has as long as ns the index is not known yet; of
-- all others, which ms has with length 1, it is as in `index`. The axes turned forwards, `rest` is how far those that
-- are not known lie above the lowest place
pub record SearchState (ns bs ms : List ℕ) (rest : ℕ) (index is : List ℕ) : Type 0 where
  pub up : List ℕ
  pub within : InBox ms up
  pub far : lift up bs ≡ rest
  pub not_yet : (k : ℕ) → k < length ns → 1 < get_or ms k 0 → (get_or ms k 0 ≡ get_or ns k 0) × (get_or up k 0 ≡ forward_index (get_or ns k 0) (get_or bs k 0) (get_or is k 0))
  pub known : (k : ℕ) → k < length ns → get_or ms k 0 ≤ 1 → get_or index k 0 ≡ get_or is k 0

-- an axis whose place is all that is left
module _ (ms bs : List ℕ) (k : ℕ) (l : length bs ≡ length ms) (lt : k < length ms) (long : 1 < get_or ms k 0) (h : AreNested ms bs) where
  -- strides stay nested where the axis is known
  pub nested-known : AreNested (set ms k 1) bs
  nested-known =
      subst (AreNested (set ms k 1)) (set-get_or bs k 0)
      (nested-set ms bs l k lt 1 (get_or bs k 0) (omega (arith, long)) (λ lo. absurd (omega (arith, lo))) h)

  -- where no axis longer than 1 has a larger stride, the others reach less far than one stride
  others-less : ((j : ℕ) → j < length ms → 1 < get_or ms j 0 → distance (get_or bs j 0) ≤ distance (get_or bs k 0)) → sum_over_axes reach (set ms k 1) bs < distance (get_or bs k 0)
  others-less most =
      let m : ℕ = distance (get_or bs k 0) in
      let e = nested-each ms bs l h k lt long in
      let t = sum_over_axes-le reach (reach_within m) ms bs l
      (λ j lj.
      elim (cases_lt 1 (get_or ms j 0)) [
        | inl longer ↦ (let w = within-near m (get_or ms j 0) (get_or bs j 0) (most j lj longer) in omega (arith, w))
        | inr short ↦ (let r = reach-short (get_or ms j 0) (get_or bs j 0) short in omega (arith, r))
      ]) in
      let s = sum_over_axes-set reach ms bs k 1 (get_or bs k 0) l lt in
      let same : sum_over_axes reach (set ms k 1) (set bs k (get_or bs k 0)) ≡ sum_over_axes reach (set ms k 1) bs = ap (sum_over_axes reach (set ms k 1)) (set-get_or bs k 0) in
      omega (arith, e, t, s, same)

  -- an index list of the box: its index of the axis, and how far the others lie
  pub lift-parts : (up : List ℕ) → InBox ms up → ((j : ℕ) → j < length ms → 1 < get_or ms j 0 → distance (get_or bs j 0) ≤ distance (get_or bs k 0)) → (lift up bs / distance (get_or bs k 0) ≡ get_or up k 0) × (lift (set up k 0) bs ≡ lift up bs % distance (get_or bs k 0))
  lift-parts up b most =
      let m : ℕ = distance (get_or bs k 0) in
      let o = others-less most in
      let lu = InBox-length ms up b in
      let b0 = InBox-set_both ms up k 1 0 b (omega arith) in
      let le = lift-le (set ms k 1) bs (set up k 0) (let x = length-set ms k 1 in omega (arith, x, l)) b0 in
      let s = sum_over_axes-set (λ i b. i * distance b) up bs k 0 (get_or bs k 0) (omega (arith, l, lu)) (omega (arith, lt, lu)) in
      let same : lift (set up k 0) (set bs k (get_or bs k 0)) ≡ lift (set up k 0) bs = ap (lift (set up k 0)) (set-get_or bs k 0) in
      let sum : lift up bs ≡ get_or up k 0 * m + lift (set up k 0) bs = omega (arith, s, same) in
      let below : lift (set up k 0) bs < m = omega (arith, o, le) in
      let d : lift up bs / m ≡ get_or up k 0 = ap (λ x. x / m) sum ∙ div-mul-add (get_or up k 0) m (lift (set up k 0) bs) below in
      let p : m * (lift up bs / m) ≡ m * get_or up k 0 = ap (λ x. m * x) d in
      (d, omega (arith, sum, below, p))

-- places count modulo 2 ^ 64: how far an index list lies above the lowest place
above_lowest : (start at d low x q : ℕ) → start < 2 ^ 64 → (start + d) % 2 ^ 64 ≡ at → d + low ≡ x + 2 ^ 64 * q → x < 2 ^ 63 → x ≡ ((at + (2 ^ 64 - start)) % 2 ^ 64 + low) % 2 ^ 64
above_lowest start at d low x q ls ea e lx = omega arith

-- at first no index is known
pub sought-first : (ns bs index is : List ℕ) (start at : ℕ) → length bs ≡ length ns → AreNested ns bs → start < 2 ^ 64 → InBox ns is → place start bs is ≡ at → ((k : ℕ) → k < length ns → get_or index k 0 ≡ 0) → SearchState ns bs ns (((at + (2 ^ 64 - start)) % 2 ^ 64 + sum_over_axes below_first ns bs) % 2 ^ 64) index is
unfolding place
sought-first ns bs index is start at l h ls b e zeros =
    let up : List ℕ = turned_list ns bs is in
    let w = turned_list-within ns bs is b in
    let f = turned_list-far ns bs is l b in
    let le = lift-le ns bs up l w in
    let near = h.near in
    record {
      up = up;
      within = w;
      far = above_lowest start at (dot bs is) (sum_over_axes below_first ns bs) (lift up bs) f.0 ls e f.1 (omega (arith, le, near));
      not_yet = λ k lt long. (refl, turned_list-at ns bs is k l b lt);
      known = λ k lt short. let i = InBox-get ns is k b lt in let z = zeros k lt in omega (arith, i, z, short);
    }

-- axis k, longer than 1 and of the largest stride of such, is made known
module _ (ns bs ms index is : List ℕ) (rest k : ℕ) (ln : length ms ≡ length ns) (li : length index ≡ length ns) (lb : length bs ≡ length ns) (lt : k < length ns) (long : 1 < get_or ms k 0) (h : AreNested ms bs) (most : (j : ℕ) → j < length ms → 1 < get_or ms j 0 → distance (get_or bs j 0) ≤ distance (get_or bs k 0)) (b : InBox ns is) (s : SearchState ns bs ms rest index is) where
  -- what its stride tells
  told : (rest / distance (get_or bs k 0) ≡ get_or s.up k 0) × (lift (set s.up k 0) bs ≡ rest % distance (get_or bs k 0))
  told =
      let p = lift-parts ms bs k (omega (arith, lb, ln)) (omega (arith, lt, ln)) long h s.up s.within most in
      (ap (λ x. x / distance (get_or bs k 0)) (sym s.far) ∙ p.0, p.1 ∙ ap (λ x. x % distance (get_or bs k 0)) s.far)

  -- it is an index of the axis
  pub sought-below : rest / distance (get_or bs k 0) < get_or ms k 0
  sought-below = let t = told in let w = InBox-get ms s.up k s.within (omega (arith, lt, ln)) in omega (arith, t, w)

  -- turned back it is the index
  told-back : forward_index (get_or ms k 0) (get_or bs k 0) (rest / distance (get_or bs k 0)) ≡ get_or is k 0
  told-back =
      let n = s.not_yet k lt long in
      ap (λ x. forward_index x (get_or bs k 0) (rest / distance (get_or bs k 0))) n.0
      ∙ (ap (forward_index (get_or ns k 0) (get_or bs k 0)) (told.0 ∙ n.1)
      ∙ forward_index-again (get_or ns k 0) (get_or bs k 0) (get_or is k 0) (InBox-get ns is k b lt))

  pub sought-next : (v : ℕ) → v ≡ forward_index (get_or ms k 0) (get_or bs k 0) (rest / distance (get_or bs k 0)) → SearchState ns bs (set ms k 1) (rest % distance (get_or bs k 0)) (set index k v) is
  sought-next v e = record {
    up = set s.up k 0;
    within = InBox-set_both ms s.up k 1 0 s.within (omega arith);
    far = told.1;
    not_yet = λ j lj lo.
        elim (cases_eq j k) [
          | inl same ↦ absurd (let x = ap (λ i. get_or (set ms k 1) i 0) same ∙ get_or-set_same ms k 1 0 (omega (arith, lt, ln)) in omega (arith, x, lo))
          | inr other ↦ (
              let x = get_or-set_other ms k j 1 0 other in
              let y = get_or-set_other s.up k j 0 0 other in
              let n = s.not_yet j lj (omega (arith, x, lo)) in
              (x ∙ n.0, y ∙ n.1))
        ];
    known = λ j lj sh.
        elim (cases_eq j k) [
          | inl same ↦ ap (λ i. get_or (set index k v) i 0) same ∙ (get_or-set_same index k v 0 (omega (arith, lt, li)) ∙ (e ∙ (told-back ∙ ap (λ i. get_or is i 0) (sym same))))
          | inr other ↦ (let x = get_or-set_other ms k j 1 0 other in get_or-set_other index k j v 0 other ∙ s.known j lj (omega (arith, x, sh)))
        ];
  }

-- where no axis is longer than 1, all indices are known
pub sought-last : (ns bs ms index is : List ℕ) (rest : ℕ) → length index ≡ length ns → ((k : ℕ) → k < length ns → get_or ms k 0 ≤ 1) → InBox ns is → SearchState ns bs ms rest index is → index ≡ is
sought-last ns bs ms index is rest li short b s =
    let l = InBox-length ns is b in
    ext_get_or 0 index is (omega arith) (λ k lt. s.known k (omega arith) (short k (omega arith)))
