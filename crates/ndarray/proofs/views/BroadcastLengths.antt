-- The lengths of two shapes broadcast together.
use Rattle.std.proofs.Common.{◌≡◌, ℕ, ◌+◌, ◌-◌, ◌<◌, ◌≤◌, ◌⊎◌, List, length, get_or, replicate, inl, inr, sym, ◌∙◌, ap, arith, max, subst, zip}
use Rattle.std.proofs.lemmas.Bool.{cases_eq, cases_lt}
use Rattle.std.proofs.lemmas.Bool.Decides.{nat_tests}
use Rattle.std.proofs.lemmas.Grind.{same_number_lists}
use Rattle.std.proofs.lemmas.List.{get_or_append_left, get_or-append_right, get_or-map, get_or-replicate, length-append, length-map, length-replicate}
use Rattle.std.proofs.lemmas.Slice.Zip.{get_or-zip, length-zip}
use Rattle.std.proofs.Math.Nat.{le-max_left, le-max_right, max_comm}
use Rattle.ndarray.specs.Broadcast.{BroadcastsTo, BroadcastTogether, broadcast_lengths, meeting_length, with_ones_before}
use Rattle.ndarray.specs.Limits.{IsWithinLimit}

pub length-with_ones : (r : ℕ) (ns : List ℕ) → length ns ≤ r → length (with_ones_before r ns) ≡ r
length-with_ones r ns le =
    let b = length-replicate {A = ℕ} (r - length ns) 1 in
    length-append (replicate (r - length ns) 1) ns ∙ omega arith

pub ones-before : (r : ℕ) (ns : List ℕ) (k : ℕ) → k < r - length ns → get_or (with_ones_before r ns) k 0 ≡ 1
ones-before r ns k lt =
    let b = length-replicate {A = ℕ} (r - length ns) 1 in
    get_or_append_left (replicate (r - length ns) 1) ns 0 k (omega arith) ∙ get_or-replicate (r - length ns) k 1 0 lt

pub own-after : (r : ℕ) (ns : List ℕ) (k : ℕ) → r - length ns ≤ k → get_or (with_ones_before r ns) k 0 ≡ get_or ns (k - (r - length ns)) 0
own-after r ns k le = get_or-append_right (replicate (r - length ns) 1) ns (r - length ns) k 0 (length-replicate (r - length ns) 1) le

module _ (ns ms : List ℕ) where
  -- the two lengths that meet at an axis of the result
  abbrev pub left_at : ℕ → ℕ
  left_at k = get_or (with_ones_before (max (length ns) (length ms)) ns) k 0

  abbrev pub right_at : ℕ → ℕ
  right_at k = get_or (with_ones_before (max (length ns) (length ms)) ms) k 0

  -- they are equal, or one is 1
  abbrev pub Meet : ℕ → Type 0
  Meet k = (left_at k ≡ right_at k) ⊎ ((left_at k ≡ 1) ⊎ (right_at k ≡ 1))

  pub length-broadcast : length (broadcast_lengths ns ms) ≡ max (length ns) (length ms)
  unfolding broadcast_lengths
  length-broadcast =
      let r = max (length ns) (length ms) in
      let a = length-with_ones r ns (le-max_left (length ns) (length ms)) in
      let b = length-with_ones r ms (le-max_right (length ns) (length ms)) in
      let z = length-zip (with_ones_before r ns) (with_ones_before r ms) in
      let m = length-map (zip (with_ones_before r ns) (with_ones_before r ms)) meeting_length in
      omega arith

  pub broadcast-at : (k : ℕ) → k < max (length ns) (length ms) → get_or (broadcast_lengths ns ms) k 0 ≡ meeting_length (left_at k, right_at k)
  unfolding broadcast_lengths
  broadcast-at k lt =
      let r = max (length ns) (length ms) in
      let a = length-with_ones r ns (le-max_left (length ns) (length ms)) in
      let b = length-with_ones r ms (le-max_right (length ns) (length ms)) in
      let z = length-zip (with_ones_before r ns) (with_ones_before r ms) in
      get_or-map meeting_length (zip (with_ones_before r ns) (with_ones_before r ms)) k (0, 0) 0 (omega arith)
      ∙ ap meeting_length (get_or-zip (with_ones_before r ns) (with_ones_before r ms) k (0, 0) (omega arith) (omega arith))

  pub is-broadcast : (rs : List ℕ) → length rs ≡ max (length ns) (length ms) → ((k : ℕ) → k < length rs → get_or rs k 0 ≡ meeting_length (left_at k, right_at k)) → rs ≡ broadcast_lengths ns ms
  is-broadcast rs l e = let b = length-broadcast in same_number_lists rs (broadcast_lengths ns ms) (omega arith) (λ k lt. e k lt ∙ sym (broadcast-at k (omega arith)))

  -- the length at an axis of the result is that of each side there, or that side has 1
  left-or_one : (k : ℕ) → k < max (length ns) (length ms) → (left_at k ≡ 1) ⊎ (left_at k ≡ get_or (broadcast_lengths ns ms) k 0)
  left-or_one k lt = let b = broadcast-at k lt in elim (cases_eq (left_at k) 1) [ inl e ↦ inl e | inr ne ↦ inr (sym (b ∙ grind (arith, nat_tests))) ]

  right-or_one : (k : ℕ) → k < max (length ns) (length ms) → Meet k → (right_at k ≡ 1) ⊎ (right_at k ≡ get_or (broadcast_lengths ns ms) k 0)
  right-or_one k lt h =
      let b = broadcast-at k lt in
      elim (cases_eq (left_at k) 1) [
        | inl e ↦ inr (sym (b ∙ grind (arith, nat_tests)))
        | inr ne ↦ elim h [
          | inl same ↦ inr (sym (b ∙ grind (arith, nat_tests)))
          | inr one ↦ elim one [ inl e ↦ absurd (ne e) | inr e ↦ inl e ]
        ]
      ]

  -- each side broadcasts to the result where all lengths meet
  pub together : ((k : ℕ) → k < max (length ns) (length ms) → Meet k) → IsWithinLimit (broadcast_lengths ns ms) → BroadcastTogether ns ms
  together h limit =
      let r = max (length ns) (length ms) in
      let l = length-broadcast in
      let ln = le-max_left (length ns) (length ms) in
      let lm = le-max_right (length ns) (length ms) in
      record {
        left = record {
          fewer = omega arith;
          agree = λ k lt.
              let p : ℕ = length (broadcast_lengths ns ms) - length ns + k in
              let own : left_at p ≡ get_or ns k 0 = own-after r ns p (omega arith) ∙ ap (λ j. get_or ns j 0) (omega arith) in
              elim (left-or_one p (omega arith)) [ inl e ↦ inl (sym own ∙ e) | inr e ↦ inr (sym own ∙ e) ];
        };
        right = record {
          fewer = omega arith;
          agree = λ k lt.
              let p : ℕ = length (broadcast_lengths ns ms) - length ms + k in
              let own : right_at p ≡ get_or ms k 0 = own-after r ms p (omega arith) ∙ ap (λ j. get_or ms j 0) (omega arith) in
              elim (right-or_one p (omega arith) (h p (omega arith))) [ inl e ↦ inl (sym own ∙ e) | inr e ↦ inr (sym own ∙ e) ];
        };
        limit = limit;
      }

  -- and only there
  pub meets : BroadcastTogether ns ms → (k : ℕ) → k < max (length ns) (length ms) → Meet k
  meets t k lt =
      let r = max (length ns) (length ms) in
      let l = length-broadcast in
      let lm = le-max_right (length ns) (length ms) in
      elim (left-or_one k lt) [
        | inl e ↦ inr (inl e)
        | inr e ↦ elim (cases_lt k (r - length ms)) [
          | inl before ↦ inr (inr (ones-before r ms k before))
          | inr after ↦ (
              let j : ℕ = k - (r - length ms) in
              let own : right_at k ≡ get_or ms j 0 = own-after r ms k after in
              let at : length (broadcast_lengths ns ms) - length ms + j ≡ k = omega arith in
              elim (t.right.agree j (omega arith)) [
                | inl one ↦ inr (inr (own ∙ one))
                | inr same ↦ inl (e ∙ sym (own ∙ same ∙ ap (λ i. get_or (broadcast_lengths ns ms) i 0) at))
              ])
        ]
      ]

meeting-exchanged : (x y : ℕ) → (x ≡ y) ⊎ ((x ≡ 1) ⊎ (y ≡ 1)) → meeting_length (x, y) ≡ meeting_length (y, x)
meeting-exchanged x y h = elim h [
  | inl same ↦ grind (arith, nat_tests)
  | inr one ↦ elim one [ inl e ↦ grind (arith, nat_tests) | inr e ↦ grind (arith, nat_tests) ]
]

-- Two shapes broadcast together in either order, to the same lengths.
module _ (ns ms : List ℕ) (t : BroadcastTogether ns ms) where
  pub lengths-exchanged : broadcast_lengths ns ms ≡ broadcast_lengths ms ns
  lengths-exchanged =
      let l = length-broadcast ns ms in
      let turned = max_comm (length ns) (length ms) in
      is-broadcast ms ns (broadcast_lengths ns ms) (l ∙ turned)
      (λ k lt.
      let here : k < max (length ns) (length ms) = omega arith in
      let left : left_at ns ms k ≡ right_at ms ns k = ap (λ r. get_or (with_ones_before r ns) k 0) turned in
      let right : right_at ns ms k ≡ left_at ms ns k = ap (λ r. get_or (with_ones_before r ms) k 0) turned in
      broadcast-at ns ms k here
      ∙ (meeting-exchanged (left_at ns ms k) (right_at ns ms k) (meets ns ms t k here)
      ∙ (ap (λ y. meeting_length (y, left_at ns ms k)) right ∙ ap (λ x. meeting_length (left_at ms ns k, x)) left)))

  pub together-exchanged : BroadcastTogether ms ns
  together-exchanged = record {
    left = subst (BroadcastsTo ms) lengths-exchanged t.right;
    right = subst (BroadcastsTo ns) lengths-exchanged t.left;
    limit = subst IsWithinLimit lengths-exchanged t.limit;
  }

-- Where the right one broadcasts to the left one, they are the left lengths.
module _ (ns ms : List ℕ) (t : BroadcastsTo ms ns) where
  right-one_or_same : (k : ℕ) → k < length ns → (right_at ns ms k ≡ 1) ⊎ (right_at ns ms k ≡ get_or ns k 0)
  right-one_or_same k lt =
      let few = t.fewer in
      let r : max (length ns) (length ms) ≡ length ns = omega arith in
      elim (cases_lt k (length ns - length ms)) [
        | inl before ↦ inl (ones-before (max (length ns) (length ms)) ms k (omega arith))
        | inr after ↦ (
            let j : ℕ = k - (length ns - length ms) in
            let own : right_at ns ms k ≡ get_or ms j 0 = own-after (max (length ns) (length ms)) ms k (omega arith) ∙ ap (λ i. get_or ms i 0) (omega arith) in
            let at : length ns - length ms + j ≡ k = omega arith in
            elim (t.agree j (omega arith)) [
              | inl one ↦ inl (own ∙ one)
              | inr same ↦ inr (own ∙ same ∙ ap (λ i. get_or ns i 0) at)
            ])
      ]

  left-itself : (k : ℕ) → k < length ns → left_at ns ms k ≡ get_or ns k 0
  left-itself k lt =
      let few = t.fewer in
      own-after (max (length ns) (length ms)) ns k (omega arith) ∙ ap (λ i. get_or ns i 0) (omega arith)

  pub lengths-stretched : broadcast_lengths ns ms ≡ ns
  lengths-stretched =
      let few = t.fewer in
      sym (is-broadcast ns ms ns (omega arith)
      (λ k lt.
      let l = left-itself k lt in
      elim (right-one_or_same k lt) [ inl one ↦ grind (arith, nat_tests) | inr same ↦ grind (arith, nat_tests) ]))

  pub together-stretched : IsWithinLimit ns → BroadcastTogether ns ms
  together-stretched limit =
      let few = t.fewer in
      together ns ms
      (λ k lt.
      let l = left-itself k (omega arith) in
      elim (right-one_or_same k (omega arith)) [ inl one ↦ inr (inr one) | inr same ↦ inl (l ∙ sym same) ])
      (subst IsWithinLimit (sym lengths-stretched) limit)

-- lengths broadcast to themselves
pub broadcasts-itself : (ns : List ℕ) → BroadcastsTo ns ns
broadcasts-itself ns = record { fewer = omega arith; agree = λ k lt. inr (ap (λ i. get_or ns i 0) (omega arith)) }
