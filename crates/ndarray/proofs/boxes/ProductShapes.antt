-- The lengths of products of vectors and matrices.
use Rattle.std.proofs.Common.{◌≡◌, ℕ, zero, suc, ◌*◌, ◌/◌, ◌%◌, ◌-◌, ◌<◌, ◌≤◌, ◌^◌, List, [], ◌∷◌, length, get_or, remove, inl, inr, refl, sym, ap, ◌∙◌, subst, arith, ◌⊎◌}
use Rattle.std.proofs.Math.Nat.{div-lt_iff_lt-mul, mod-lt}
use Rattle.std.proofs.lemmas.List.{length-append}
use Rattle.std.proofs.lemmas.List.Edits.{length-remove}
use Rattle.ndarray.specs.DotLaws.{HasOneOrTwoAxes}
use Rattle.ndarray.specs.Limits.{IsWithinLimit}
use Rattle.ndarray.specs.Products.{ShapesMultiply, kronecker_lengths, product_lengths}
use Rattle.ndarray.proofs.boxes.Sizes.{length-fits, nonzero-one_of}
use Rattle.ndarray.proofs.cells.Matrices.{one-length, two-lengths}

module _ (ns ms : List ℕ) where
  pub lengths-two_two : length ns ≡ 2 → length ms ≡ 2 → product_lengths ns ms ≡ get_or ns 0 0 ∷ get_or ms 1 0 ∷ []
  lengths-two_two p q = ap (λ l. product_lengths l ms) (two-lengths ns p) ∙ ap (product_lengths (get_or ns 0 0 ∷ get_or ns 1 0 ∷ [])) (two-lengths ms q)

  pub lengths-two_one : length ns ≡ 2 → length ms ≡ 1 → product_lengths ns ms ≡ get_or ns 0 0 ∷ []
  lengths-two_one p q = ap (λ l. product_lengths l ms) (two-lengths ns p) ∙ ap (product_lengths (get_or ns 0 0 ∷ get_or ns 1 0 ∷ [])) (one-length ms q)

  pub lengths-one_two : length ns ≡ 1 → length ms ≡ 2 → product_lengths ns ms ≡ get_or ms 1 0 ∷ []
  lengths-one_two p q = ap (λ l. product_lengths l ms) (one-length ns p) ∙ ap (product_lengths (get_or ns 0 0 ∷ [])) (two-lengths ms q)

  pub lengths-one_one : length ns ≡ 1 → length ms ≡ 1 → product_lengths ns ms ≡ []
  lengths-one_one p q = ap (λ l. product_lengths l ms) (one-length ns p) ∙ ap (product_lengths (get_or ns 0 0 ∷ [])) (one-length ms q)

  -- the inner lengths
  pub inner-two : length ns ≡ 2 → get_or ns (length ns - 1) 0 ≡ get_or ms 0 0 → get_or ns 1 0 ≡ get_or ms 0 0
  inner-two p e = sym (ap (λ n. get_or ns (n - 1) 0) p) ∙ e

  pub inner-matrices : length ns ≡ 2 → length ms ≡ 2 → get_or ns (length ns - 1) 0 ≡ get_or ms (length ms - 2) 0 → get_or ns 1 0 ≡ get_or ms 0 0
  inner-matrices p q e = inner-two p (e ∙ ap (λ m. get_or ms (m - 2) 0) q)

  pub limit-two_two : length ns ≡ 2 → length ms ≡ 2 → ShapesMultiply ns ms → IsWithinLimit (get_or ns 0 0 ∷ get_or ms 1 0 ∷ [])
  limit-two_two p q s = subst IsWithinLimit (lengths-two_two p q) s.limit

  pub one-or-two : (ks : List ℕ) → 1 ≤ length ks → length ks ≤ 2 → HasOneOrTwoAxes ks
  one-or-two [] a b = absurd (omega arith)
  one-or-two (k ∷ []) a b = inl refl
  one-or-two (k ∷ l ∷ []) a b = inr refl
  one-or-two (k ∷ l ∷ m ∷ ks) a b = absurd (omega arith)

  -- vectors and matrices whose inner lengths are equal
  module _ (nl : 1 ≤ length ns) (nh : length ns ≤ 2) (ml : 1 ≤ length ms) (mh : length ms ≤ 2) (inner : get_or ns (length ns - 1) 0 ≡ get_or ms 0 0) where
    meet : get_or ns (length ns - 1) 0 ≡ get_or ms (length ms - 2) 0
    meet = inner ∙ (let e : 0 ≡ length ms - 2 = omega (arith, mh) in ap (λ k. get_or ms k 0) e)

    few-axes : length (product_lengths ns ms) ≤ 32
    few-axes =
        let a = length-append (remove ns (length ns - 1)) (remove ms (length ms - 2)) in
        let b = length-remove ns (length ns - 1) (omega (arith, nl)) in
        let c = length-remove ms (length ms - 2) (omega (arith, ml)) in
        omega (arith, a, b, c, nh, mh)

    pub matrix-shapes : IsWithinLimit (product_lengths ns ms) → ShapesMultiply ns ms
    matrix-shapes limit = record { left = nl; right = ml; inner = meet; axes = few-axes; limit = limit }

    -- where one side is a vector, the lengths of the product are within the limit
    module _ (left : IsWithinLimit ns) (right : IsWithinLimit ms) where
      vector-limit : (length ns ≡ 1) ⊎ (length ms ≡ 1) → IsWithinLimit (product_lengths ns ms)
      vector-limit (inl p) = elim (one-or-two ms ml mh) [
        | inl q ↦ subst IsWithinLimit (sym (lengths-one_one p q)) (omega arith)
        | inr q ↦ subst IsWithinLimit (sym (lengths-one_two p q)) (let k = nonzero-one_of ms 1 (omega (arith, q)) in omega (arith, k, right))
      ]
      vector-limit (inr q) = elim (one-or-two ns nl nh) [
        | inl p ↦ subst IsWithinLimit (sym (lengths-one_one p q)) (omega arith)
        | inr p ↦ subst IsWithinLimit (sym (lengths-two_one p q)) (let k = nonzero-one_of ns 0 (omega (arith, p)) in omega (arith, k, left))
      ]

      pub vector-shapes : (length ns ≡ 1) ⊎ (length ms ≡ 1) → ShapesMultiply ns ms
      vector-shapes one = matrix-shapes (vector-limit one)

-- lengths within the limit fit a word, each alone
pub kronecker-rows_fit : (ns ms : List ℕ) → IsWithinLimit (kronecker_lengths ns ms) → get_or ns 0 0 * get_or ms 0 0 < 2 ^ 63
kronecker-rows_fit ns ms h = length-fits (kronecker_lengths ns ms) 0 (omega arith) h

-- an index among l * m, as quotient and remainder by m
pub quotient-below : (p l m : ℕ) → p < l * m → (0 < m) × (p / m < l) × (p % m < m)
quotient-below p l zero h = absurd (let z : l * 0 ≡ 0 = omega arith in omega (arith, h, z))
quotient-below p l (suc m) h = (omega arith, (div-lt_iff_lt-mul {k = suc m} {x = p} {y = l} (omega arith)).1 h, mod-lt p {m = suc m} (omega arith))
