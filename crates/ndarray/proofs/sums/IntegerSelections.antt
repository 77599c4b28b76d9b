-- The sums of all selections of a list of whole numbers.
use Rattle.std.proofs.Common.{◌≡◌, ℕ, suc, Bool, true, false, cond, List, [], ◌∷◌, map, refl, ap, subst, arith, ◌↔◌}
use Rattle.std.specs.Prelude.{ℤ, pos, negsuc, ◌+ℤ◌, ◌≤ℤ◌, IsTrue}
use Rattle.std.proofs.lemmas.Int.{ints}
use Rattle.ndarray.specs.Sums.{total, select, IsSummable, IsSummableBy}
use Rattle.ndarray.specs.Integers.{int_sums, positive_sum, negative_sum}
use Rattle.ndarray.proofs.sums.Selections.{at_front, IsSummableBy-map}

-- ---- the sums of all selections

between_step : (b : Bool) (z : ℤ) (ys zs : List ℤ) → (negative_sum zs ≤ℤ total int_sums ys) × (total int_sums ys ≤ℤ positive_sum zs) → (negative_sum (z ∷ zs) ≤ℤ total int_sums (cond b (z ∷ ys) ys)) × (total int_sums (cond b (z ∷ ys) ys) ≤ℤ positive_sum (z ∷ zs))
between_step true (pos n) ys zs h = (omega (arith, ints), omega (arith, ints))
between_step true (negsuc n) ys zs h = (omega (arith, ints), omega (arith, ints))
between_step false (pos n) ys zs h = (omega (arith, ints), omega (arith, ints))
between_step false (negsuc n) ys zs h = (omega (arith, ints), omega (arith, ints))

total-between : (keep : ℕ → Bool) (zs : List ℤ) → (negative_sum zs ≤ℤ total int_sums (select keep zs)) × (total int_sums (select keep zs) ≤ℤ positive_sum zs)
total-between keep [] = (omega (arith, ints), omega (arith, ints))
total-between keep (z ∷ zs) = between_step (keep 0) z (select (λ i. keep (suc i)) zs) zs (total-between (λ i. keep (suc i)) zs)

-- the positive numbers are a selection, and so are the negative ones
positives : (zs : List ℤ) → (keep : ℕ → Bool) × (total int_sums (select keep zs) ≡ positive_sum zs)
positives [] = ((λ _. false), refl)
positives (pos n ∷ zs) = let w = positives zs in (at_front true w.0, ap (λ t. pos n +ℤ t) w.1)
positives (negsuc n ∷ zs) = let w = positives zs in (at_front false w.0, w.1)

negatives : (zs : List ℤ) → (keep : ℕ → Bool) × (total int_sums (select keep zs) ≡ negative_sum zs)
negatives [] = ((λ _. false), refl)
negatives (pos n ∷ zs) = let w = negatives zs in (at_front false w.0, w.1)
negatives (negsuc n ∷ zs) = let w = negatives zs in (at_front true w.0, ap (λ t. negsuc n +ℤ t) w.1)

-- ---- where each number between two that fit does fit

module _ (fits : ℤ → Type 0) (between : (x y z : ℤ) → fits x → fits z → x ≤ℤ y → y ≤ℤ z → fits y) where
  -- every selection's sum fits exactly where the positive and the negative numbers' sums do
  pub IsSummable-exactly : (zs : List ℤ) → IsSummable int_sums fits zs ↔ (fits (positive_sum zs) × fits (negative_sum zs))
  IsSummable-exactly zs = (
    (λ h. let p = positives zs in let n = negatives zs in (subst fits p.1 (h p.0), subst fits n.1 (h n.0))),
    (λ h keep. let t = total-between keep zs in between (negative_sum zs) (total int_sums (select keep zs)) (positive_sum zs) h.1 h.0 t.0 t.1),
  )

  -- an answer that tells the one tells the other
  pub tells_summable : (zs : List ℤ) (b : Bool) → IsTrue b ↔ (fits (positive_sum zs) × fits (negative_sum zs)) → IsTrue b ↔ IsSummable int_sums fits zs
  tells_summable zs b h =
      let e = IsSummable-exactly zs in
      ((λ t. e.1 (h.0 t)), (λ s. h.1 (e.0 s)))

  -- and the same of the numbers of elements
  pub tells_summable_by : {A : Type 0} (value : A → ℤ) (xs : List A) (b : Bool) → IsTrue b ↔ (fits (positive_sum (map value xs)) × fits (negative_sum (map value xs))) → IsTrue b ↔ IsSummableBy int_sums fits value xs
  tells_summable_by value xs b h =
      let s = tells_summable (map value xs) b h in
      let m = IsSummableBy-map int_sums value fits xs in
      ((λ t. m.1 (s.0 t)), (λ f. s.1 (m.0 f)))
