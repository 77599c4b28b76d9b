-- The fields of a record, taken one after the other.
use Rattle.std.proofs.Common.{◌≡◌, ◌++◌, ◌∷◌, [], ◌<◌, ◌≤◌, ℕ, zero, suc, List, Some, None, ap, arith, length, take}
use Rattle.csv.specs.Records.{field_at}

pub field-below : (fs : List (List ℕ)) (i : ℕ) (x : List ℕ) → field_at fs i ≡ Some x → (i < length fs) × (take (suc i) fs ≡ take i fs ++ x ∷ [])
unfolding field_at
field-below [] i x e = absurd (cc)
field-below (f ∷ fs) zero x e = let same : f ≡ x = cc in (omega arith, ap (λ y. y ∷ []) same)
field-below (f ∷ fs) (suc i) x e = let (lt, t) = field-below fs i x e in (omega (arith, lt), ap (λ ys. f ∷ ys) t)

pub field-over : (fs : List (List ℕ)) (i : ℕ) → field_at fs i ≡ None → length fs ≤ i
unfolding field_at
field-over [] i e = omega arith
field-over (f ∷ fs) zero e = absurd (cc)
field-over (f ∷ fs) (suc i) e = let le = field-over fs i e in omega (arith, le)
