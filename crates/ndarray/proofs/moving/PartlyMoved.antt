-- What is still there of a row whose values are marked.
use Rattle.std.proofs.Common.{◌≡◌, ℕ, zero, suc, ◌<◌, Bool, true, false, List, [], ◌∷◌, map, length, refl, ap, arith}
use lib.ListN.{get_or, set, replicate}
use Rattle.std.specs.Prelude.{Some, None}
use Rattle.ndarray.specs.places.PartlyMoved.{remaining_slots, AllGone}

module _ {X : Type 0} where
  -- one slot for each value
  pub length-remaining_slots : (xs : List X) (fs : List Bool) → length (remaining_slots xs fs) ≡ length xs
  length-remaining_slots [] fs = refl
  length-remaining_slots (x ∷ xs) [] = ap suc (length-remaining_slots xs [])
  length-remaining_slots (x ∷ xs) (true ∷ fs) = ap suc (length-remaining_slots xs fs)
  length-remaining_slots (x ∷ xs) (false ∷ fs) = ap suc (length-remaining_slots xs fs)

  -- all are there where every mark is true
  pub remaining_slots-full : (xs : List X) → remaining_slots xs (replicate (length xs) true) ≡ map Some xs
  remaining_slots-full [] = refl
  remaining_slots-full (x ∷ xs) = ap (λ cs. Some x ∷ cs) (remaining_slots-full xs)

  -- a value that is there is the row's, and its mark is true
  pub remaining_slots-there : (xs : List X) (fs : List Bool) (i : ℕ) (x d : X) → get_or (remaining_slots xs fs) i None ≡ Some x → (i < length xs) × (get_or fs i false ≡ true) × (get_or xs i d ≡ x)
  remaining_slots-there [] fs i x d e = cc
  remaining_slots-there (y ∷ xs) [] zero x d e = cc
  remaining_slots-there (y ∷ xs) [] (suc i) x d e = let r = remaining_slots-there xs [] i x d e in (omega (arith, r.0), r.1, r.2)
  remaining_slots-there (y ∷ xs) (true ∷ fs) zero x d e = (omega arith, refl, cc)
  remaining_slots-there (y ∷ xs) (false ∷ fs) zero x d e = cc
  remaining_slots-there (y ∷ xs) (true ∷ fs) (suc i) x d e = let r = remaining_slots-there xs fs i x d e in (omega (arith, r.0), r.1, r.2)
  remaining_slots-there (y ∷ xs) (false ∷ fs) (suc i) x d e = let r = remaining_slots-there xs fs i x d e in (omega (arith, r.0), r.1, r.2)

  -- a mark that becomes false empties its slot
  pub remaining_slots-set : (xs : List X) (fs : List Bool) (i : ℕ) → remaining_slots xs (set fs i false) ≡ set (remaining_slots xs fs) i None
  remaining_slots-set [] fs i = refl
  remaining_slots-set (x ∷ xs) [] zero = refl
  remaining_slots-set (x ∷ xs) [] (suc i) = ap (λ cs. None ∷ cs) (remaining_slots-set xs [] i)
  remaining_slots-set (x ∷ xs) (true ∷ fs) zero = refl
  remaining_slots-set (x ∷ xs) (false ∷ fs) zero = refl
  remaining_slots-set (x ∷ xs) (true ∷ fs) (suc i) = ap (λ cs. Some x ∷ cs) (remaining_slots-set xs fs i)
  remaining_slots-set (x ∷ xs) (false ∷ fs) (suc i) = ap (λ cs. None ∷ cs) (remaining_slots-set xs fs i)

  -- where nothing is there, every mark is false
  pub remaining_slots-gone : (xs : List X) (fs : List Bool) (n : ℕ) → n ≡ length xs → n ≡ length fs → AllGone (remaining_slots xs fs) → fs ≡ replicate n false
  remaining_slots-gone [] [] zero lx lf gone = refl
  remaining_slots-gone [] (f ∷ fs) zero lx lf gone = absurd (omega (arith, lf))
  remaining_slots-gone (x ∷ xs) fs zero lx lf gone = absurd (omega (arith, lx))
  remaining_slots-gone [] fs (suc n) lx lf gone = absurd (omega (arith, lx))
  remaining_slots-gone (x ∷ xs) [] (suc n) lx lf gone = absurd (omega (arith, lf))
  remaining_slots-gone (x ∷ xs) (true ∷ fs) (suc n) lx lf gone = let e = gone 0 in cc
  remaining_slots-gone (x ∷ xs) (false ∷ fs) (suc n) lx lf gone = ap (λ gs. false ∷ gs) (remaining_slots-gone xs fs n (omega (arith, lx)) (omega (arith, lf)) (λ i. gone (suc i)))
