-- Zeros that are put in do not change a sum of absolute values.
use Rattle.std.proofs.Common.{◌≡◌, ◌+◌, List, refl, ap, arith}
use Rattle.std.specs.Prelude.{ℤ, pos, unsigned_abs}
use Rattle.std.specs.List.{AllByRecursion}
use Rattle.ndarray.specs.Algebra.{CommutativeMonoid}
use Rattle.ndarray.specs.Products.{magnitude_sum}
use Rattle.ndarray.proofs.convolution.NeutralValues.{WithNeutral}

module _ (M : CommutativeMonoid ℤ) (is_zero : M.unit ≡ pos 0) where
  pub WithNeutral-magnitudes : (ys xs : List ℤ) → WithNeutral M ys xs → magnitude_sum ys ≡ magnitude_sum xs
  WithNeutral-magnitudes ys xs WithNeutral.none = refl
  WithNeutral-magnitudes ys xs (WithNeutral.more y1 x1 h) =
      let a : unsigned_abs M.unit ≡ 0 = ap unsigned_abs is_zero in
      let b = WithNeutral-magnitudes y1 x1 h in
      omega arith
  WithNeutral-magnitudes ys xs (WithNeutral.both x y1 x1 h) = ap (λ n. unsigned_abs x + n) (WithNeutral-magnitudes y1 x1 h)

-- what holds of zero and of each value holds of each value and the zeros
pub WithNeutral-each : {C : Type 0} (M : CommutativeMonoid C) (P : C → Type 0) → P M.unit → (ys xs : List C) → WithNeutral M ys xs → AllByRecursion P xs → AllByRecursion P ys
WithNeutral-each M P u ys xs WithNeutral.none a = a
WithNeutral-each M P u ys xs (WithNeutral.more y1 x1 h) a = (u, WithNeutral-each M P u y1 x1 h a)
WithNeutral-each M P u ys xs (WithNeutral.both x y1 x1 h) a = (a.0, WithNeutral-each M P u y1 x1 h a.1)
