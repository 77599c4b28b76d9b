-- The whole numbers with addition and with multiplication, the sums of the positive and of the negative ones of a list, and the product of the absolute values.
use Rattle.std.specs.Prelude.{ℕ, zero, suc, ◌*◌, ℤ, pos, negsuc, ◌+ℤ◌, ◌*ℤ◌, neg_ℤ, List, [], ◌∷◌, FitsSigned}
use Rattle.std.specs.Int.{Width}
use Rattle.std.proofs.Common.{arith}
use Rattle.std.proofs.Math.IntN.{+ℤ_assoc, +ℤ_comm, +ℤ_idl, *ℤ_comm}
use Rattle.ndarray.specs.Algebra.{CommutativeMonoid}
use Rattle.ndarray.specs.IntegerProducts.{times-associates, one-times}

-- addition, with zero
abbrev pub int_sums : CommutativeMonoid ℤ
int_sums = record { unit = pos 0; op = ◌+ℤ◌; associates = +ℤ_assoc; commutes = +ℤ_comm; unit_op = +ℤ_idl }

-- multiplication, with one
abbrev pub int_products : CommutativeMonoid ℤ
int_products = record { unit = pos 1; op = ◌*ℤ◌; associates = times-associates; commutes = *ℤ_comm; unit_op = one-times }

-- the positive numbers of a list, added up
abbrev pub positive_sum : List ℤ → ℤ
positive_sum [] = pos 0
positive_sum (pos n ∷ zs) = pos n +ℤ positive_sum zs
positive_sum (negsuc n ∷ zs) = positive_sum zs

-- the negative numbers of a list, added up
abbrev pub negative_sum : List ℤ → ℤ
negative_sum [] = pos 0
negative_sum (pos n ∷ zs) = negative_sum zs
negative_sum (negsuc n ∷ zs) = negsuc n +ℤ negative_sum zs

-- the absolute value, and 1 for zero
abbrev pub nonzero_magnitude : ℤ → ℕ
nonzero_magnitude (pos zero) = 1
nonzero_magnitude (pos (suc n)) = suc n
nonzero_magnitude (negsuc n) = suc n

-- the absolute values of the numbers of a list that are not zero, multiplied
abbrev pub magnitude_product : List ℤ → ℕ
magnitude_product [] = 1
magnitude_product (z ∷ zs) = nonzero_magnitude z * magnitude_product zs

-- a signed type has the negative of each of its positive numbers
pub signed-negated : (w : Width) (n : ℕ) → FitsSigned w (pos n) → FitsSigned w (neg_ℤ (pos n))
signed-negated w zero h = h
signed-negated w (suc n) h = let k = h.sfits in record { sfits = omega (arith, k) }
