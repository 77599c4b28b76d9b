-- Triangles that were made are parts of the array that they were made of.
use Rattle.ndarray.proofs.Common.{◌≡◌, ◌-ℤ◌, ℤ, pos, subst, sym, Grid, ArePartsOf, lower_triangle, upper_triangle}

pub parts-made : {A : Type 0} (zero : A) (k : ℤ) (m upper lower : Grid A) → upper ≡ upper_triangle k zero m → lower ≡ lower_triangle (k -ℤ pos 1) zero m
    → ArePartsOf zero m (upper_triangle k zero m) (lower_triangle (k -ℤ pos 1) zero m) → ArePartsOf zero m upper lower
parts-made zero k m upper lower is_upper is_lower parts =
    subst (λ u. ArePartsOf zero m u lower) (sym is_upper) (subst (λ l. ArePartsOf zero m (upper_triangle k zero m) l) (sym is_lower) parts)
