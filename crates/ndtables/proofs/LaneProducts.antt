-- The absolute values of a lane's cells that are not zero multiply to no more than those of the array.
use Rattle.std.proofs.Common.{◌≡◌, ℕ, zero, suc, ◌<◌, ◌≤◌, ◌*◌, Bool, true, false, if◌then◌else◌, List, [], ◌∷◌, ℤ, pos, length, refl, ap, sym, subst, arith}
use Rattle.std.specs.Prelude.{negsuc, ◌*ℤ◌, FitsSigned}
use Rattle.std.specs.Int.{w64}
use Rattle.std.proofs.lemmas.Nat.{mul-le}
use Rattle.ndarray.specs.Grid.{Grid, IsGrid}
use Rattle.ndarray.specs.Integers.{int_products, magnitude_product, nonzero_magnitude}
use Rattle.ndarray.specs.Sums.{select, total_by}
use Rattle.ndarray.proofs.callers.Lanes.{lanes-summable}
use Rattle.ndtables.specs.Reducing.{CanMultiplyAlong, ProductsFit}

-- the absolute values that are not zero, multiplied as numbers
abbrev product_of : List ℤ → ℤ
product_of zs = total_by int_products (λ z. pos (nonzero_magnitude z)) zs

magnitude-some : (z : ℤ) → 1 ≤ nonzero_magnitude z
magnitude-some (pos zero) = omega arith
magnitude-some (pos (suc n)) = omega arith
magnitude-some (negsuc n) = omega arith

-- the product of a selection is a number of at most that of the whole list
abbrev IsWithin : List ℤ → List ℤ → Type 0
IsWithin some zs = (n : ℕ) × (product_of some ≡ pos n) × (n ≤ magnitude_product zs)

one-more : (kept : Bool) (z : ℤ) (some zs : List ℤ) → IsWithin some zs → IsWithin (if kept then z ∷ some else some) (z ∷ zs)
one-more true z some zs (n, e, le) = (nonzero_magnitude z * n, ap (λ t. pos (nonzero_magnitude z) *ℤ t) e, mul-le (nonzero_magnitude z) n (nonzero_magnitude z) (magnitude_product zs) (omega arith) le)
one-more false z some zs (n, e, le) =
    let k : 1 * n ≤ nonzero_magnitude z * magnitude_product zs = mul-le 1 n (nonzero_magnitude z) (magnitude_product zs) (magnitude-some z) le in
    (n, e, omega (arith, k))

selected : (keep : ℕ → Bool) (zs : List ℤ) → IsWithin (select keep zs) zs
selected keep [] = (1, refl, omega arith)
selected keep (z ∷ zs) = one-more (keep 0) z (select (λ i. keep (suc i)) zs) zs (selected (λ i. keep (suc i)) zs)

-- with all of the list selected
all-selected : (zs : List ℤ) → product_of (select (λ _. true) zs) ≡ pos (magnitude_product zs)
all-selected [] = refl
all-selected (z ∷ zs) = ap (λ t. pos (nonzero_magnitude z) *ℤ t) (all-selected zs)

fits-below : (m n : ℕ) → FitsSigned w64 (pos m) → n ≤ m → FitsSigned w64 (pos n)
fits-below m n fits le = let k = fits.sfits in record { sfits = omega (arith, k, le) }

pub lanes-multiply : (g : Grid ℤ) (k : ℕ) → IsGrid g → k < length g.lengths → ProductsFit g.cells → CanMultiplyAlong g k
lanes-multiply g k whole lt fits js lane at =
    let each = lanes-summable g whole k lt int_products (FitsSigned w64) (λ z. pos (nonzero_magnitude z)) (λ keep. let (n, e, le) = selected keep g.cells in subst (FitsSigned w64) (sym e) (fits-below (magnitude_product g.cells) n fits le)) in
    subst (FitsSigned w64) (all-selected lane.cells) (each js lane at (λ _. true))
