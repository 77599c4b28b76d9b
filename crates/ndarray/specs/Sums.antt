-- Sums of lists of values, and the lists of which every selection has its sum in range.
use Rattle.std.specs.Prelude.{ℕ, suc, Bool, if◌then◌else◌, List, [], ◌∷◌}
use Rattle.ndarray.specs.Algebra.{CommutativeMonoid}

-- the sum of the values of elements: the neutral value for the empty list, else the first element's value plus the sum of the rest
abbrev pub total_by : {A C : Type 0} → CommutativeMonoid C → (A → C) → List A → C
total_by M value [] = M.unit
total_by M value (x ∷ xs) = M.op (value x) (total_by M value xs)

-- the sum of a list of values
abbrev pub total : {C : Type 0} → CommutativeMonoid C → List C → C
total M xs = total_by M (λ x. x) xs

-- a selection of a list: its values at the places that are kept, in order
abbrev pub select : {A : Type 0} → (ℕ → Bool) → List A → List A
select keep [] = []
select keep (x ∷ xs) = if keep 0 then x ∷ select (λ i. keep (suc i)) xs else select (λ i. keep (suc i)) xs

-- the values of every selection have their sum in range
abbrev pub IsSummableBy : {A C : Type 0} → CommutativeMonoid C → (C → Type 0) → (A → C) → List A → Type 0
IsSummableBy M in_range value xs = (keep : ℕ → Bool) → in_range (total_by M value (select keep xs))

-- the sum of every selection is in range
abbrev pub IsSummable : {C : Type 0} → CommutativeMonoid C → (C → Type 0) → List C → Type 0
IsSummable M in_range xs = IsSummableBy M in_range (λ x. x) xs
