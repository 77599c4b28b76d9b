-- Arrays that count, or add up, the items of a list by the cells which these name.
use Rattle.std.specs.Prelude.{ℕ, if◌then◌else◌, List, sum_by}
use Rattle.ndarray.specs.Grid.{Grid, array_by, same_index}

-- the array of lengths ns that has at each index list the sum of the weights of the items that name it; of weights 1 that is their number
abbrev pub named_sums : {X : Type 0} → List ℕ → (X → List ℕ) → (X → ℕ) → List X → Grid ℕ
named_sums ns name weight xs = array_by ns (λ is. sum_by (λ x. if same_index (name x) is then weight x else 0) xs)
