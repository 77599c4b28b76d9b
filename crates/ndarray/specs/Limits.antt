-- The limit on shapes.
use Rattle.std.specs.Prelude.{ℕ, zero, suc, ◌*◌, ◌<◌, ◌^◌, List, [], ◌∷◌}

-- the product of the lengths that are not 0
abbrev pub nonzero_size : List ℕ → ℕ
nonzero_size [] = 1
nonzero_size (zero ∷ ns) = nonzero_size ns
nonzero_size (suc n ∷ ns) = suc n * nonzero_size ns

-- the lengths that are not 0 multiply to at most `isize::MAX`
abbrev pub IsWithinLimit : List ℕ → Type 0
IsWithinLimit ns = nonzero_size ns < 2 ^ 63
