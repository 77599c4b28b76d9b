-- Dimensions with a fixed number of axes.
use Rattle.std.specs.Prelude.{ℕ, ◌≡◌}

-- a number of axes that a type of dimensions may have is this one
abbrev pub IsFixed : (ℕ → Type 0) → ℕ → Type 0
IsFixed may_have n = (k : ℕ) → may_have k → k ≡ n
