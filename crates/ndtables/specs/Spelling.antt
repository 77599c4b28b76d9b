-- How numbers and shapes are spelled.
use Rattle.std.specs.Prelude.{◌≡◌, ℕ, ◌<◌, ◌≤◌, ◌^◌, List, [], ◌∷◌, ◌++◌, length, map, All, FitsSigned}
use Rattle.std.specs.Int.{w64}
use Rattle.std.specs.List.{join_with_byte}
use Rattle.std.specs.Str.Parse.{IsNumeral, digits_value, signed_digits_value, without_leading_sign}
use Rattle.ndarray.specs.Limits.{IsWithinLimit}
use Rattle.ndarray.specs.declared.base.shape.Order.{Order}
use Rattle.ndarray.specs.declared.base.shape.Order.TheVariants.{RowMajor, ColumnMajor}

-- one or more decimal digits
abbrev pub IsDigits : List ℕ → Type 0
IsDigits bs = IsNumeral 10 bs

-- one or more decimal digits after an optional sign
abbrev pub IsSignedDigits : List ℕ → Type 0
IsSignedDigits bs = IsNumeral 10 (without_leading_sign bs)

-- the word spells an axis or an order: digits whose number is a `usize`
abbrev pub IsCountWord : List ℕ → Type 0
IsCountWord word = IsDigits word × (digits_value 10 word < 2 ^ 64)

-- the word spells a cell: digits after an optional sign, whose number is an `i64`
abbrev pub IsCellWord : List ℕ → Type 0
IsCellWord word = IsSignedDigits word × FitsSigned w64 (signed_digits_value 10 word)

-- `.` spells no lengths; digits joined by `x` spell one length each
pub data SpellsLengths : List ℕ → List ℕ → Type 0 where
  none : SpellsLengths (46 ∷ []) []
  some : (pieces : List (List ℕ)) → 0 < length pieces → All IsDigits pieces → SpellsLengths (join_with_byte 120 pieces) (map (digits_value 10) pieces)

-- what comes after the lengths: `f` where the table is stored column-major
abbrev pub ending : Order → List ℕ
ending RowMajor = []
ending ColumnMajor = 102 ∷ []

-- the word spells a shape that a table may have: its lengths, at most 32 and within the limit, and the order of storage
pub record SpellsShape (word ns : List ℕ) (order : Order) : Type 0 where
  pub spelled : List ℕ
  pub lengths : SpellsLengths spelled ns
  pub ends : word ≡ spelled ++ ending order
  pub axes : length ns ≤ 32
  pub limit : IsWithinLimit ns

-- the word spells no lengths that a table may have
abbrev pub SpellsNoLengths : List ℕ → Type 0
SpellsNoLengths word = (ns : List ℕ) → SpellsLengths word ns → length ns ≤ 32 → IsWithinLimit ns → ⊥

-- the word spells no shape that a table may have
abbrev pub SpellsNoShape : List ℕ → Type 0
SpellsNoShape word = (ns : List ℕ) (order : Order) → SpellsShape word ns order → ⊥
