-- How numbers are spelled.
use Rattle.std.specs.Prelude.{◌≡◌, ℕ, ◌<◌, ◌^◌, ℤ, List, map, All, FitsSigned}
use Rattle.std.specs.Int.{w64}
use Rattle.std.specs.Str.Parse.{IsNumeral, digits_value, signed_digits_value, without_leading_plus, without_leading_sign}

-- the word spells a number: digits after an optional sign, whose number is an `i64`
abbrev pub IsNumberWord : List ℕ → Type 0
IsNumberWord word = IsNumeral 10 (without_leading_sign word) × FitsSigned w64 (signed_digits_value 10 word)

-- the words spell these numbers
pub record SpellNumbers (words : List (List ℕ)) (numbers : List ℤ) : Type 0 where
  pub spelled : All IsNumberWord words
  pub values : numbers ≡ map (signed_digits_value 10) words

-- the number of the digits after an optional plus
abbrev pub count_of : List ℕ → ℕ
count_of word = digits_value 10 (without_leading_plus word)

-- the word spells a number without a sign of so many bits: digits after an optional plus
abbrev pub IsCountWord : ℕ → List ℕ → Type 0
IsCountWord bits word = IsNumeral 10 (without_leading_plus word) × (count_of word < 2 ^ bits)
