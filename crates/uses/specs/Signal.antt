-- The taps and the signal of a filter.
use Rattle.std.specs.Prelude.{◌<◌, ◌==◌, ℕ, ℤ, List, length}
use Rattle.std.specs.List.{after_first, before_first, position_or_len}
use Rattle.uses.specs.Spelling.{SpellNumbers}
use Rattle.uses.specs.Words.{words_of}

-- the text has a newline
abbrev pub HasTwoLines : List ℕ → Type 0
HasTwoLines text = position_or_len (λ byte. byte == 10) text < length text

-- the words of the first line of the text spell the taps, and those of all other lines the signal
pub record ReadsSignal (text : List ℕ) (read : List ℤ × List ℤ) : Type 0 where
  pub lines : HasTwoLines text
  pub taps : SpellNumbers (words_of (before_first (λ byte. byte == 10) text)) read.0
  pub signal : SpellNumbers (words_of (after_first (λ byte. byte == 10) text)) read.1
