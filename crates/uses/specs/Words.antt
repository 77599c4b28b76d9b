-- The words and the rows of a text.
use Rattle.std.specs.Prelude.{ℕ, ◌-◌, nat_lt, List, length, take}
use Rattle.std.specs.Char.{is_ascii_whitespace}
use Rattle.std.specs.List.{filter, slice_split, suffix_len}
use Rattle.std.specs.Str.Lines.{lines}

-- the words of a text: the pieces between its white space that are not empty
abbrev pub words_of : List ℕ → List (List ℕ)
words_of text = filter (λ piece. nat_lt 0 (length piece)) (slice_split is_ascii_whitespace text)

-- the lines of a text, less the white space at its end
abbrev pub rows_of : List ℕ → List (List ℕ)
rows_of text = lines (take (length text - suffix_len is_ascii_whitespace text) text)
