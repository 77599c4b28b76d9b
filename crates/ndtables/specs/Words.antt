-- The words of a text.
use Rattle.std.specs.Prelude.{ℕ, ◌≤◌, nat_lt, List, All, length}
use Rattle.std.specs.Char.{is_ascii_whitespace}
use Rattle.std.specs.List.{filter, slice_split}

-- the words of a text: the pieces between its white space that are not empty
abbrev pub words_of : List ℕ → List (List ℕ)
words_of text = filter (λ piece. nat_lt 0 (length piece)) (slice_split is_ascii_whitespace text)

-- none of the words is longer than 4096 bytes
abbrev pub AreShort : List (List ℕ) → Type 0
AreShort words = All (λ word. length word ≤ 4096) words
