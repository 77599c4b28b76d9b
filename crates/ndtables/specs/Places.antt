-- The line that says where a fault is in an input.
use Rattle.std.specs.Prelude.{◌≡◌, ◌==◌, ◌||◌, ℕ, Bool, false, nat_lt, List, [], ◌∷◌, ◌++◌, codes, decimal}
use Rattle.std.specs.List.{list_any}

-- the byte is that of a control character, as an escape or a newline
abbrev pub is_control_byte : ℕ → Bool
is_control_byte b = nat_lt b 32 || (b == 127)

-- none of the bytes is that of a control character
abbrev pub AreShown : List ℕ → Type 0
AreShown bs = list_any is_control_byte bs ≡ false

-- the second text is the first and more bytes, of which none is that of a control character
pub record Extends (old new : List ℕ) : Type 0 where
  pub more : List ℕ
  pub appended : new ≡ old ++ more
  pub shown : AreShown more

-- the text is a line that says where a fault is: the number of a line of the input, and more without control characters
pub record IsPlaceLine (text : List ℕ) : Type 0 where
  pub line : ℕ
  pub place : List ℕ
  pub told : text ≡ codes "ndtables: line " ++ (decimal line ++ (place ++ 10 ∷ []))
  pub shown : AreShown place
