-- How commands are spelled.
use Rattle.std.specs.Prelude.{◌≡◌, ◌≤◌, ℕ, List, [], ◌∷◌, codes}
use Rattle.uses.specs.Spelling.{IsCountWord, count_of}
use Rattle.uses.specs.declared.command.Command.{Command}
use Rattle.uses.specs.declared.command.Command.TheVariants.{Blur, BoxSums, Edges, Fir, Life, Recurrence, Report, Smooth}

-- the name of a command
abbrev pub name_of : Command → List ℕ
name_of Blur = codes "blur"
name_of (BoxSums rows columns) = codes "box-sums"
name_of Edges = codes "edges"
name_of (Fir shift) = codes "fir"
name_of (Life steps) = codes "life"
name_of (Recurrence n) = codes "recurrence"
name_of Report = codes "report"
name_of Smooth = codes "smooth"

-- the words are one word, which spells the number
pub record SpellNumber (bits : ℕ) (words : List (List ℕ)) (n : ℕ) : Type 0 where
  pub word : List ℕ
  pub one : words ≡ word ∷ []
  pub spelled : IsCountWord bits word
  pub value : n ≡ count_of word

-- the word spells a number of rows or columns: one that is at least 1
pub record IsSideWord (word : List ℕ) : Type 0 where
  pub count : IsCountWord 64 word
  pub some : 1 ≤ count_of word

-- the words are two, which spell the sides of a window
pub record SpellSides (words : List (List ℕ)) (rows columns : ℕ) : Type 0 where
  pub first : List ℕ
  pub second : List ℕ
  pub two : words ≡ first ∷ second ∷ []
  pub spelled : IsSideWord first × IsSideWord second
  pub values : (rows ≡ count_of first) × (columns ≡ count_of second)

-- the words behind a command's name: none, its number, or its two numbers
abbrev pub HasArguments : Command → List (List ℕ) → Type 0
HasArguments Blur words = words ≡ []
HasArguments (BoxSums rows columns) words = SpellSides words rows columns
HasArguments Edges words = words ≡ []
HasArguments (Fir shift) words = SpellNumber 32 words shift
HasArguments (Life steps) words = SpellNumber 64 words steps
HasArguments (Recurrence n) words = SpellNumber 64 words n
HasArguments Report words = words ≡ []
HasArguments Smooth words = words ≡ []

-- the words are the command's name and its numbers, if it has any
pub record Spells (words : List (List ℕ)) (command : Command) : Type 0 where
  pub arguments : List (List ℕ)
  pub named : words ≡ name_of command ∷ arguments
  pub numbered : HasArguments command arguments
