-- What is read from a stream, and what is written to one.
use Rattle.std.specs.Prelude.{◌≡◌, ◌⊎◌, ◌==◌, ℕ, false, List, [], ◌∷◌, ◌++◌, Option, IfSome, codes}
use Rattle.std.specs.Io.KnownBytes.{Appends}
use Rattle.std.specs.List.{list_any}
use Rattle.uses.specs.Answering.{Answers, Prints}
use Rattle.uses.specs.Commands.{Spells}
use Rattle.uses.specs.Faults.{IsFaultOf}
use Rattle.uses.specs.declared.command.Command.{Command}
use Rattle.uses.specs.declared.fault.Fault.{Fault}
use Rattle.uses.specs.declared.fault.Fault.TheVariants.{Usage, Input, Number, Shape, Range, Memory}
use Rattle.uses.specs.declared.fault.Place.TheVariants.{Whole}

-- the text is what the reader had left, where that is known
abbrev pub IsInput : Option (List ℕ) → List ℕ → Type 0
IsInput remaining input = IfSome remaining (λ bytes. input ≡ bytes)

-- what a stream holds, where that is known, grows by a front of the text, and the rest is left
pub record AppendsUpTo (old new : Option (List ℕ)) (text rest : List ℕ) : Type 0 where
  pub front : List ℕ
  pub split : text ≡ front ++ rest
  pub appended : Appends old new front

-- what a stream holds, where that is known, grows by the text, or by the front of it that the stream took before it failed
abbrev pub AppendsFront : Option (List ℕ) → Option (List ℕ) → List ℕ → Type 0
AppendsFront old new text = (rest : List ℕ) × AppendsUpTo old new text rest

-- an input was read, and the words have an answer for it, which the stream took whole
pub record PrintsAnswer (words : List (List ℕ)) (remaining old new : Option (List ℕ)) : Type 0 where
  pub input : List ℕ
  pub text : List ℕ
  pub read : IsInput remaining input
  pub answer : Answers words input text
  pub printed : Appends old new text

-- an input was read, and the words have an answer for it, of which the stream took a front
pub record PrintsFront (words : List (List ℕ)) (remaining old new : Option (List ℕ)) : Type 0 where
  pub input : List ℕ
  pub text : List ℕ
  pub read : IsInput remaining input
  pub answer : Answers words input text
  pub front : AppendsFront old new text

-- the word of a fault
abbrev pub word_of : Fault → List ℕ
word_of Usage = codes "usage"
word_of (Input place) = codes "input"
word_of (Number place) = codes "number"
word_of (Shape place) = codes "shape"
word_of Range = codes "range"
word_of Memory = codes "memory"

-- none of the bytes is a newline
abbrev pub IsInLine : List ℕ → Type 0
IsInLine bs = list_any (λ b. b == 10) bs ≡ false

-- the second text is the first and more of the same line
pub record Extends (old new : List ℕ) : Type 0 where
  pub more : List ℕ
  pub appended : new ≡ old ++ more
  pub in_line : IsInLine more

-- the line that a fault prints: `uses: `, its word, where it is, and a newline
pub record IsLineOf (fault : Fault) (line : List ℕ) : Type 0 where
  pub place : List ℕ
  pub told : line ≡ codes "uses: " ++ (word_of fault ++ (place ++ 10 ∷ []))
  pub in_line : IsInLine place

-- the stream took the line of a fault, or a front of it
pub record PrintsLine (fault : Fault) (old new : Option (List ℕ)) : Type 0 where
  pub line : List ℕ
  pub told : IsLineOf fault line
  pub front : AppendsFront old new line

-- the fault is that of a reader, or allocation failure, for which no input was read
abbrev pub IsFaultOfReader : Fault → Type 0
IsFaultOfReader fault = (fault ≡ Memory) ⊎ (fault ≡ Input Whole)

-- the fault is why words have no answer: they spell no command, or the input was not read, or the command prints nothing for it
abbrev pub ForbidsAnswer : List (List ℕ) → Option (List ℕ) → Fault → Type 0
ForbidsAnswer words remaining fault = IsFaultOf (Spells words) fault
    ⊎ ((command : Command) × Spells words command × (IsFaultOfReader fault ⊎ ((input : List ℕ) × IsInput remaining input × IsFaultOf (Prints command input) fault)))

-- a fault is why the words have no answer, and the stream took its line, or a front of that
pub record PrintsFault (words : List (List ℕ)) (remaining old new : Option (List ℕ)) : Type 0 where
  pub fault : Fault
  pub forbids : ForbidsAnswer words remaining fault
  pub printed : PrintsLine fault old new
