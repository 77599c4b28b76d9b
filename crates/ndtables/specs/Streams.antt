-- What is written to the two streams.
use Rattle.std.specs.Prelude.{◌≡◌, ◌⊎◌, ℕ, List, [], ◌∷◌, ◌++◌, Option, None, Some, String, codes, string_bytes}
use Rattle.std.specs.Global.{Global}
use Rattle.std.specs.Io.KnownBytes.{Appends}
use Rattle.ndtables.specs.Lines.{AnswersLine, AsksInput, Begins, ForbidsLine}
use Rattle.ndtables.specs.Places.{IsPlaceLine}
use Rattle.ndtables.specs.declared.fault.Fault.{Fault}
use Rattle.ndtables.specs.declared.fault.Fault.TheVariants.{Usage, Shape, Number, Range, Input, Memory}
use Rattle.ndtables.specs.declared.printing.Form.{Form}
use Rattle.ndtables.specs.declared.source.Source.{Source}

-- the word of a fault
abbrev pub word_of : Fault → List ℕ
word_of Usage = codes "usage"
word_of Shape = codes "shape"
word_of Number = codes "number"
word_of Range = codes "range"
word_of Input = codes "input"
word_of Memory = codes "memory"

-- the line that a fault prints: `ndtables: `, its word and a newline
abbrev pub line_of : Fault → List ℕ
line_of fault = codes "ndtables: " ++ word_of fault ++ 10 ∷ []

-- what a stream holds, where that is known, grows by a front of the text, and the rest is left
pub record AppendsUpTo (old new : Option (List ℕ)) (text rest : List ℕ) : Type 0 where
  pub front : List ℕ
  pub split : text ≡ front ++ rest
  pub appended : Appends old new front

-- what a stream holds, where that is known, grows by the text, or by the front of it that the stream took before it failed
abbrev pub AppendsFront : Option (List ℕ) → Option (List ℕ) → List ℕ → Type 0
AppendsFront old new text = (rest : List ℕ) × AppendsUpTo old new text rest

-- the command line has an answer, which the stream took whole
pub record PrintsAnswer (line : List (List ℕ)) (remaining old new : Option (List ℕ)) : Type 0 where
  pub text : List ℕ
  pub answer : AnswersLine line remaining text
  pub printed : Appends old new text

-- the line that says where a fault is, and no text where there is none
abbrev pub place_text : Option (String Global) → List ℕ
place_text None = []
place_text (Some text) = string_bytes text

-- the command line takes an input: its words behind the options ask for one
pub record TakesInput (line : List (List ℕ)) : Type 0 where
  pub source : Source
  pub form : Form
  pub given : List (List ℕ)
  pub begins : Begins line source form given
  pub asks : AsksInput source given

-- there is no text, or the command line takes an input, and the text is a line that says where a fault is in it
abbrev pub IsPlaceOf : List (List ℕ) → List ℕ → Type 0
IsPlaceOf line text = (text ≡ []) ⊎ (TakesInput line × IsPlaceLine text)

-- a fault is why the command line has no answer, and the stream took the fault's line, and then where it is in the input, or a front of these
pub record PrintsFault (line : List (List ℕ)) (remaining old new : Option (List ℕ)) : Type 0 where
  pub fault : Fault
  pub place : List ℕ
  pub forbids : ForbidsLine line remaining fault
  pub is_place : IsPlaceOf line place
  pub told : AppendsFront old new (line_of fault ++ place)

-- the command line has an answer, and the stream took a front of it
pub record PrintsFront (line : List (List ℕ)) (remaining old new : Option (List ℕ)) : Type 0 where
  pub text : List ℕ
  pub answer : AnswersLine line remaining text
  pub front : AppendsFront old new text

-- the stream took the line of the fault, or of `memory`, or a front of that
abbrev pub PrintsEither : Fault → Option (List ℕ) → Option (List ℕ) → Type 0
PrintsEither fault old new = AppendsFront old new (line_of fault) ⊎ AppendsFront old new (line_of Memory)
