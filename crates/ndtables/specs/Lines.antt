-- What a command line asks for, and what is printed for it.
use Rattle.std.specs.Prelude.{◌≡◌, ◌⊎◌, ⊤, ℕ, Bool, false, true, List, [], ◌∷◌, ◌++◌, Option, IfSome, codes}
use Rattle.ndtables.specs.Answering.{Answers, ForbidsAnswer, NamesNoCommand}
use Rattle.ndtables.specs.Pages.{AsksPage, page_text}
use Rattle.ndtables.specs.Records.{ForbidsRecords, SpellsRecords}
use Rattle.ndtables.specs.Words.{AreShort, words_of}
use Rattle.ndtables.specs.declared.fault.Fault.{Fault}
use Rattle.ndtables.specs.declared.fault.Fault.TheVariants.{Input, Memory, Usage}
use Rattle.ndtables.specs.declared.help.Page.{Page}
use Rattle.ndtables.specs.declared.printing.Form.{Form}
use Rattle.ndtables.specs.declared.printing.Form.TheVariants.{Plain, Table, Csv}
use Rattle.ndtables.specs.declared.source.Source.{Source}
use Rattle.ndtables.specs.declared.source.Source.TheVariants.{Words, Records, RecordsBelowHeader}

-- the line asks for none of the pages
abbrev pub AsksNoPage : List (List ℕ) → Type 0
AsksNoPage line = (page : Page) → AsksPage line page → ⊥

-- the words begin by saying where the last table comes from, and these follow
abbrev pub AsksSource : List (List ℕ) → Source → List (List ℕ) → Type 0
AsksSource line Words rest = (rest ≡ line) × ((more : List (List ℕ)) → line ≡ codes "--csv" ∷ more → ⊥)
AsksSource line Records rest = (line ≡ codes "--csv" ∷ rest) × ((more : List (List ℕ)) → rest ≡ codes "--header" ∷ more → ⊥)
AsksSource line RecordsBelowHeader rest = line ≡ codes "--csv" ∷ codes "--header" ∷ rest

-- the words begin by saying how the result is to be printed, and these follow
abbrev pub AsksForm : List (List ℕ) → Form → List (List ℕ) → Type 0
AsksForm line Plain rest = (rest ≡ line) × ((more : List (List ℕ)) → (line ≡ codes "--table" ∷ more) ⊎ (line ≡ codes "--to-csv" ∷ more) → ⊥)
AsksForm line Table rest = line ≡ codes "--table" ∷ rest
AsksForm line Csv rest = line ≡ codes "--to-csv" ∷ rest

-- the line says first where the last table comes from, then how the result is to be printed, and then has these words
pub record BeginsWithSource (line : List (List ℕ)) (source : Source) (form : Form) (rest : List (List ℕ)) : Type 0 where
  pub is_said : source ≡ Words → ⊥
  pub behind : List (List ℕ)
  pub asks_source : AsksSource line source behind
  pub asks_form : AsksForm behind form rest

-- the line says first how the result is to be printed, then where the last table comes from, and then has these words
pub record BeginsWithForm (line : List (List ℕ)) (source : Source) (form : Form) (rest : List (List ℕ)) : Type 0 where
  pub no_source_first : AsksSource line Words line
  pub behind : List (List ℕ)
  pub asks_form : AsksForm line form behind
  pub asks_source : AsksSource behind source rest

-- the line begins with its options, in either order, and then has these words
abbrev pub Begins : List (List ℕ) → Source → Form → List (List ℕ) → Type 0
Begins line source form rest = BeginsWithSource line source form rest ⊎ BeginsWithForm line source form rest

-- the first of the words is neither a command's name nor `-`, which the words of an input may stand for
abbrev pub BeginsWrongly : List (List ℕ) → Type 0
BeginsWrongly [] = ⊥
BeginsWrongly (word ∷ rest) = NamesNoCommand word × (word ≡ codes "-" → ⊥)

-- the text is what the reader had left, where that is known
abbrev pub IsInput : Option (List ℕ) → List ℕ → Type 0
IsInput remaining input = IfSome remaining (λ bytes. input ≡ bytes)

-- a `-` is the last word, after these
abbrev pub EndsInDash : List (List ℕ) → List (List ℕ) → Type 0
EndsInDash words front = words ≡ front ++ codes "-" ∷ []

-- no `-` is the last word
abbrev pub EndsInNoDash : List (List ℕ) → Type 0
EndsInNoDash words = (front : List (List ℕ)) → EndsInDash words front → ⊥

-- the words are those in front, and then the words of the input, none of which is too long
pub record PutsWords (front : List (List ℕ)) (remaining : Option (List ℕ)) (words : List (List ℕ)) : Type 0 where
  pub input : List ℕ
  pub read : IsInput remaining input
  pub short : AreShort (words_of input)
  pub put : words ≡ front ++ words_of input

-- the words are those in front, and then those of the table that the records of the input spell
pub record PutsRecords (header : Bool) (front : List (List ℕ)) (remaining : Option (List ℕ)) (words : List (List ℕ)) : Type 0 where
  pub input : List ℕ
  pub table : List (List ℕ)
  pub read : IsInput remaining input
  pub spelled : SpellsRecords header input table
  pub put : words ≡ front ++ table

-- the words that given ones stand for: with those of the input in place of a `-` at the end, or with those of the table of its records behind
abbrev pub StandFor : Source → List (List ℕ) → Option (List ℕ) → List (List ℕ) → Type 0
StandFor Words given remaining words = (EndsInNoDash given × (words ≡ given)) ⊎ ((front : List (List ℕ)) × EndsInDash given front × PutsWords front remaining words)
StandFor Records given remaining words = PutsRecords false given remaining words
StandFor RecordsBelowHeader given remaining words = PutsRecords true given remaining words

-- the words ask for an input: a `-` is the last of them, or the last table is to come from records
abbrev pub AsksInput : Source → List (List ℕ) → Type 0
AsksInput Words given = (front : List (List ℕ)) × EndsInDash given front
AsksInput Records given = ⊤
AsksInput RecordsBelowHeader given = ⊤

-- the fault is that of reading an input: it was not read, is no text or has a word that is too long, or allocation failure
abbrev pub IsFaultOfReader : Fault → Type 0
IsFaultOfReader fault = (fault ≡ Input) ⊎ (fault ≡ Memory)

-- the fault is that of reading an input of records, or the input has no such records
abbrev pub ForbidsInput : Bool → Option (List ℕ) → Fault → Type 0
ForbidsInput header remaining fault = IsFaultOfReader fault ⊎ ((input : List ℕ) × IsInput remaining input × ForbidsRecords header input fault)

-- the fault is why given words stand for none, which then ask for an input
abbrev pub StandForNone : Source → List (List ℕ) → Option (List ℕ) → Fault → Type 0
StandForNone Words given remaining fault = ((front : List (List ℕ)) × EndsInDash given front) × IsFaultOfReader fault
StandForNone Records given remaining fault = ForbidsInput false remaining fault
StandForNone RecordsBelowHeader given remaining fault = ForbidsInput true remaining fault

-- the line asks for no page, and the text is the answer to the words that it stands for, in the form that it asks for
pub record AnswersWords (line : List (List ℕ)) (remaining : Option (List ℕ)) (text : List ℕ) : Type 0 where
  pub no_page : AsksNoPage line
  pub source : Source
  pub form : Form
  pub given : List (List ℕ)
  pub words : List (List ℕ)
  pub begins : Begins line source form given
  pub stands : StandFor source given remaining words
  pub answer : Answers form words text

-- the text is a page that the line asks for, or its answer
abbrev pub AnswersLine : List (List ℕ) → Option (List ℕ) → List ℕ → Type 0
AnswersLine line remaining text = ((page : Page) × AsksPage line page × (text ≡ page_text page)) ⊎ AnswersWords line remaining text

-- the fault is why given words have no answer in the form: that of their input, or that of the words that they stand for
abbrev pub ForbidsGiven : Source → Form → List (List ℕ) → Option (List ℕ) → Fault → Type 0
ForbidsGiven source form given remaining fault = StandForNone source given remaining fault ⊎ ((words : List (List ℕ)) × StandFor source given remaining words × ForbidsAnswer form words fault)

-- the line asks for no page; where the words behind its options begin with neither a command's name nor `-` the fault is `usage`, whatever the input, else that of these words
pub record ForbidsWords (line : List (List ℕ)) (remaining : Option (List ℕ)) (fault : Fault) : Type 0 where
  pub no_page : AsksNoPage line
  pub source : Source
  pub form : Form
  pub given : List (List ℕ)
  pub begins : Begins line source form given
  pub why : (BeginsWrongly given × (fault ≡ Usage)) ⊎ ((BeginsWrongly given → ⊥) × ForbidsGiven source form given remaining fault)

-- the fault is why the line has no answer: allocation failure for a page, or that of its words
abbrev pub ForbidsLine : List (List ℕ) → Option (List ℕ) → Fault → Type 0
ForbidsLine line remaining fault = (((page : Page) × AsksPage line page) × (fault ≡ Memory)) ⊎ ForbidsWords line remaining fault

-- the line asks for no page, begins with no option and does not end with `-`: it stands for its own words
abbrev pub StandsAlone : List (List ℕ) → Type 0
StandsAlone line = AsksNoPage line × AsksSource line Words line × AsksForm line Plain line × EndsInNoDash line
