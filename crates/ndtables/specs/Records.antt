-- Tables that are spelled by records of comma-separated fields.
use Rattle.std.specs.Prelude.{◌≡◌, ◌⊎◌, ◌++◌, ℕ, Bool, false, if◌then◌else◌, List, [], ◌∷◌, Some, All, drop, flat_map, length}
use Rattle.std.specs.Borrow.{Bor}
use Rattle.csv.specs.Reading.{AreRecords, Ready, default_config, reader_config, reader_state, reader_trim, source_of, strip_bom}
use Rattle.csv.specs.declared.parser.State.TheVariants as st
use Rattle.csv.specs.declared.reader.Reader.{Reader}
use Rattle.csv.specs.declared.reader.Trim.TheVariants as trim
use Rattle.ndtables.specs.Printing.{shape_word}
use Rattle.ndtables.specs.Spelling.{IsCellWord}
use Rattle.ndtables.specs.declared.fault.Fault.{Fault}
use Rattle.ndtables.specs.declared.fault.Fault.TheVariants.{Memory}

-- how many fields the first of the records has, and none where there is no record
abbrev pub columns_of : List (List (List ℕ)) → ℕ
columns_of [] = 0
columns_of (record_fields ∷ others) = length record_fields

-- the records that are rows: all of them, or those below a header
abbrev pub rows_of : Bool → List (List (List ℕ)) → List (List (List ℕ))
rows_of header records = if header then drop 1 records else records

-- the fields of the rows in turn
abbrev pub fields_in : Bool → List (List (List ℕ)) → List (List ℕ)
fields_in header records = flat_map (λ row. row) (rows_of header records)

-- each record has so many fields
abbrev pub AreEqual : ℕ → List (List (List ℕ)) → Type 0
AreEqual columns records = All (λ fields. length fields ≡ columns) records

-- the text has these records, each with as many fields as the first, and the fields of the rows spell cells
pub record HasRecords (header : Bool) (text : List ℕ) (records : List (List (List ℕ))) : Type 0 where
  pub read : AreRecords default_config st.StartRecord (strip_bom text) records
  pub equal : AreEqual (columns_of records) records
  pub cells : All IsCellWord (fields_in header records)

-- the words are the table of the records of a text: a shape word of as many rows and columns, and the fields of the rows in turn
pub record SpellsRecords (header : Bool) (text : List ℕ) (words : List (List ℕ)) : Type 0 where
  pub records : List (List (List ℕ))
  pub read : HasRecords header text records
  pub put : words ≡ shape_word (length (rows_of header records) ∷ columns_of records ∷ []) ∷ fields_in header records

-- the fault is allocation failure, or the text has no such records
abbrev pub ForbidsRecords : Bool → List ℕ → Fault → Type 0
ForbidsRecords header text fault = (fault ≡ Memory) ⊎ ((records : List (List (List ℕ))) → HasRecords header text records → ⊥)

-- fields as a text, each before a blank
abbrev pub spaced : List (List ℕ) → List ℕ
spaced fields = flat_map (λ field. field ++ 32 ∷ []) fields

-- the text has so many rows and columns, and these are its fields, each before a blank
pub record TakesRecords (header : Bool) (text : List ℕ) (rows columns : ℕ) (fields : List ℕ) : Type 0 where
  pub records : List (List (List ℕ))
  pub read : HasRecords header text records
  pub rows_are : rows ≡ length (rows_of header records)
  pub columns_are : columns ≡ columns_of records
  pub fields_are : fields ≡ spaced (fields_in header records)

-- a reader of records with nothing special, whose next read is of a record
abbrev pub IsPlain : Reader (Bor (List ℕ)) → Type 0
IsPlain reader = (reader_trim reader ≡ trim.None) × Ready reader × (reader_config reader ≡ default_config)

-- these are the records that a reader has left
abbrev pub HasLeft : Reader (Bor (List ℕ)) → List (List (List ℕ)) → Type 0
HasLeft reader records = (bytes : List ℕ) × (source_of (λ s. Some s.now) reader ≡ Some bytes) × AreRecords default_config (reader_state reader) bytes records

-- the reader has these records left, rows of so many columns whose fields spell cells
pub record HasRows (reader : Reader (Bor (List ℕ))) (columns : ℕ) (records : List (List (List ℕ))) : Type 0 where
  pub left : HasLeft reader records
  pub equal : AreEqual columns records
  pub cells : All IsCellWord (fields_in false records)
