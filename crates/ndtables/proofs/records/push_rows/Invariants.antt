-- The records so far are rows, and their fields were appended.
use Rattle.std.proofs.Common.{◌≡◌, ◌++◌, ℕ, List, Some, false, length, string_bytes}
use Rattle.std.specs.Prelude.{All}
use Rattle.csv.specs.Reading.{Reached, default_config, reader_state, source_of}
use Rattle.ndtables.specs.Records.{AreEqual, IsPlain, fields_in, spaced}
use Rattle.ndtables.specs.Spelling.{IsCellWord}
use Rattle.ndtables.proofs.records.push_rows.Given as goal

abbrev pub invariant-loop-count : goal.invariant-loop-count
invariant-loop-count l =
    IsPlain l.reader
    × (start : List ℕ) × (bytes : List ℕ) × (records : List (List (List ℕ)))
    × (source_of (λ s. Some s.now) l.fn.reader ≡ Some start)
    × (source_of (λ s. Some s.now) l.reader ≡ Some bytes)
    × Reached default_config (reader_state l.fn.reader) start records (reader_state l.reader) bytes
    × (length records ≡ l.count)
    × AreEqual l.columns records
    × All IsCellWord (fields_in false records)
    × (string_bytes l.text ≡ string_bytes l.fn.text ++ spaced (fields_in false records))
