use Rattle.std.proofs.Common.{rules, ◌≡◌, ◌∙◌, ◌++◌, ◌∷◌, [], ◌+◌, Bool, Bor, List, ℕ, None, Some, false, true, ap, arith, inl, inr, length, refl, string_bytes, sym}
use Rattle.std.proofs.lemmas.List.Elements.{All-nil}
use Rattle.csv.specs.Machine.{next_record}
use Rattle.csv.specs.Reading.{ReadRecord, Reached, default_config, reader_state, source_of, strip_bom}
use Rattle.csv.specs.Records.{fields_of}
use Rattle.csv.specs.declared.parser.State.TheVariants as st
use Rattle.csv.specs.declared.reader.Reader.{Reader}
use Rattle.csv.proofs.ReadFacts.{rows-end, rows-more}
use Rattle.ndtables.specs.Records.{ForbidsRecords, TakesRecords, fields_in, spaced}
use Rattle.ndtables.specs.Spelling.{IsCellWord}
use Rattle.ndtables.proofs.FaultsPassedOn.{passed-on}
use Rattle.ndtables.proofs.ReadRecords.{fields-split, has-records, records-below, rows-split, spaced-more}
use Rattle.ndtables.proofs.records.fields.Goals as goal

-- the first record, read from the start of a text
first-read : (a b : Reader (Bor (List ℕ))) (f : List (List ℕ)) (text : List ℕ) → a.config ≡ default_config → source_of (λ (s : Bor (List ℕ)). Some s.now) a ≡ Some (strip_bom text) → a.state ≡ st.StartRecord
    → ReadRecord (λ (s : Bor (List ℕ)). Some s.now) a b true f → (z : List ℕ) × (source_of (λ (s : Bor (List ℕ)). Some s.now) b ≡ Some z) × Reached default_config st.StartRecord (strip_bom text) (f ∷ []) (reader_state b) z
unfolding Reached
first-read a b f text config source start r = rows-more (λ (s : Bor (List ℕ)). Some s.now) a b f default_config st.StartRecord (strip_bom text) (strip_bom text) [] config source (sym start, refl) r

-- a text without records
nothing : (header : Bool) (csv text : List ℕ) → text ≡ [] → next_record default_config st.StartRecord [] [] (strip_bom csv) ≡ None → TakesRecords header csv 0 0 text
unfolding Reached
nothing true csv text none end = record {
  records = [];
  read = record { read = (st.StartRecord, strip_bom csv, (refl, refl), end); equal = All-nil (λ fields. length fields ≡ 0); cells = All-nil IsCellWord };
  rows_are = refl;
  columns_are = refl;
  fields_are = none;
}
nothing false csv text none end = record {
  records = [];
  read = record { read = (st.StartRecord, strip_bom csv, (refl, refl), end); equal = All-nil (λ fields. length fields ≡ 0); cells = All-nil IsCellWord };
  rows_are = refl;
  columns_are = refl;
  fields_are = none;
}

pub push_rows-requires-clause-known : goal.push_rows-requires-clause-known
push_rows-requires-clause-known c =
    let fr = c.from_reader-reader.ensures in
    let config = rw (c.flexible.ensures, c.has_headers.ensures) at fr.config ∙ c.new.ensures.config in
    let trim = rw (c.flexible.ensures, c.has_headers.ensures) at fr.trim ∙ c.new.ensures.trim in
    let plain = rw (c.flexible.ensures, c.has_headers.ensures) at fr.has_headers in
    let source : source_of (λ (s : Bor (List ℕ)). Some s.now) c.from_reader-reader.result ≡ Some (strip_bom c.args.csv.now) = fr.source ∙ ap (λ t. Some (strip_bom t)) c.as_bytes.ensures.value in
    let f = fields_of c.read_byte_record.new.row in
    let read = c.in-Ok.ensures.reads trim (inr (inr (plain, fr.headers))) in
    let found : c.in-Ok.found ≡ true = search rules in
    let (z, at_z, first) = first-read c.from_reader-reader.result c.read_byte_record.new.self f c.args.csv.now config source fr.state (rw found at read) in
    (z, at_z)

pub returns-then-not-found-clause-taken : goal.returns-then-not-found-clause-taken
unfolding Reached
returns-then-not-found-clause-taken c =
    let fr = c.from_reader-reader.ensures in
    let config = rw (c.flexible.ensures, c.has_headers.ensures) at fr.config ∙ c.new.ensures.config in
    let trim = rw (c.flexible.ensures, c.has_headers.ensures) at fr.trim ∙ c.new.ensures.trim in
    let plain = rw (c.flexible.ensures, c.has_headers.ensures) at fr.has_headers in
    let source : source_of (λ (s : Bor (List ℕ)). Some s.now) c.from_reader-reader.result ≡ Some (strip_bom c.args.csv.now) = fr.source ∙ ap (λ t. Some (strip_bom t)) c.as_bytes.ensures.value in
    let f = fields_of c.read_byte_record.new.row in
    let read = c.in-Ok.ensures.reads trim (inr (inr (plain, fr.headers))) in
    let none : c.in-Ok.found ≡ false = search rules in
    let end = rows-end (λ (s : Bor (List ℕ)). Some s.now) c.from_reader-reader.result c.read_byte_record.new.self f default_config (strip_bom c.args.csv.now) config source (rw none at read) in
    nothing c.args.below_header c.args.csv.now (string_bytes c.in_ok-text.text) c.in_ok-text.ensures.bytes (rw fr.state at end)

pub returns-in_err-first-clause-err : goal.returns-in_err-first-clause-err
returns-in_err-first-clause-err c =
    let fr = c.from_reader-reader.ensures in
    let config = rw (c.flexible.ensures, c.has_headers.ensures) at fr.config ∙ c.new.ensures.config in
    let trim = rw (c.flexible.ensures, c.has_headers.ensures) at fr.trim ∙ c.new.ensures.trim in
    let plain = rw (c.flexible.ensures, c.has_headers.ensures) at fr.has_headers in
    let source : source_of (λ (s : Bor (List ℕ)). Some s.now) c.from_reader-reader.result ≡ Some (strip_bom c.args.csv.now) = fr.source ∙ ap (λ t. Some (strip_bom t)) c.as_bytes.ensures.value in
    let f = fields_of c.read_byte_record.new.row in
    let read = c.in-Ok.ensures.reads trim (inr (inr (plain, fr.headers))) in
    let found : c.in-Ok.found ≡ true = search rules in
    let (z, at_z, first) = first-read c.from_reader-reader.result c.read_byte_record.new.self f c.args.csv.now config source fr.state (rw found at read) in
    let fault = c.in_err-first.field-0.0 in
    passed-on (ForbidsRecords c.args.below_header c.args.csv.now) c.from_residual-in_err-first.result fault c.from_residual-in_err-first.ensures.1
    (elim c.in_err-first.ensures.err as (λ _. ForbidsRecords c.args.below_header c.args.csv.now fault) [
      | inl memory ↦ inl memory
      | inr not ↦ inr (λ all has. not (records-below c.args.below_header c.args.csv.now f c.read_byte_record.new.self z at_z first all c.len-columns.result c.len-columns.ensures has).2)
    ])

pub returns-in_err-below-clause-err : goal.returns-in_err-below-clause-err
returns-in_err-below-clause-err c =
    let fr = c.from_reader-reader.ensures in
    let config = rw (c.flexible.ensures, c.has_headers.ensures) at fr.config ∙ c.new.ensures.config in
    let trim = rw (c.flexible.ensures, c.has_headers.ensures) at fr.trim ∙ c.new.ensures.trim in
    let plain = rw (c.flexible.ensures, c.has_headers.ensures) at fr.has_headers in
    let source : source_of (λ (s : Bor (List ℕ)). Some s.now) c.from_reader-reader.result ≡ Some (strip_bom c.args.csv.now) = fr.source ∙ ap (λ t. Some (strip_bom t)) c.as_bytes.ensures.value in
    let f = fields_of c.read_byte_record.new.row in
    let read = c.in-Ok.ensures.reads trim (inr (inr (plain, fr.headers))) in
    let found : c.in-Ok.found ≡ true = search rules in
    let (z, at_z, first) = first-read c.from_reader-reader.result c.read_byte_record.new.self f c.args.csv.now config source fr.state (rw found at read) in
    let fault = c.in_err-below.field-0.0 in
    passed-on (ForbidsRecords c.args.below_header c.args.csv.now) c.from_residual-in_err-below.result fault c.from_residual-in_err-below.ensures.1
    (elim c.in_err-below.ensures.err as (λ _. ForbidsRecords c.args.below_header c.args.csv.now fault) [
      | inl memory ↦ inl memory
      | inr not ↦ inr (λ all has. let (rs, rows, cells) = records-below c.args.below_header c.args.csv.now f c.read_byte_record.new.self z at_z first all c.len-columns.result c.len-columns.ensures has in not rs rows)
    ])

pub returns-clause-taken : goal.returns-clause-taken
returns-clause-taken c =
    let fr = c.from_reader-reader.ensures in
    let config = rw (c.flexible.ensures, c.has_headers.ensures) at fr.config ∙ c.new.ensures.config in
    let trim = rw (c.flexible.ensures, c.has_headers.ensures) at fr.trim ∙ c.new.ensures.trim in
    let plain = rw (c.flexible.ensures, c.has_headers.ensures) at fr.has_headers in
    let source : source_of (λ (s : Bor (List ℕ)). Some s.now) c.from_reader-reader.result ≡ Some (strip_bom c.args.csv.now) = fr.source ∙ ap (λ t. Some (strip_bom t)) c.as_bytes.ensures.value in
    let f = fields_of c.read_byte_record.new.row in
    let read = c.in-Ok.ensures.reads trim (inr (inr (plain, fr.headers))) in
    let found : c.in-Ok.found ≡ true = search rules in
    let (z, at_z, first) = first-read c.from_reader-reader.result c.read_byte_record.new.self f c.args.csv.now config source fr.state (rw found at read) in
    let header = c.args.below_header in
    let (rs, rows, many, text) = c.in_ok-below.ensures.rows in
    let one = fields_in header (f ∷ []) in
    let added : c.in-Some.rows ≡ c.in_ok-below.below + c.in_ok-first.first = search rules in
    record {
      records = f ∷ rs;
      read = has-records header c.args.csv.now f c.read_byte_record.new.self z at_z first rs c.len-columns.result c.len-columns.ensures rows c.in_ok-first.ensures.cells;
      rows_are = (let e = rows-split header f rs in let k = c.in_ok-first.ensures.rows in omega (arith, e, k, many, added));
      columns_are = c.len-columns.ensures;
      fields_are = text
          ∙ (ap (λ t. t ++ spaced (fields_in false rs)) (c.in_ok-first.ensures.text ∙ ap (λ t. t ++ spaced one) c.in_ok-text.ensures.bytes)
          ∙ (sym (spaced-more one (fields_in false rs)) ∙ ap spaced (sym (fields-split header f rs))));
    }
