use Rattle.std.proofs.Common.{rules, ◌≡◌, ◌⊎◌, ◌∙◌, ◌++◌, ◌∷◌, [], Bor, List, ℕ, All, Some, false, true, ap, append-nil, append_assoc, arith, inl, inr, length, length-append, refl, string_bytes, subst, sym}
use Rattle.std.proofs.lemmas.List.Elements.{All-push}
use Rattle.csv.specs.Reading.{ReadRecord, Reached, default_config, reader_state}
use Rattle.csv.specs.Records.{fields_of}
use Rattle.csv.proofs.ReadFacts.{rows-end, rows-more}
use Rattle.ndtables.specs.Records.{HasRows, fields_in, spaced}
use Rattle.ndtables.specs.Spelling.{IsCellWord}
use Rattle.ndtables.specs.declared.fault.Fault.TheVariants.{Memory}
use Rattle.ndtables.proofs.FaultsPassedOn.{passed-on}
use Rattle.ndtables.proofs.ReadRecords.{all-both, fields-more, row-there, spaced-more}
use Rattle.ndtables.proofs.records.push_rows.Goals as goal

pub loop-count-init : goal.loop-count-init
unfolding Reached
loop-count-init c = (
  c.requires.plain,
  c.requires.known.0,
  c.requires.known.0,
  [],
  c.requires.known.1,
  c.requires.known.1,
  (refl, refl),
  refl,
  (λ k d lt. absurd (omega (arith, lt))),
  (λ k d lt. absurd (omega (arith, lt))),
  sym (append-nil _),
)

pub loop-count-preserved : goal.loop-count-preserved
loop-count-preserved c =
    let (plain, start, bytes, records, at_start, at_bytes, reached, count, equal, cells, text) = c.loop-count.invariant in
    let f = fields_of c.read_byte_record.new.row in
    let found : c.in-Ok.found ≡ true = search rules in
    let read : ReadRecord (λ (s : Bor (List ℕ)). Some s.now) c.loop-count.reader c.read_byte_record.new.self true f = rw found at (c.in-Ok.ensures.reads plain.0 plain.1) in
    let (z, at_z, next) = rows-more (λ (s : Bor (List ℕ)). Some s.now) c.loop-count.reader c.read_byte_record.new.self f default_config (reader_state c.args.reader) start bytes records plain.2 at_bytes reached read in
    let as_long : length f ≡ c.args.columns = (let h = c.if-len-columns.false in let e = c.len.ensures in omega (arith, h, e)) in (
      (read.3 ∙ plain.0, inl (c.in-Ok.ensures.ready plain.0), read.2 ∙ plain.2),
      start,
      z,
      records ++ f ∷ [],
      at_start,
      at_z,
      next,
      (let e = length-append records (f ∷ []) in omega (arith, e, count)),
      All-push (λ fields. length fields ≡ c.args.columns) records f equal as_long,
      subst (All IsCellWord) (sym (fields-more records f)) (all-both IsCellWord (fields_in false records) f cells c.in_ok-push_fields.ensures.cells),
      c.in_ok-push_fields.ensures.text
          ∙ (ap (λ t. t ++ spaced f) text
          ∙ (append_assoc (string_bytes c.args.text.now) (spaced (fields_in false records)) (spaced f)
          ∙ ap (λ t. string_bytes c.args.text.now ++ t) (sym (spaced-more (fields_in false records) f) ∙ ap spaced (sym (fields-more records f))))),
    )

pub returns-then-not-found-clause-rows : goal.returns-then-not-found-clause-rows
returns-then-not-found-clause-rows c =
    let (plain, start, bytes, records, at_start, at_bytes, reached, count, equal, cells, text) = c.loop-count.invariant in
    let none : c.in-Ok.found ≡ false = search rules in
    let read = rw none at (c.in-Ok.ensures.reads plain.0 plain.1) in
    let end = rows-end (λ (s : Bor (List ℕ)). Some s.now) c.loop-count.reader c.read_byte_record.new.self (fields_of c.read_byte_record.new.row) default_config bytes plain.2 at_bytes read in
    (records, record { left = (start, at_start, (reader_state c.loop-count.reader, bytes, reached, end)); equal = equal; cells = cells }, count, text)

pub returns-then-len-columns-clause-err : goal.returns-then-len-columns-clause-err
returns-then-len-columns-clause-err c =
    let (plain, start, bytes, records, at_start, at_bytes, reached, count, equal, cells, text) = c.loop-count.invariant in
    let f = fields_of c.read_byte_record.new.row in
    let found : c.in-Ok.found ≡ true = search rules in
    let read : ReadRecord (λ (s : Bor (List ℕ)). Some s.now) c.loop-count.reader c.read_byte_record.new.self true f = rw found at (c.in-Ok.ensures.reads plain.0 plain.1) in
    let (z, at_z, next) = rows-more (λ (s : Bor (List ℕ)). Some s.now) c.loop-count.reader c.read_byte_record.new.self f default_config (reader_state c.args.reader) start bytes records plain.2 at_bytes reached read in
    inr (λ all rows. let there = row-there c.args.reader c.args.columns start z _ records all f at_start next rows in c.if-len-columns.true (c.len.ensures ∙ there.0))

pub returns-in_err-push_fields-clause-err : goal.returns-in_err-push_fields-clause-err
returns-in_err-push_fields-clause-err c =
    let (plain, start, bytes, records, at_start, at_bytes, reached, count, equal, cells, text) = c.loop-count.invariant in
    let f = fields_of c.read_byte_record.new.row in
    let found : c.in-Ok.found ≡ true = search rules in
    let read : ReadRecord (λ (s : Bor (List ℕ)). Some s.now) c.loop-count.reader c.read_byte_record.new.self true f = rw found at (c.in-Ok.ensures.reads plain.0 plain.1) in
    let (z, at_z, next) = rows-more (λ (s : Bor (List ℕ)). Some s.now) c.loop-count.reader c.read_byte_record.new.self f default_config (reader_state c.args.reader) start bytes records plain.2 at_bytes reached read in
    let fault = c.in_err-push_fields.field-0.0 in
    passed-on (λ k. (k ≡ Memory) ⊎ ((all : List (List (List ℕ))) → HasRows c.args.reader c.args.columns all → ⊥)) c.from_residual.result fault c.from_residual.ensures.1
    (elim c.in_err-push_fields.ensures.err as (λ _. (fault ≡ Memory) ⊎ ((all : List (List (List ℕ))) → HasRows c.args.reader c.args.columns all → ⊥)) [
      | inl memory ↦ inl memory
      | inr not ↦ inr (λ all rows. not (row-there c.args.reader c.args.columns start z _ records all f at_start next rows).1)
    ])
