-- The fields so far spell cells and were appended.
use Rattle.std.proofs.Common.{◌≡◌, ◌≤◌, ◌++◌, ◌∷◌, [], All, flat_map, length, string_bytes, take}
use Rattle.csv.specs.Records.{fields_of}
use Rattle.ndtables.specs.Spelling.{IsCellWord}
use Rattle.ndtables.proofs.records.push_fields.Given as goal

abbrev pub invariant-loop-field : goal.invariant-loop-field
invariant-loop-field l = record {
  row : l.field-iterator.row.now ≡ l.fields;
  within : l.field-iterator.at ≤ length (fields_of l.fields);
  cells : All IsCellWord (take l.field-iterator.at (fields_of l.fields));
  text : string_bytes l.text ≡ string_bytes l.fn.text ++ flat_map (λ field. field ++ 32 ∷ []) (take l.field-iterator.at (fields_of l.fields));
}
