use Rattle.std.proofs.Common.{rules, ◌≡◌, ◌∙◌, ◌++◌, ◌∷◌, [], ap, append_assoc, length, string_bytes}
use Rattle.ndtables.specs.Records.{fields_in, rows_of}
use Rattle.ndtables.specs.Printing.{shape_word}
use Rattle.ndtables.specs.Words.{words_of}
use Rattle.ndtables.proofs.NumberWords.{shape-before, spaced-words}
use Rattle.ndtables.proofs.records.table_words.Goals as goal

pub returns-clause-words : goal.returns-clause-words
returns-clause-words c =
    let taken = c.in_ok-rows.ensures.taken in
    let header = c.args.below_header in
    let n = c.in_ok-rows.rows in
    let m = c.in_ok-rows.columns in
    let fields = fields_in header taken.records in
    let shape : string_bytes c.push.new.self ≡ shape_word (n ∷ m ∷ []) ++ 32 ∷ [] = search rules in
    let laid : string_bytes c.insert_str.new.self ≡ shape_word (n ∷ m ∷ []) ++ 32 ∷ string_bytes c.in_ok-rows.text =
    c.in_ok-insert_str.ensures.bytes ∙ (ap (λ t. t ++ string_bytes c.in_ok-rows.text) (c.as_str.ensures.value ∙ shape) ∙ append_assoc (shape_word (n ∷ m ∷ [])) (32 ∷ []) (string_bytes c.in_ok-rows.text)) in
    let inside : words_of (string_bytes c.in_ok-rows.text) ≡ fields = ap words_of taken.fields_are ∙ spaced-words fields taken.read.cells in
    let told = ap words_of laid ∙ shape-before n m (string_bytes c.in_ok-rows.text) fields (search rules) (search rules) inside in
    record {
      records = taken.records;
      read = taken.read;
      put = told ∙ (ap (λ k. shape_word (k ∷ m ∷ []) ∷ fields) taken.rows_are ∙ ap (λ k. shape_word (length (rows_of header taken.records) ∷ k ∷ []) ∷ fields) taken.columns_are);
    }
