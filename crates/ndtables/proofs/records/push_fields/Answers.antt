use Rattle.std.proofs.Common.{rules, ◌≡◌, ◌∙◌, ◌++◌, ◌∷◌, [], All, flat_map, string_bytes, take, ap, append_assoc, append-nil, arith, inr, suc, ℕ, List, Some, subst, sym}
use Rattle.std.proofs.lemmas.List.{take_all}
use Rattle.std.proofs.lemmas.List.Elements.{All-push}
use Rattle.std.proofs.lemmas.Grind.{flat_map-append}
use Rattle.csv.proofs.RecordFacts.{field-get}
use Rattle.csv.specs.Records.{field_at, fields_of}
use Rattle.ndtables.specs.Spelling.{IsCellWord}
use Rattle.ndtables.proofs.RecordFields.{field-below, field-over}
use Rattle.ndtables.proofs.records.push_fields.Goals as goal

abbrev with_blank : List ℕ → List ℕ
with_blank field = field ++ 32 ∷ []

pub returns-in_default-clause-err : goal.returns-in_default-clause-err
returns-in_default-clause-err c =
    let fs = fields_of c.args.fields.now in
    let i = c.loop-field.invariant in
    let at = c.loop-field.field-iterator.at in
    let here : field_at fs at ≡ Some c.in-Some.field.now = ap (λ r. field_at (fields_of r) at) (sym i.row) ∙ sym c.in-Some.ensures.steps.1 in
    let (below, more) = field-below fs at c.in-Some.field.now here in
    inr (λ all. c.in_default.ensures.err (subst IsCellWord (field-get fs at c.in-Some.field.now here) (all at [] below)))

pub loop-field-preserved : goal.loop-field-preserved
loop-field-preserved c =
    let fs = fields_of c.args.fields.now in
    let i = c.loop-field.invariant in
    let at = c.loop-field.field-iterator.at in
    let field = c.in-Some.field.now in
    let here : field_at fs at ≡ Some field = ap (λ r. field_at (fields_of r) at) (sym i.row) ∙ sym c.in-Some.ensures.steps.1 in
    let (below, more) = field-below fs at field here in
    let next : c.next.new.self.at ≡ suc at = (let e = c.in-Some.ensures.steps.2 in omega (arith, e)) in
    let front = take at fs in
    let pushed : string_bytes c.push.new.self ≡ (string_bytes c.loop-field.text ++ field) ++ 32 ∷ [] = search rules in
    record {
      row = ap (λ r. r.now) c.in-Some.ensures.steps.0 ∙ i.row;
      within = omega (arith, below, next);
      cells = subst (λ k. All IsCellWord (take k fs)) (sym next) (subst (All IsCellWord) (sym more) (All-push IsCellWord front field i.cells c.in-Ok.ensures.word.1));
      text = pushed
          ∙ (append_assoc (string_bytes c.loop-field.text) field (32 ∷ [])
          ∙ (ap (λ z. z ++ (field ++ 32 ∷ [])) i.text
          ∙ (append_assoc (string_bytes c.args.text.now) (flat_map with_blank front) (field ++ 32 ∷ [])
          ∙ ap (λ z. string_bytes c.args.text.now ++ z) (ap (λ z. flat_map with_blank front ++ z) (sym (append-nil (field ++ 32 ∷ []))) ∙ (sym (flat_map-append with_blank front (field ∷ [])) ∙ (ap (flat_map with_blank) (sym more) ∙ ap (λ k. flat_map with_blank (take k fs)) (sym next)))))));
    }

pub returns-clause-cells : goal.returns-clause-cells
returns-clause-cells c =
    let fs = fields_of c.args.fields.now in
    let i = c.loop-field.invariant in
    let at = c.loop-field.field-iterator.at in
    let over = field-over fs at (ap (λ r. field_at (fields_of r) at) (sym i.row) ∙ sym c.in-None.ensures.steps.1) in
    subst (All IsCellWord) (take_all at fs over) i.cells

pub returns-clause-text : goal.returns-clause-text
returns-clause-text c =
    let fs = fields_of c.args.fields.now in
    let i = c.loop-field.invariant in
    let at = c.loop-field.field-iterator.at in
    let over = field-over fs at (ap (λ r. field_at (fields_of r) at) (sym i.row) ∙ sym c.in-None.ensures.steps.1) in
    i.text ∙ ap (λ xs. string_bytes c.args.text.now ++ flat_map (λ field. field ++ 32 ∷ []) xs) (take_all at fs over)
