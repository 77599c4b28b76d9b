use Rattle.std.proofs.Common.{◌≡◌, ◌⊎◌, ◌∙◌, ◌∷◌, [], All, ap, append-nil, subst, sym}
use Rattle.csv.specs.Records.{fields_of}
use Rattle.ndtables.specs.Records.{fields_in}
use Rattle.ndtables.specs.Spelling.{IsCellWord}
use Rattle.ndtables.specs.declared.fault.Fault.TheVariants.{Memory}
use Rattle.ndtables.proofs.FaultsPassedOn.{passed-on}
use Rattle.ndtables.proofs.records.push_first.Goals as goal

pub returns-in_err-push_fields-clause-err : goal.returns-in_err-push_fields-clause-err
returns-in_err-push_fields-clause-err c =
    let fs = fields_of c.args.fields.now in
    let alone : fs ≡ fields_in c.args.is_header (fs ∷ []) = sym (append-nil fs) ∙ ap (λ b. fields_in b (fs ∷ [])) (sym c.if-is_header.false) in
    let fault = c.in_err-push_fields.field-0.0 in
    passed-on (λ f. (f ≡ Memory) ⊎ (All IsCellWord (fields_in c.args.is_header (fs ∷ [])) → ⊥)) c.from_residual.result fault c.from_residual.ensures.1
    (subst (λ xs. (fault ≡ Memory) ⊎ (All IsCellWord xs → ⊥)) alone c.in_err-push_fields.ensures.err)
