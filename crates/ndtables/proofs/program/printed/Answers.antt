use Rattle.std.proofs.Common.{◌≡◌, ◌∷◌, inr, subst, sym}
use Rattle.std.specs.Prelude.{⊤}
use Rattle.std.proofs.lemmas.Result.{IfErr-weaker}
use Rattle.ndtables.specs.Answering.{ForbidsAnswer, name_of}
use Rattle.ndtables.specs.Printing.{HasForm}
use Rattle.ndtables.specs.Reducing.{ForbidsMaking}
use Rattle.ndtables.proofs.program.printed.Goals as goal

pub returns-clause-err : goal.returns-clause-err
returns-clause-err c =
    let form = c.args.form in
    let all = c.args.words.now in
    let command = c.in_ok-command.command in
    let named : c.in_ok-word.field-0.now ≡ name_of command = rw c.in_ok-command.ensures.ok_part at c.named.ensures in
    let words : all ≡ c.in_ok-word.field-0.now ∷ c.word.new.self = c.in_ok-word.ensures.cases in
    IfErr-weaker c.text_of.result (ForbidsMaking (HasForm form c.view.result) ⊤) (ForbidsAnswer form all)
    (λ fault why. subst (λ ws. ForbidsAnswer form ws fault) (sym words) (inr (command, named, inr (c.in_ok-array.array, c.in_ok-array.ensures.computed, subst (λ g. ForbidsMaking (HasForm form g) ⊤ fault) c.view.ensures.same why))))
    c.text_of.ensures.err
