use Rattle.std.proofs.Common.{rules, ◌++◌, inr, map, string_bytes, subst}
use Rattle.std.proofs.lemmas.Result.{IfErr-weaker}
use Rattle.ndtables.specs.Answering.{ForbidsAnswer}
use Rattle.ndtables.specs.Lines.{AsksNoPage, BeginsWrongly, ForbidsLine, StandFor}
use Rattle.ndtables.specs.Words.{words_of}
use Rattle.ndtables.proofs.program.answer.Goals as goal

pub returns-in-Ok-clause-err : goal.returns-in-Ok-clause-err
returns-in-Ok-clause-err g c =
    let line = map string_bytes c.args.words.now in
    let remaining = g.R.Read.remaining c.args.input in
    let source = c.asked-source.result.0 in
    let form = c.asked-source.result.1 in
    let given = map string_bytes c.asked-source.result.2.now in
    let front = map string_bytes c.in-Ok.words.now in
    let words = front ++ words_of (string_bytes c.in-Ok.text) in
    let no_page : AsksNoPage line = search rules in
    let right : BeginsWrongly given → ⊥ = search rules in
    let stands : StandFor source given remaining words = c.in-Ok.ensures.words in
    IfErr-weaker c.computed.result (λ complaint. ForbidsAnswer form (front ++ words_of c.as_str.result.now) complaint.fault) (λ complaint. ForbidsLine line remaining complaint.fault)
    (λ complaint why. inr (record {
      no_page = no_page;
      source = source;
      form = form;
      given = given;
      begins = c.asked-source.ensures;
      why = inr (right, inr (words, stands, subst (λ t. ForbidsAnswer form (front ++ words_of t) complaint.fault) c.as_str.ensures.value why));
    }))
    c.computed.ensures.err
