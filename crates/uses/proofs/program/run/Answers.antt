use Rattle.ndarray.proofs.Common.{inl, inr, ⊎_elim, map, refl, subst, string_bytes}
use Rattle.uses.specs.Answering.{Prints}
use Rattle.uses.specs.Faults.{IsFaultOf}
use Rattle.uses.specs.Streams.{ForbidsAnswer}
use Rattle.uses.specs.declared.fault.Fault.TheVariants.{Memory}
use Rattle.uses.proofs.program.run.Goals as goal

pub returns-clause-unanswered : goal.returns-clause-unanswered
returns-clause-unanswered g c two =
    let fault = c.in-Err-answer.fault in
    let forbids : ForbidsAnswer (map string_bytes c.args.words.now) (g.R.Read.remaining c.args.input) fault =
    inr (c.in-Ok.command, c.in-Ok.ensures.spelled, inr (string_bytes c.in-Ok-read.input, c.in-Ok-read.ensures.text, subst (λ bs. IsFaultOf (Prints c.in-Ok.command bs) fault) c.as_str.ensures.value c.in-Err-answer.ensures.err)) in
    inl (
      ⊎_elim (λ told. record { fault = fault; forbids = forbids; printed = told }) (λ told. record { fault = Memory; forbids = inl (inl refl); printed = told }) c.report-in-Err-answer.ensures.line,
      refl,
    )
