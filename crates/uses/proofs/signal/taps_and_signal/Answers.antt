use Rattle.ndarray.proofs.Common.{subst, sym}
use Rattle.uses.specs.Signal.{ReadsSignal}
use Rattle.uses.specs.Spelling.{SpellNumbers}
use Rattle.uses.specs.Words.{words_of}
use Rattle.uses.proofs.FaultsPassedOn.{none-there, passed-on}
use Rattle.uses.proofs.signal.taps_and_signal.Goals as goal

pub returns-in_err-first-clause-err : goal.returns-in_err-first-clause-err
returns-in_err-first-clause-err c = none-there (ReadsSignal c.args.text.now) c.from_residual.result (λ p r. c.in_err-first.ensures.err r.lines)

pub returns-in_err-taps-clause-err : goal.returns-in_err-taps-clause-err
returns-in_err-taps-clause-err c =
    passed-on (SpellNumbers (words_of c.in_ok-first.first.now)) (ReadsSignal c.args.text.now) c.from_residual-in_err-taps.result c.in_err-taps.field-0.0 c.from_residual-in_err-taps.ensures.1 c.in_err-taps.ensures.err
    (λ p r. (p.0, subst (λ bs. SpellNumbers (words_of bs) p.0) (sym c.in_ok-first.ensures.first) r.taps))
