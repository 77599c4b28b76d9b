use Rattle.uses.specs.Inputs.{ReadsPicture}
use Rattle.uses.specs.Pixels.{ReadsPixels}
use Rattle.uses.specs.Words.{words_of}
use Rattle.uses.proofs.FaultsPassedOn.{passed-on}
use Rattle.uses.proofs.reading.picture.Goals as goal

pub returns-in_err-rows-clause-err : goal.returns-in_err-rows-clause-err
returns-in_err-rows-clause-err c =
    passed-on (ReadsPixels (words_of c.args.text.now)) (ReadsPicture c.args.text.now) c.from_residual.result c.in_err-rows.field-0.0 c.from_residual.ensures.1 c.in_err-rows.ensures.err
    (λ g r. ((r.lengths, r.pixels), r.words))
