use Rattle.ndarray.proofs.Common.{◌∙◌, ap, sym, false≢true}
use Rattle.std.specs.Char.{encode_utf8, is_control}
use Rattle.uses.proofs.OneLine.{extends-by, extends-none, letter-in_line}
use Rattle.uses.proofs.reporting.push_shown.Goals as goal

pub returns : goal.returns
returns c =
    extends-by _ _ _ (encode_utf8 c.args.letter) (extends-none _) c.in_ok-push-2.ensures.bytes
    (letter-in_line c.args.letter (λ e. false≢true (sym c.if-is_control.false ∙ (c.is_control.ensures ∙ ap is_control e))))
