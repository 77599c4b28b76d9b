use Rattle.ndarray.proofs.Common.{◌∙◌, sym}
use Rattle.std.specs.Char.{encode_utf8}
use Rattle.ndtables.proofs.ShownText.{extends-by, extends-none, letter-shown}
use Rattle.ndtables.proofs.place.push_shown.Goals as goal

pub returns : goal.returns
returns c =
    extends-by _ _ _ (encode_utf8 c.args.letter) (extends-none _) c.in_ok-push.ensures.bytes
    (letter-shown c.args.letter (sym c.is_control.ensures ∙ c.if-is_control.false))
