use Rattle.std.proofs.Common.{rules}
use Rattle.std.specs.Char.{encode_utf8}
use Rattle.ndtables.proofs.ShownText.{digit-plain, extends-by, extends-none, letter-shown}
use Rattle.ndtables.proofs.place.push_digit.Goals as goal

pub returns : goal.returns
returns c =
    extends-by _ _ _ (encode_utf8 c.in-Some.letter) (extends-none _) c.in_ok-push.ensures.bytes
    (letter-shown c.in-Some.letter (digit-plain c.in-Some.letter c.args.digit (search rules) c.in-Some.ensures.some))
