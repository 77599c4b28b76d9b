use Rattle.ndarray.proofs.Common.{◌++◌, decimal}
use Rattle.ndtables.proofs.ShownText.{extends-by, extends-none, number-shown, shown-append}
use Rattle.ndtables.proofs.place.push_number.Goals as goal

pub returns : goal.returns
returns c = extends-by _ _ _ (c.args.name.now ++ decimal c.args.number) (extends-none _) c.in_ok-write.ensures.bytes (shown-append c.args.name.now (decimal c.args.number) c.requires (number-shown c.args.number c.ranges.number.fits))
