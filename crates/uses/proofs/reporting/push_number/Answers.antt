use Rattle.ndarray.proofs.Common.{◌++◌, decimal}
use Rattle.uses.proofs.OneLine.{extends-by, extends-none, in-line_append, number-in_line}
use Rattle.uses.proofs.reporting.push_number.Goals as goal

pub returns : goal.returns
returns c = extends-by _ _ _ (c.args.name.now ++ decimal c.args.number) (extends-none _) c.in_ok-write.ensures.bytes (in-line_append c.args.name.now (decimal c.args.number) c.requires (number-in_line c.args.number c.ranges.number.fits))
