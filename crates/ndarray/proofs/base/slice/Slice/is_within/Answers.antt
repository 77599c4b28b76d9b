use Rattle.std.proofs.Common.{rules}
use Rattle.ndarray.proofs.base.slice.Slice.is_within.Goals as goal

pub returns-then-end-len : goal.returns-then-end-len
returns-then-end-len c = search rules
