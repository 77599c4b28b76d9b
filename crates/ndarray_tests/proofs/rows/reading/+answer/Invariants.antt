use Rattle.std.proofs.Common.{length}
use Rattle.ndarray_tests.proofs.rows.reading.+answer.Given as goal

abbrev pub decreases-answer : goal.decreases-answer
decreases-answer l = length l.calls.now
