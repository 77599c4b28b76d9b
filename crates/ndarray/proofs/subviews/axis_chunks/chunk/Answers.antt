use Rattle.std.proofs.Common.{arith}
use Rattle.ndarray.proofs.pieces.Chunks.{chunk-begins}
use Rattle.ndarray.proofs.subviews.axis_chunks.chunk.Goals as goal

pub overflow_mul-from : goal.overflow_mul-from
overflow_mul-from g c = let b = chunk-begins _ c.args.size c.args.number c.requires.size c.requires.number in let e = c.len_of-len.ensures.value in omega arith
