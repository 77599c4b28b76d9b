use Rattle.ndarray.proofs.subviews.pieces.PiecesIterClone.clone.Goals as goal

pub invariant_of-result : goal.invariant_of-result
invariant_of-result g c = rw (c.copied.ensures.value, c.copied-2.ensures.value, c.again.ensures) c.self.invariant
