use Rattle.std.proofs.Common.{ap, arith, inl, inr, length}
use Rattle.ndarray.proofs.subviews.lanes.len_and_stride.Goals as goal

pub axis-requires-else-ndim-eq0 : goal.axis-requires-else-ndim-eq0
axis-requires-else-ndim-eq0 g c = elim c.requires.dim [
  | inl none ↦ absurd (c.if-ndim-eq0.false (omega (arith, ap length none, c.ndim.ensures.value)))
  | inr lt ↦ omega (arith, lt, c.requires.as_many)
]
