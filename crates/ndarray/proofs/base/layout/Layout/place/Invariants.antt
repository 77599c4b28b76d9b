use Rattle.std.proofs.Common.{◌≡◌, take}
use Rattle.ndarray.specs.base.Places.{place}
use Rattle.ndarray.proofs.base.layout.Layout.place.Given as goal

abbrev pub invariant-loop-k : goal.invariant-loop-k
invariant-loop-k g l = l.at ≡ place l.self.start (take l.k (g.D.Lengths.numbers l.self.strides)) (take l.k (g.D.Lengths.numbers l.index))
