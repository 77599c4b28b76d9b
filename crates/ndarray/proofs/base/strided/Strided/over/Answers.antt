use Rattle.std.proofs.Common.{arith, refl}
use Rattle.std.specs.Prelude.{slice_get}
use Rattle.ndarray.proofs.strides.SideBySide.{slice-elements, slice-places}
use Rattle.ndarray.proofs.base.strided.Strided.over.Goals as goal

pub invariant_of-result : goal.invariant_of-result
invariant_of-result g c = slice-places (slice_get c.args.slice.now) c.args.slice.now (omega arith) (λ k. refl)

pub returns : goal.returns
returns g c = slice-elements (slice_get c.args.slice.now) c.args.slice.now (omega arith) (λ k. refl)
