use Rattle.std.proofs.Common.{refl}
use Rattle.std.specs.Prelude.{slice_get}
use Rattle.ndarray.proofs.strides.OtherElements.{refilled-at, Reaches-refilled, grid-refilled}
use Rattle.ndarray.proofs.base.view_mut.Array+A+D.parts_mut.Goals as goal

pub invariant_of-self-lent : goal.invariant_of-self-lent
invariant_of-self-lent g c = λ w.
    let a = c.self.inside in
    Reaches-refilled (slice_get a.storage.items.items) _ (g.D.Lengths.numbers a.layout.dim) a.layout.start (g.D.Lengths.numbers a.layout.strides) c.self.invariant w (λ p x h. refilled-at w a.storage.items.items a.storage.items.len p x a.storage.items.ok.0 h)

pub returns : goal.returns
returns g c =
    let a = c.self.inside in (
      (refl, λ w. rw (c.copied-layout.ensures.dim, c.copied-layout.ensures.start, c.copied-layout.ensures.strides) (grid-refilled (slice_get a.storage.items.items) _ (g.D.Lengths.numbers a.layout.dim) a.layout.start (g.D.Lengths.numbers a.layout.strides) c.self.invariant w (λ p x h. refilled-at w a.storage.items.items a.storage.items.len p x a.storage.items.ok.0 h) c.args.self.now c.self.view_is)),
      record {
        writes_back = tt;
        reaches = rw (c.as_mut_slice.ensures.value, c.copied-layout.ensures.dim, c.copied-layout.ensures.start, c.copied-layout.ensures.strides) c.self.invariant;
        same = rw (c.as_mut_slice.ensures.value, c.copied-layout.ensures.dim, c.copied-layout.ensures.start, c.copied-layout.ensures.strides) c.self.view_is;
      },
    )
