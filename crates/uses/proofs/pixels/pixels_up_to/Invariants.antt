-- These pixels are those of the words so far.
use Rattle.ndarray.proofs.Common.{map}
use Rattle.uses.specs.Pixels.{SpellPixels}
use Rattle.uses.proofs.pixels.pixels_up_to.Given as goal

abbrev pub invariant-loop-word : goal.invariant-loop-word
invariant-loop-word l = SpellPixels l.most (map (λ x. x.now) l.yielded) l.pixels.items
