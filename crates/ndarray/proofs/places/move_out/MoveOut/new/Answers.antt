use Rattle.ndarray.proofs.moving.MovedOut.{holds-new, found-new}
use Rattle.std.proofs.Common.{sym, subst, ap, ◌∙◌}
use Rattle.ndarray.specs.places.Moving.{found, HoldsAllButPassed}
use Rattle.ndarray.proofs.places.move_out.MoveOut.new.Goals as goal

pub invariant_of-result : goal.invariant_of-result
invariant_of-result g c =
    subst (HoldsAllButPassed (g.W.PlaceSequence.passed c.args.way) (g.W.PlaceSequence.to_come c.args.way)) (sym c.of.ensures) (holds-new (g.W.PlaceSequence.passed c.args.way) (g.W.PlaceSequence.to_come c.args.way) c.args.vec.items c.requires.within c.requires.begins)

pub returns : goal.returns
returns g c = ap (λ cs. found cs (g.W.PlaceSequence.to_come c.args.way)) c.of.ensures ∙ found-new c.args.vec.items (g.W.PlaceSequence.to_come c.args.way)
