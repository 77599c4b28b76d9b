-- The best of the cells to come, from the best one so far on, is the best of all.
use Rattle.std.proofs.Common.{◌≡◌, Some, cond}
use Rattle.std.specs.List.{best_of, reduce}
use Rattle.ndarray.specs.every_day.Preferences.{preferred}
use Rattle.ndarray.proofs.base.array.ArrayBase.first_best.Given as goal

abbrev pub invariant-loop-x : goal.invariant-loop-x
invariant-loop-x g l =
    let beats = preferred g.A.Ord.cmp l.extreme in
    reduce (λ best y. cond (beats y best) y best) l.self.cells ≡ Some (best_of beats l.best l.x-iterator)
