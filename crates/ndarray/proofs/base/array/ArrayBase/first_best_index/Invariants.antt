-- The best of the cells to come, from the best one so far on, is the best of all, next to its index list.
use Rattle.std.proofs.Common.{◌≡◌, Some, cond}
use Rattle.std.specs.Prelude.{zip}
use Rattle.std.specs.List.{best_of, reduce}
use Rattle.ndarray.specs.Index.{row_order}
use Rattle.ndarray.specs.every_day.Preferences.{preferred}
use Rattle.ndarray.proofs.base.array.ArrayBase.first_best_index.Given as goal

abbrev pub invariant-loop-at : goal.invariant-loop-at
invariant-loop-at g l =
    let beats = preferred g.A.Ord.cmp l.extreme in
    reduce (λ best p. cond (beats p.1 best.1) p best) (zip (row_order l.self.lengths) l.self.cells)
    ≡ Some (best_of (λ p q. beats p.1 q.1) (g.D.Dimension.pattern_numbers l.index, l.best) l.at-iterator)
