use Rattle.std.proofs.Common.{◌≡◌, MatchResult, Some, refl}
use Rattle.std.specs.declared.alloc.AllocError.{AllocError}
use Rattle.ndarray.specs.Calls.{can_call2, call_gives2}
use Rattle.ndarray.specs.Grid.{cell}
use Rattle.ndarray.specs.Orders.{box_in}
use Rattle.ndarray.specs.IndexedUpdates.{is_pattern_and_cell}
use Rattle.ndarray.specs.Updates.{is_cell_beside}
use Rattle.ndarray.proofs.callers.Collecting.{array_by-at}
use Rattle.ndarray.proofs.callers.Updating.{update-follows}
use Rattle.ndarray.proofs.cells.Cells.{cell-inside}
use Rattle.ndarray.proofs.cells.UpdatedCells.{updates-collect}
use Rattle.ndarray.proofs.runs.RunsThrough.{Collects-known, MayUpdate-via}
use Rattle.ndarray.proofs.base.array.ArrayBase.update.Goals as goal

pub try_update-requires-clause-callable : goal.try_update-requires-clause-callable
try_update-requires-clause-callable g c = λ o.
    let lists = c.of-lists.result in
    let v = c.args.self.now in
    MayUpdate-via {E = AllocError} (is_cell_beside v (λ i x. cell lists i ≡ Some (g.D.Dimension.pattern_numbers x))) (is_pattern_and_cell g.D.Dimension.pattern_numbers v)
    (λ a t r d. MatchResult r (λ x. call_gives2 g.F.FnMut a.0 (t.1, t.0) x d.0) (λ _. ⊥)) (λ f x r h. MatchResult r (λ a. call_gives2 g.F.FnMut f x a h) (λ _. ⊥))
    (λ a. a.0) (λ x. (x.1, x.0)) (λ i x s. (array_by-at _ (λ is. is) lists i _ c.of-lists.ensures (cell-inside lists i _ s.1) s.1, s.0)) (λ f x r h e. e) _
    (λ a t. can_call2 g.F.FnMut a.0 (t.1, t.0)) (can_call2 g.F.FnMut) (λ h x s. s) (box_in o v.lengths) (c.requires.callable o)

pub returns-clause-ran : goal.returns-clause-ran
returns-clause-ran g c =
    let lists = c.of-lists.result in
    let v = c.args.self.now in
    let new = c.try_update.new.array in
    let (o, u) = c.in-Ok.ensures.ran in
    let ran = updates-collect _ _ o _ v new c.in-Ok.ensures.whole u in (
      o,
      Collects-known (is_cell_beside v (λ i x. cell lists i ≡ Some (g.D.Dimension.pattern_numbers x))) (is_pattern_and_cell g.D.Dimension.pattern_numbers v)
          (λ a t r d. call_gives2 g.F.FnMut a.0 (t.1, t.0) r d.0) (call_gives2 g.F.FnMut)
          (λ a. a.0) (λ x. (x.1, x.0)) (λ _. Unit {0}) (λ i x s. (array_by-at _ (λ is. is) lists i _ c.of-lists.ensures (cell-inside lists i _ s.1) s.1, s.0)) (λ f x r h n e. (e, tt)) _ tt o v.lengths v.lengths refl new ran,
    )

pub returns-clause-follows : goal.returns-clause-follows
returns-clause-follows g c = λ h each.
    let (o, ran) = returns-clause-ran g c in
    update-follows _ _ _ c.args.self.now h each o c.try_update.new.array c.in-Ok.ensures.whole ran
