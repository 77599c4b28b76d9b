use Rattle.std.proofs.Common.{MatchResult, Err, subst, sym}
use Rattle.std.specs.declared.alloc.AllocError.{AllocError}
use Rattle.ndarray.specs.Orders.{box_in}
use Rattle.ndarray.specs.Runs.{MayGather}
use Rattle.ndarray.specs.Updates.{is_cell_beside}
use Rattle.ndarray.proofs.cells.UpdatedCells.{updates-collect, updates-ok}
use Rattle.ndarray.proofs.runs.RunsThrough.{Collects-known, MayUpdate-via}
use Rattle.ndarray.proofs.zip.assigning.assign_items.Goals as goal

pub try_update-requires-clause-callable : goal.try_update-requires-clause-callable
try_update-requires-clause-callable g c = λ o.
    let yields_at = g.P.NdProducer.yields_at c.args.p in
    let v = c.args.into.now in
    MayUpdate-via {E = AllocError} (is_cell_beside v yields_at) yields_at
    (λ a t r d. MatchResult r (λ x. g.C.ItemCall.call_gives a.0 t.1 x d.0) (λ _. ⊥)) (λ f x r h. MatchResult r (λ a. g.C.ItemCall.call_gives f x a h) (λ _. ⊥))
    (λ a. a.0) (λ x. x.1) (λ i x s. s.1) (λ f x r h e. e) _ (λ a t. g.C.ItemCall.can_call a.0 t.1) g.C.ItemCall.can_call (λ h x s. s) (box_in o v.lengths)
    (subst (λ ns. MayGather yields_at g.C.ItemCall.call_gives g.C.ItemCall.can_call (box_in o ns) c.args.f) c.requires.same (c.requires.callable o))

pub unreachable-requires : goal.unreachable-requires
unreachable-requires g c =
    let (o, u) = c.in-Err.ensures.ran in
    let ok = updates-ok _ _ o _ c.args.into.now _ (λ _. Unit {0}) (λ g x a h n k. tt) tt (λ i g x e h n s k. k) (Err _) u in
    cc

pub returns-clause-ran : goal.returns-clause-ran
returns-clause-ran g c =
    let yields_at = g.P.NdProducer.yields_at c.args.p in
    let v = c.args.into.now in
    let new = c.try_update.new.array in
    let (o, u) = c.in-Ok.ensures.ran in
    let ran = updates-collect (is_cell_beside v yields_at) (λ a t r d. MatchResult r (λ x. g.C.ItemCall.call_gives a.0 t.1 x d.0) (λ _. ⊥)) o _ v new c.in-Ok.ensures.whole u in
    (o, Collects-known (is_cell_beside v yields_at) yields_at (λ a t r d. g.C.ItemCall.call_gives a.0 t.1 r d.0) g.C.ItemCall.call_gives (λ a. a.0) (λ x. x.1) (λ _. Unit {0}) (λ i x s. s.1) (λ f x r h n e. (e, tt)) _ tt o v.lengths (g.P.Shaped.lengths c.args.p) (sym c.requires.same) new ran)
