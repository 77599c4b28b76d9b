use Rattle.std.proofs.Common.{◌≡◌, ◌∙◌, ap, subst, sym}
use Rattle.std.specs.Prelude.{⊤}
use Rattle.ndarray.specs.Orders.{box_in}
use Rattle.ndarray.specs.Producers.{both}
use Rattle.ndarray.specs.Runs.{MayGather, MayTurnAt, TurnAt, TakesAt}
use Rattle.ndarray.specs.Updates.{answers, is_cell_beside, UpdatesUntil}
use Rattle.ndarray.specs.base.Overwrites.{MayWrite, WriteTurn, WritesUntil}
use Rattle.ndarray.specs.base.Places.{Reaches, grid_at, place}
use Rattle.ndarray.proofs.cells.Updates.{may-update, updated-cells}
use Rattle.ndarray.proofs.strides.Reach.{length-cells_at}
use Rattle.ndarray.proofs.zip.updating.try_update_in.Goals as goal

pub replace_with-requires : goal.replace_with-requires
replace_with-requires g c =
    let a = c.array.inside in
    let at = g.S.Data.at in
    let gives = g.C.CellCall.call_gives in
    let yields = g.P.NdProducer.yields_at c.args.other in
    let o = c.args.order in
    let ns = g.P.Dim.Lengths.numbers a.layout.dim in
    let start = a.layout.start in
    let bs = g.P.Dim.Lengths.numbers a.layout.strides in
    let h = c.array.invariant in
    let reach : Reaches ⊤ (at a.storage) ns start bs = record { as_many = h.as_many; limit = h.limit; inside = h.inside; nested = λ _. h.nested (g.met.S.DataMut.is_apart a.storage) } in
    let lengths : g.P.Shaped.lengths c.args.other ≡ ns = c.requires.same ∙ sym (ap (λ v. v.lengths) c.array.view_is) in
    let may = subst (λ v. MayGather (is_cell_beside v yields) (answers gives) g.C.CellCall.can_call (box_in o v.lengths) c.args.f) (sym c.array.view_is) c.requires.callable in
    rw (c.of-places.ensures, c.copied.ensures.start, c.copied.ensures.strides)
    (subst (λ ms. MayTurnAt (TurnAt (both yields (λ i p. p ≡ place start bs i)) (WriteTurn at gives)) (TakesAt (both yields (λ i p. p ≡ place start bs i)) (MayWrite at g.C.CellCall.can_call)) (a.storage, c.args.f) (box_in o ms)) (sym lengths)
    (may-update at gives yields o ns start bs a.storage c.args.f reach g.C.CellCall.can_call may))

pub returns-clause-ran : goal.returns-clause-ran
returns-clause-ran g c =
    let a = c.array.inside in
    let at = g.S.Data.at in
    let gives = g.C.CellCall.call_gives in
    let yields = g.P.NdProducer.yields_at c.args.other in
    let o = c.args.order in
    let ns = g.P.Dim.Lengths.numbers a.layout.dim in
    let start = a.layout.start in
    let bs = g.P.Dim.Lengths.numbers a.layout.strides in
    let h = c.array.invariant in
    let reach : Reaches ⊤ (at a.storage) ns start bs = record { as_many = h.as_many; limit = h.limit; inside = h.inside; nested = λ _. h.nested (g.met.S.DataMut.is_apart a.storage) } in
    let lengths : g.P.Shaped.lengths c.args.other ≡ ns = c.requires.same ∙ sym (ap (λ v. v.lengths) c.array.view_is) in
    let ran = subst (λ ms. WritesUntil at gives (both yields (λ i p. p ≡ place start bs i)) (box_in o ms) c.args.f a.storage c.replace_with.new.dest c.replace_with.result) lengths
    (rw (← c.copied.ensures.start, ← c.copied.ensures.strides, ← c.of-places.ensures) c.replace_with.ensures) in
    let u = (updated-cells at gives yields o ns start bs a.storage c.args.f reach c.replace_with.new.dest c.replace_with.result ran).0 in
    subst (λ v. UpdatesUntil (is_cell_beside v yields) gives o c.args.f v c.replace_with.result (grid_at (at c.replace_with.new.dest) ns start bs)) c.array.view_is u

pub invariant_of-array : goal.invariant_of-array
invariant_of-array g c =
    let a = c.array.inside in
    let at = g.S.Data.at in
    let gives = g.C.CellCall.call_gives in
    let yields = g.P.NdProducer.yields_at c.args.other in
    let o = c.args.order in
    let ns = g.P.Dim.Lengths.numbers a.layout.dim in
    let start = a.layout.start in
    let bs = g.P.Dim.Lengths.numbers a.layout.strides in
    let h = c.array.invariant in
    let reach : Reaches ⊤ (at a.storage) ns start bs = record { as_many = h.as_many; limit = h.limit; inside = h.inside; nested = λ _. h.nested (g.met.S.DataMut.is_apart a.storage) } in
    let lengths : g.P.Shaped.lengths c.args.other ≡ ns = c.requires.same ∙ sym (ap (λ v. v.lengths) c.array.view_is) in
    let ran = subst (λ ms. WritesUntil at gives (both yields (λ i p. p ≡ place start bs i)) (box_in o ms) c.args.f a.storage c.replace_with.new.dest c.replace_with.result) lengths
    (rw (← c.copied.ensures.start, ← c.copied.ensures.strides, ← c.of-places.ensures) c.replace_with.ensures) in
    let r = (updated-cells at gives yields o ns start bs a.storage c.args.f reach c.replace_with.new.dest c.replace_with.result ran).1 in
    record { as_many = r.as_many; limit = r.limit; inside = r.inside; nested = λ _. r.nested tt }

pub returns-clause-whole : goal.returns-clause-whole
returns-clause-whole g c =
    let a = c.array.inside in
    let at = g.S.Data.at in
    let gives = g.C.CellCall.call_gives in
    let yields = g.P.NdProducer.yields_at c.args.other in
    let o = c.args.order in
    let ns = g.P.Dim.Lengths.numbers a.layout.dim in
    let start = a.layout.start in
    let bs = g.P.Dim.Lengths.numbers a.layout.strides in
    let h = c.array.invariant in
    let reach : Reaches ⊤ (at a.storage) ns start bs = record { as_many = h.as_many; limit = h.limit; inside = h.inside; nested = λ _. h.nested (g.met.S.DataMut.is_apart a.storage) } in
    let lengths : g.P.Shaped.lengths c.args.other ≡ ns = c.requires.same ∙ sym (ap (λ v. v.lengths) c.array.view_is) in
    let ran = subst (λ ms. WritesUntil at gives (both yields (λ i p. p ≡ place start bs i)) (box_in o ms) c.args.f a.storage c.replace_with.new.dest c.replace_with.result) lengths
    (rw (← c.copied.ensures.start, ← c.copied.ensures.strides, ← c.of-places.ensures) c.replace_with.ensures) in
    length-cells_at _ _ _ _ (updated-cells at gives yields o ns start bs a.storage c.args.f reach c.replace_with.new.dest c.replace_with.result ran).1
