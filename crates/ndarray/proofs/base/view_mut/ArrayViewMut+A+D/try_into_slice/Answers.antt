use Rattle.std.proofs.Common.{arith, ◌∙◌, ap, sym, subst, refl, take, drop, []}
use Rattle.std.proofs.lemmas.List.{nil_from_length}
use Rattle.ndarray.specs.Grid.{IsGrid}
use Rattle.ndarray.specs.base.Slots.{IsRun}
use Rattle.ndarray.proofs.strides.Reach.{length-cells_at}
use Rattle.ndarray.proofs.strides.SeenCells.{size-seen}
use Rattle.ndarray.proofs.strides.Contiguous.{IsRun-cells, run-cells}
use Rattle.ndarray.proofs.regions.Slots.{same-run}
use Rattle.ndarray.proofs.base.view_mut.ArrayViewMut+A+D.try_into_slice.Goals as goal

pub returns-then-len-eq0-clause-cells : goal.returns-then-len-eq0-clause-cells
returns-then-len-eq0-clause-cells g c =
    same-run _ [] (sym c.into_slice.ensures.value) ∙ sym (nil_from_length _ (sym (size-seen _ _ _ _ _ c.self.invariant c.self.view_is) ∙ (sym c.size-len.ensures ∙ c.if-len-eq0.true)))

pub returns-then-not-is_row_major-clause-one : goal.returns-then-not-is_row_major-clause-one
returns-then-not-is_row_major-clause-one g c = λ e. c.if-not-is_row_major.ensures.one (size-seen _ _ _ _ _ c.self.invariant c.self.view_is ∙ e)

pub returns-then-not-is_row_major-clause-empty : goal.returns-then-not-is_row_major-clause-empty
returns-then-not-is_row_major-clause-empty g c = λ e. absurd (c.if-len-eq0.false (c.size-len.ensures ∙ (size-seen _ _ _ _ _ c.self.invariant c.self.view_is ∙ e)))

pub into_slice-requires-2 : goal.into_slice-requires-2
into_slice-requires-2 g c =
    let a = c.self.inside in
    subst (IsRun a.storage.slots a.layout.start) (sym c.size-len.ensures)
    (IsRun-cells a.storage.slots (g.D.Lengths.numbers a.layout.dim) a.layout.start (g.D.Lengths.numbers a.layout.strides) c.self.invariant (c.if-not-is_row_major.ensures.places.0 refl) (omega (arith, c.size-len.ensures)))

pub returns-clause-cells : goal.returns-clause-cells
returns-clause-cells g c =
    let a = c.self.inside in
    same-run _ _ (sym c.into_slice-2.ensures.value ∙ (ap (λ n. take n (drop a.layout.start a.storage.slots)) c.size-len.ensures ∙ run-cells a.storage.slots (g.D.Lengths.numbers a.layout.dim) a.layout.start (g.D.Lengths.numbers a.layout.strides) c.self.invariant (c.if-not-is_row_major.ensures.places.0 refl) (omega (arith, c.size-len.ensures)))) ∙ ap (λ v. v.cells) c.self.view_is

pub returns-then-len-eq0-clause-whole : goal.returns-then-len-eq0-clause-whole
returns-then-len-eq0-clause-whole g c = subst IsGrid c.self.view_is (length-cells_at _ _ _ _ c.self.invariant)

pub returns-then-not-is_row_major-clause-whole : goal.returns-then-not-is_row_major-clause-whole
returns-then-not-is_row_major-clause-whole g c = subst IsGrid c.self.view_is (length-cells_at _ _ _ _ c.self.invariant)

pub returns-clause-whole : goal.returns-clause-whole
returns-clause-whole g c = subst IsGrid c.self.view_is (length-cells_at _ _ _ _ c.self.invariant)
