use Rattle.std.proofs.Common.{◌≡◌, ◌+◌, ◌-◌, arith, ◌∙◌, ap, sym, length, refl}
use Rattle.std.proofs.lemmas.List.{nil_from_length}
use Rattle.std.specs.Prelude.{slice_get}
use Rattle.ndarray.proofs.strides.Reach.{length-cells_at}
use Rattle.ndarray.proofs.strides.ContiguousCells.{side-there, side-cells, slice-within}
use Rattle.ndarray.proofs.base.place_map.Array+A+D.try_into_cells.Goals as goal

pub returns-then-len-eq0-clause-cells : goal.returns-then-len-eq0-clause-cells
returns-then-len-eq0-clause-cells g c =
    let many = length-cells_at _ _ _ _ c.self.invariant in
    let same = ap (λ v. length v.cells) c.self.view_is in
    nil_from_length _ (omega arith) ∙ sym (nil_from_length _ (omega arith))

pub returns-clause-cells : goal.returns-clause-cells
returns-clause-cells g c =
    let a = c.self.inside in
    let xs = a.storage.items.items in
    let beside = c.if-not-is_row_major.ensures.places.0 refl in
    let last = slice-within xs (a.layout.start + (c.size-len.result - 1)) (side-there _ _ _ _ c.self.invariant beside (c.size-len.result - 1) (omega arith)) in
    let start : a.layout.start ≡ 0 = omega arith in
    side-cells _ _ _ _ c.self.invariant beside xs c.size-len.result c.size-len.ensures (omega arith) (λ k lt. ap (slice_get xs) (let e : k ≡ a.layout.start + k = omega arith in e)) ∙ ap (λ v. v.cells) c.self.view_is
