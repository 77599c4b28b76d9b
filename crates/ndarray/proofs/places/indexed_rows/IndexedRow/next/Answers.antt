use Rattle.std.proofs.Common.{sym, ◌∙◌, ap, arith, length, set, zip, ◌∷◌, [], ◌≡◌, ◌+◌, ◌-◌, ◌%◌, ◌^◌}
use Rattle.std.proofs.lemmas.List.{nil_from_length, set_past}
use Rattle.ndarray.specs.base.Strided.{places_from}
use Rattle.ndarray.specs.base.Ranks.{row_from}
use Rattle.ndarray.proofs.strides.Rows.{length-indexed_row, indexed_row-next}
use Rattle.ndarray.proofs.places.indexed_rows.IndexedRow.next.Goals as goal
use Rattle.ndarray.proofs.places.indexed_rows.IndexedRow.next.Goals.{then-self-ndim, else-self-ndim}

pub returns-then-self-eq0 : goal.returns-then-self-eq0
returns-then-self-eq0 g c =
    let e : c.args.self.now ≡ [] = nil_from_length _ (sym (ap length c.self.view_is) ∙ (length-indexed_row _ _ _ _ _ ∙ c.if-self-eq0.true)) in
    (e, e)

pub returns : goal.returns
returns g c =
    let axes = g.D.Lengths.numbers in
    let r = c.self.inside in
    let is = axes r.index in
    let n = c.ndim.ensures.value in
    let l = ap length c.copied-index.ensures.value in
    let here : set is r.axis r.next ≡ axes c.if-self-ndim.index = elim c.if-self-ndim.branch [
      | then-self-ndim w ↦ ap (λ js. set js r.axis r.next) (sym c.copied-index.ensures.value) ∙ (sym w.set_axis.ensures ∙ ap axes (sym w.index-is))
      | else-self-ndim w ↦ set_past is r.axis r.next (omega (arith, w.if-self-ndim.false)) ∙ (sym c.copied-index.ensures.value ∙ ap axes (sym w.index-is))
    ] in
    sym c.self.view_is
    ∙ (indexed_row-next is r.axis r.next r.place r.stride r.left (omega (arith, c.if-self-eq0.false))
    ∙ ap (λ js. (js, r.place) ∷ zip (row_from (set is r.axis (r.next + 1)) r.axis (r.left - 1)) (places_from ((r.place + r.stride) % 2 ^ 64) r.stride (r.left - 1))) here)
