use Rattle.std.proofs.Common.{◌≡◌, ◌∙◌, ◌∷◌, ◌+◌, ◌-◌, ◌%◌, ◌^◌, ap, arith, inl, inr, length, set, sym}
use Rattle.std.proofs.Math.Nat.{mod-eq_of_lt}
use Rattle.std.proofs.lemmas.Bool.{cases_lt}
use Rattle.std.proofs.lemmas.List.{set_past}
use Rattle.ndarray.specs.base.Ranks.{row_from}
use Rattle.ndarray.proofs.boxes.CountedRows.{counted-none, counted-row}
use Rattle.ndarray.proofs.base.index_lists.IndexRow.next_list.Goals as goal
use Rattle.ndarray.proofs.base.index_lists.IndexRow.next_list.Goals.{then-self-ndim, else-self-ndim}

pub returns : goal.returns
returns g c =
    let limit = c.self.invariant in
    let n = c.ndim.ensures.value in
    let l = ap length c.copied-list.ensures.value in
    let axes = g.D.Lengths.numbers in
    let r = c.self.inside in
    let is = axes r.list in
    let here : set is r.axis r.next ≡ axes c.if-self-ndim.list = elim c.if-self-ndim.branch [
      | then-self-ndim w ↦ ap (λ js. set js r.axis r.next) (sym c.copied-list.ensures.value) ∙ (sym w.set_axis.ensures ∙ ap axes (sym w.list-is))
      | else-self-ndim w ↦ set_past is r.axis r.next (omega (arith, w.if-self-ndim.false)) ∙ (sym c.copied-list.ensures.value ∙ ap axes (sym w.list-is))
    ] in
    let rest : row_from (set is r.axis (r.next + 1)) r.axis (r.left - 1) ≡ row_from (set is r.axis ((r.next + 1) % 2 ^ 64)) r.axis (r.left - 1) = elim (cases_lt 1 r.left) [
      | inl more ↦ ap (λ k. row_from (set is r.axis k) r.axis (r.left - 1)) (sym (mod-eq_of_lt (omega (arith, limit, more))))
      | inr last ↦ counted-none (set is r.axis (r.next + 1)) (set is r.axis ((r.next + 1) % 2 ^ 64)) r.axis (r.left - 1) (omega (arith, last))
    ] in
    sym c.self.view_is
    ∙ (counted-row is r.axis r.next r.left (omega (arith, c.if-self-eq0.false))
    ∙ (ap (λ js. js ∷ row_from (set is r.axis (r.next + 1)) r.axis (r.left - 1)) here ∙ ap (λ xs. axes c.if-self-ndim.list ∷ xs) rest))
