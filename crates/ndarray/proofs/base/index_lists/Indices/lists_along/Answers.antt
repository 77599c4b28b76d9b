use Rattle.std.proofs.Common.{◌≡◌, ◌∙◌, ◌<◌, ◌≤◌, ◌+◌, ◌^◌, get_or, ap, arith, inl, inr, length, subst, sym}
use Rattle.std.specs.Prelude.{All, filter_map}
use Rattle.std.proofs.lemmas.Bool.{cases_lt}
use Rattle.std.proofs.lemmas.List.{get_or_past}
use Rattle.ndarray.specs.Index.{InBox}
use Rattle.ndarray.specs.Grid.{cell}
use Rattle.ndarray.specs.base.IndexLists.{shifted_index}
use Rattle.ndarray.specs.base.Ranks.{row_from}
use Rattle.ndarray.proofs.boxes.Boxes.{InBox-get, InBox-length}
use Rattle.ndarray.proofs.boxes.CountedRows.{counted-own}
use Rattle.ndarray.proofs.boxes.ShiftedBoxes.{shifted_index-length}
use Rattle.ndarray.proofs.boxes.ShiftedRows.{list-room, lists-row}
use Rattle.ndarray.proofs.strides.Rows.{row-first}
use Rattle.ndarray.proofs.base.index_lists.Indices.lists_along.Goals as goal
use Rattle.ndarray.proofs.base.index_lists.Indices.lists_along.Goals.{then-axis-ndim, else-axis-ndim}

pub counted_from-list-requires-clause-as_many : goal.counted_from-list-requires-clause-as_many
counted_from-list-requires-clause-as_many g c =
    let is = g.D.Lengths.numbers c.args.first.now in
    let b = row-first (InBox c.args.self.now.lengths) is c.args.axis c.args.count c.requires.some c.requires.within in
    let l = InBox-length _ _ b in
    let e = ap (λ v. length v.lengths) c.self.view_is in
    let n = c.self.invariant.as_many in
    omega arith

pub counted_from-list-requires-clause-room : goal.counted_from-list-requires-clause-room
counted_from-list-requires-clause-room g c = λ k lt.
    let is = g.D.Lengths.numbers c.args.first.now in
    let b : InBox (g.D.Lengths.numbers c.self.inside.dim) is = subst (λ v. InBox v.lengths is) (sym c.self.view_is) (row-first (InBox c.args.self.now.lengths) is c.args.axis c.args.count c.requires.some c.requires.within) in
    let l = InBox-length _ _ b in
    let i = InBox-get _ _ k b (omega arith) in
    let r = c.self.invariant.room k (omega arith) in
    omega arith

pub invariant_of-result : goal.invariant_of-result
invariant_of-result g c =
    let ss = g.D.Lengths.numbers c.self.inside.start in
    let ns = g.D.Lengths.numbers c.self.inside.dim in
    let is = g.D.Lengths.numbers c.args.first.now in
    let within : All (InBox ns) (row_from is c.args.axis c.args.count) = subst (λ v. All (InBox v.lengths) (row_from is c.args.axis c.args.count)) (sym c.self.view_is) c.requires.within in
    let l = InBox-length ns is (row-first (InBox ns) is c.args.axis c.args.count c.requires.some within) in
    let room : get_or (shifted_index ss is) c.args.axis 0 + c.args.count ≤ 2 ^ 64 = elim (cases_lt c.args.axis (length ns)) [
      | inl lt ↦ list-room ss ns is c.args.axis c.args.count c.self.invariant.as_many l c.self.invariant.room lt c.requires.some within
      | inr past ↦ (let n = shifted_index-length ss is in let none = get_or_past (shifted_index ss is) c.args.axis 0 (omega arith) in omega arith)
    ] in
    let same = ap (λ js. get_or js c.args.axis 0) c.counted_from-list.ensures in
    elim c.if-axis-ndim.branch [
      | then-axis-ndim w ↦ omega (arith, room, same, w.next-is, w.axis-next.ensures)
      | else-axis-ndim w ↦ omega (arith, w.next-is, c.ranges.count.fits)
    ]

pub returns : goal.returns
returns g c =
    let ns = g.D.Lengths.numbers c.self.inside.dim in
    let is = g.D.Lengths.numbers c.args.first.now in
    let within : All (InBox ns) (row_from is c.args.axis c.args.count) = subst (λ v. All (InBox v.lengths) (row_from is c.args.axis c.args.count)) (sym c.self.view_is) c.requires.within in
    let own : c.args.axis < length (g.D.Lengths.numbers c.counted_from-list.result) → c.if-axis-ndim.next ≡ get_or (g.D.Lengths.numbers c.counted_from-list.result) c.args.axis 0 = λ lt. elim c.if-axis-ndim.branch [
      | then-axis-ndim w ↦ w.next-is ∙ w.axis-next.ensures
      | else-axis-ndim w ↦ absurd (omega (arith, lt, c.ndim.ensures.value, w.if-axis-ndim.false))
    ] in
    counted-own (g.D.Lengths.numbers c.counted_from-list.result) c.args.axis c.args.count c.if-axis-ndim.next own
    ∙ (ap (λ js. row_from js c.args.axis c.args.count) c.counted_from-list.ensures
    ∙ (lists-row (g.D.Lengths.numbers c.self.inside.start) ns is c.args.axis c.args.count within
    ∙ ap (λ v. filter_map (cell v) (row_from is c.args.axis c.args.count)) c.self.view_is))
