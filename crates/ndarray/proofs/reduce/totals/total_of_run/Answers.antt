use Rattle.std.proofs.Common.{◌≡◌, ◌∙◌, ◌<◌, List, [], ◌∷◌, ap, arith, length, map, sym}
use Rattle.std.proofs.lemmas.List.{nil_from_length}
use Rattle.ndarray.proofs.sums.Selections.{IsSummableBy-map, total_by-map}
use Rattle.ndarray.proofs.sums.TwoSums.{TwoSums-can, TwoSums-can_end, TwoSums-can_second, TwoSums-end, TwoSums-first, TwoSums-start, TwoSums-step}
use Rattle.ndarray.proofs.reduce.totals.total_of_run.Goals as goal

-- of fewer than two elements there is none behind the first
last-none : {A C : Type 0} (cells rest : List A) (x : A) (f : A → C) → length cells < 2 → cells ≡ x ∷ rest → map f rest ≡ []
last-none cells rest x f few first = ap (map f) (nil_from_length rest (let all = ap length first in omega (arith, all, few)))

pub loop-x-init : goal.loop-x-init
loop-x-init g c =
    let v = g.T.TotalOperation in
    TwoSums-start v.operation v.InRange (map v.meaning c.args.cells) (v.meaning c.of_none-total.result) (v.meaning c.of_none-others.result) c.of_none-total.ensures c.of_none-others.ensures ((IsSummableBy-map v.operation v.meaning v.InRange c.args.cells).0 c.requires)

pub of_two-total-requires : goal.of_two-total-requires
of_two-total-requires g c =
    let v = g.T.TotalOperation in
    TwoSums-can v.operation v.InRange (map v.meaning c.args.cells) (map v.meaning c.loop-x.cells) (v.meaning c.in-Some-next_two.y.now ∷ map v.meaning c.next_two.new.self) (v.meaning c.in-Some-next_two.x.now) (v.meaning c.loop-x.total) (v.meaning c.loop-x.others)
    (ap (map v.meaning) c.in-Some-next_two.ensures) c.loop-x.invariant

pub of_two-others-requires : goal.of_two-others-requires
of_two-others-requires g c =
    let v = g.T.TotalOperation in
    TwoSums-can_second v.operation v.InRange (map v.meaning c.args.cells) (map v.meaning c.loop-x.cells) (map v.meaning c.next_two.new.self) (v.meaning c.in-Some-next_two.x.now) (v.meaning c.in-Some-next_two.y.now) (v.meaning c.loop-x.total) (v.meaning c.loop-x.others)
    (ap (map v.meaning) c.in-Some-next_two.ensures) c.loop-x.invariant (v.meaning c.of_two-total.result) c.of_two-total.ensures

pub loop-x-preserved : goal.loop-x-preserved
loop-x-preserved g c =
    let v = g.T.TotalOperation in
    TwoSums-step v.operation v.InRange (map v.meaning c.args.cells) (map v.meaning c.loop-x.cells) (map v.meaning c.next_two.new.self) (v.meaning c.in-Some-next_two.x.now) (v.meaning c.in-Some-next_two.y.now) (v.meaning c.loop-x.total) (v.meaning c.loop-x.others)
    (ap (map v.meaning) c.in-Some-next_two.ensures) c.loop-x.invariant (v.meaning c.of_two-total.result) c.of_two-total.ensures (v.meaning c.of_two-others.result) c.of_two-others.ensures

pub of_two-requires : goal.of_two-requires
of_two-requires g c =
    let v = g.T.TotalOperation in
    TwoSums-can v.operation v.InRange (map v.meaning c.args.cells) (map v.meaning c.loop-x.cells) (map v.meaning c.next.new.self) (v.meaning c.in-Some-next.x.now) (v.meaning c.loop-x.total) (v.meaning c.loop-x.others)
    (ap (map v.meaning) (sym c.in_default-next_two.ensures.1 ∙ c.in-Some-next.ensures)) c.loop-x.invariant

pub of_two-requires-in-Some-next : goal.of_two-requires-in-Some-next
of_two-requires-in-Some-next g c =
    let v = g.T.TotalOperation in
    TwoSums-can_end v.operation v.InRange (map v.meaning c.args.cells) (map v.meaning c.next.new.self) (v.meaning c.of_two.result) (v.meaning c.loop-x.others)
    (last-none c.loop-x.cells c.next.new.self c.in-Some-next.x.now v.meaning c.in_default-next_two.ensures.0 (sym c.in_default-next_two.ensures.1 ∙ c.in-Some-next.ensures))
    (TwoSums-first v.operation v.InRange (map v.meaning c.args.cells) (map v.meaning c.loop-x.cells) (map v.meaning c.next.new.self) (v.meaning c.in-Some-next.x.now) (v.meaning c.loop-x.total) (v.meaning c.loop-x.others)
    (ap (map v.meaning) (sym c.in_default-next_two.ensures.1 ∙ c.in-Some-next.ensures)) c.loop-x.invariant (v.meaning c.of_two.result) c.of_two.ensures)

pub of_two-requires-in-None : goal.of_two-requires-in-None
of_two-requires-in-None g c =
    let v = g.T.TotalOperation in
    TwoSums-can_end v.operation v.InRange (map v.meaning c.args.cells) (map v.meaning c.loop-x.cells) (v.meaning c.loop-x.total) (v.meaning c.loop-x.others)
    (ap (map v.meaning) (sym c.in_default-next_two.ensures.1 ∙ c.in-None.ensures.0)) c.loop-x.invariant

pub returns-in-Some-next : goal.returns-in-Some-next
returns-in-Some-next g c =
    let v = g.T.TotalOperation in
    TwoSums-end v.operation v.InRange (map v.meaning c.args.cells) (map v.meaning c.next.new.self) (v.meaning c.of_two.result) (v.meaning c.loop-x.others)
    (last-none c.loop-x.cells c.next.new.self c.in-Some-next.x.now v.meaning c.in_default-next_two.ensures.0 (sym c.in_default-next_two.ensures.1 ∙ c.in-Some-next.ensures))
    (TwoSums-first v.operation v.InRange (map v.meaning c.args.cells) (map v.meaning c.loop-x.cells) (map v.meaning c.next.new.self) (v.meaning c.in-Some-next.x.now) (v.meaning c.loop-x.total) (v.meaning c.loop-x.others)
    (ap (map v.meaning) (sym c.in_default-next_two.ensures.1 ∙ c.in-Some-next.ensures)) c.loop-x.invariant (v.meaning c.of_two.result) c.of_two.ensures)
    (v.meaning c.of_two-in-Some-next.result) c.of_two-in-Some-next.ensures
    ∙ sym (total_by-map v.operation v.meaning c.args.cells)

pub returns-in-None : goal.returns-in-None
returns-in-None g c =
    let v = g.T.TotalOperation in
    TwoSums-end v.operation v.InRange (map v.meaning c.args.cells) (map v.meaning c.loop-x.cells) (v.meaning c.loop-x.total) (v.meaning c.loop-x.others)
    (ap (map v.meaning) (sym c.in_default-next_two.ensures.1 ∙ c.in-None.ensures.0)) c.loop-x.invariant (v.meaning c.of_two-in-None.result) c.of_two-in-None.ensures
    ∙ sym (total_by-map v.operation v.meaning c.args.cells)
