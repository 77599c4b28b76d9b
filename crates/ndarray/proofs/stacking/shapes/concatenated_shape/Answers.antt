use Rattle.std.proofs.Common.{◌≡◌, ◌<◌, ◌≤◌, ◌∙◌, Some, ap, sym, subst, inl, inr, arith, length, set, refl}
use Rattle.std.specs.Prelude.{slice_index, sum_by}
use Rattle.std.specs.List.{list_all}
use Rattle.std.proofs.Math.Nat.{le_of_lt}
use Rattle.std.proofs.lemmas.Bool.{cases_lt, false≢true}
use Rattle.ndarray.specs.Joining.{is_same_but_along, shapes_of}
use Rattle.ndarray.specs.Limits.{IsWithinLimit}
use Rattle.ndarray.specs.stacking.Blocks.{outer_lengths}
use Rattle.ndarray.proofs.joining.Errors.{axes-below, concatenate-differs, concatenate-joins, concatenate-outside, concatenate-overflow, too-long}
use Rattle.ndarray.proofs.stacking.shapes.concatenated_shape.Goals as goal
use Rattle.ndarray.proofs.stacking.shapes.concatenated_shape.Goals.{After-raw_dim-first, After-set_axis}

-- whether the others have the same lengths but along the axis
tested : (g : _) (c : After-raw_dim-first g) → list_all (is_same_but_along c.args.axis.0 (g.D.Lengths.numbers c.raw_dim-first.result)) (shapes_of c.in-Some.others.now) ≡ list_all (is_same_but_along c.args.axis.0 c.in-Some.first.now.lengths) (shapes_of c.in-Some.others.now)
tested g c = ap (λ ms. list_all (is_same_but_along c.args.axis.0 ms) (shapes_of c.in-Some.others.now)) c.raw_dim-first.ensures.lengths

-- the lengths of the result
joined-lengths : (g : _) (c : After-set_axis g) → g.D.Lengths.numbers c.set_axis.new.self ≡ set c.in-Some.first.now.lengths c.args.axis.0 (sum_by (λ ms. slice_index ms c.args.axis.0) (shapes_of c.args.arrays.now))
joined-lengths g c = c.set_axis.ensures ∙ (ap (λ l. set l c.args.axis.0 c.in-Some-total_len.len) (c.copied-dim.ensures.value ∙ c.raw_dim-first.ensures.lengths) ∙ ap (set c.in-Some.first.now.lengths c.args.axis.0) c.in-Some-total_len.ensures)

pub returns-then-not-axis_ok : goal.returns-then-not-axis_ok
returns-then-not-axis_ok g c =
    let out : length c.in-Some.first.now.lengths ≤ c.args.axis.0 = elim (cases_lt c.args.axis.0 (length c.in-Some.first.now.lengths)) [ inl lt ↦ absurd (false≢true (c.if-not-axis_ok.ensures.1 lt)) | inr ge ↦ ge ] in
    concatenate-outside c.args.axis.0 c.args.arrays.now c.in-Some.first.now c.in-Some.others.now c.in-Some.ensures.cases.0 out ∙ ap (λ e. Some e.kind) (sym c.from_kind-then-not-axis_ok.ensures)

pub are_same_but_along-requires : goal.are_same_but_along-requires
are_same_but_along-requires g c = subst (λ ns. c.args.axis.0 < length ns) (sym c.raw_dim-first.ensures.lengths) (c.if-not-axis_ok.ensures.0 refl)

pub returns-then-not-are_same_but_along : goal.returns-then-not-are_same_but_along
returns-then-not-are_same_but_along g c =
    let below : c.args.axis.0 < length c.in-Some.first.now.lengths = c.if-not-axis_ok.ensures.0 refl in
    let differ = sym (tested g (goal.at.returns-then-not-are_same_but_along g c).After-raw_dim-first) ∙ sym c.if-not-are_same_but_along.ensures.value in
    concatenate-differs c.args.axis.0 c.args.arrays.now c.in-Some.first.now c.in-Some.others.now c.in-Some.ensures.cases.0 below differ ∙ ap (λ e. Some e.kind) (sym c.from_kind-then-not-are_same_but_along.ensures)

pub total_len-requires : goal.total_len-requires
total_len-requires g c =
    let below : c.args.axis.0 < length c.in-Some.first.now.lengths = c.if-not-axis_ok.ensures.0 refl in
    let same = sym (tested g (goal.at.total_len-requires g c).After-raw_dim-first) ∙ sym c.if-not-are_same_but_along.ensures.value in
    axes-below c.args.axis.0 c.args.arrays.now c.in-Some.first.now c.in-Some.others.now c.in-Some.ensures.cases.0 below same

pub returns-in_default-total_len : goal.returns-in_default-total_len
returns-in_default-total_len g c =
    let below : c.args.axis.0 < length c.in-Some.first.now.lengths = c.if-not-axis_ok.ensures.0 refl in
    let same = sym (tested g (goal.at.returns-in_default-total_len g c).After-raw_dim-first) ∙ sym c.if-not-are_same_but_along.ensures.value in
    let much = rw c.in_default-total_len.is at c.total_len.ensures in
    concatenate-overflow c.args.axis.0 c.args.arrays.now c.in-Some.first.now c.in-Some.others.now c.in-Some.ensures.cases.0 below same
    (too-long c.in-Some.first.now.lengths c.args.axis.0 _ below (omega (arith, much)))
    ∙ ap (λ e. Some e.kind) (sym c.from_kind-in_default-total_len.ensures)

pub set_axis-requires : goal.set_axis-requires
set_axis-requires g c = subst (λ ns. c.args.axis.0 < length ns) (sym (c.copied-dim.ensures.value ∙ c.raw_dim-first.ensures.lengths)) (c.if-not-axis_ok.ensures.0 refl)

pub returns-then-not-size_ok : goal.returns-then-not-size_ok
returns-then-not-size_ok g c =
    let below : c.args.axis.0 < length c.in-Some.first.now.lengths = c.if-not-axis_ok.ensures.0 refl in
    let same = sym (tested g (goal.at.returns-then-not-size_ok g c).After-raw_dim-first) ∙ sym c.if-not-are_same_but_along.ensures.value in
    concatenate-overflow c.args.axis.0 c.args.arrays.now c.in-Some.first.now c.in-Some.others.now c.in-Some.ensures.cases.0 below same
    (λ limit. false≢true (c.if-not-size_ok.ensures.1 (subst IsWithinLimit (sym (joined-lengths g (goal.at.returns-then-not-size_ok g c).After-set_axis)) limit)))
    ∙ ap (λ e. Some e.kind) (sym c.from_kind-then-not-size_ok.ensures)

pub outer_dim-outer-requires : goal.outer_dim-outer-requires
outer_dim-outer-requires g c = le_of_lt (subst (λ ns. c.args.axis.0 < length ns) (sym c.raw_dim-first.ensures.lengths) (c.if-not-axis_ok.ensures.0 refl))

pub returns : goal.returns
returns g c =
    let below : c.args.axis.0 < length c.in-Some.first.now.lengths = c.if-not-axis_ok.ensures.0 refl in
    let same = sym (tested g (goal.at.returns g c).After-raw_dim-first) ∙ sym c.if-not-are_same_but_along.ensures.value in
    concatenate-joins c.args.axis.0 c.args.arrays.now c.in-Some.first.now c.in-Some.others.now c.in-Some.ensures.cases.0 below same _ _
    (c.outer_dim-outer.ensures ∙ ap (outer_lengths c.args.axis.0) c.raw_dim-first.ensures.lengths)
    (joined-lengths g (goal.at.returns g c).After-set_axis) (c.if-not-size_ok.ensures.0 refl) c.raw_dim-first.ensures.limit c.raw_dim-first.ensures.whole (c.if-not-are_same_but_along.ensures.whole refl)
