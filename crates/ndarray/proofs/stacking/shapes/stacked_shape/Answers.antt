use Rattle.std.proofs.Common.{◌≡◌, ◌<◌, ◌≤◌, ◌∙◌, ℕ, List, Bool, Some, ap, sym, subst, arith, length, insert, set, refl}
use Rattle.std.specs.List.{list_all}
use Rattle.std.proofs.lemmas.Bool.{false≢true}
use Rattle.std.proofs.lemmas.List.Edits.{length-insert}
use Rattle.ndarray.specs.Grid.{same_index}
use Rattle.ndarray.specs.Joining.{shapes_of}
use Rattle.ndarray.specs.Limits.{IsWithinLimit}
use Rattle.ndarray.specs.stacking.Blocks.{outer_lengths}
use Rattle.ndarray.proofs.joining.Errors.{set-inserted, stack-differs, stack-joins, stack-many, stack-outside, stack-overflow}
use Rattle.ndarray.proofs.stacking.shapes.stacked_shape.Goals as goal
use Rattle.ndarray.proofs.stacking.shapes.stacked_shape.Goals.{After-raw_dim-first, After-set_axis}

-- where a length may be inserted, there is one afterwards
below-inserted : (ns ms : List ℕ) (axis n : ℕ) → axis ≤ n → n ≡ length ns → ms ≡ insert ns axis 1 → axis < length ms
below-inserted ns ms axis n most axes made =
    let within : axis ≤ length ns = omega arith in
    let more = length-insert ns axis 1 within in
    rw made (omega arith)

module _ (g : _) (c : After-raw_dim-first g) where
  -- the lengths of the first array
  abbrev ns : List ℕ
  ns = c.in-Some.first.now.lengths

  own : g.D.Lengths.numbers c.raw_dim-first.result ≡ ns
  own = c.raw_dim-first.ensures.lengths

  -- whether the others have the same
  abbrev same_lengths : Bool
  same_lengths = list_all (same_index ns) (shapes_of c.in-Some.others.now)

  tested : list_all (same_index (g.D.Lengths.numbers c.raw_dim-first.result)) (shapes_of c.in-Some.others.now) ≡ same_lengths
  tested = ap (λ ms. list_all (same_index ms) (shapes_of c.in-Some.others.now)) own

  -- how many axes it has
  axes : (n : ℕ) → n ≡ length (g.D.Lengths.numbers c.raw_dim-first.result) → n ≡ length ns
  axes n e = e ∙ ap length own

-- with an axis put in
inserted : (g : _) (c : After-set_axis g) → c.args.axis.0 ≤ length c.in-Some.first.now.lengths
    → g.D.Larger.Lengths.numbers c.set_axis.new.self ≡ insert c.in-Some.first.now.lengths c.args.axis.0 (length c.args.arrays.now)
inserted g c most =
    c.set_axis.ensures
    ∙ (ap (λ l. set l c.args.axis.0 (length c.args.arrays.now)) (c.insert_axis-dim.ensures ∙ ap (λ ms. insert ms c.args.axis.0 1) c.raw_dim-first.ensures.lengths)
    ∙ set-inserted c.in-Some.first.now.lengths c.args.axis.0 1 (length c.args.arrays.now) most)

pub insert_axis-dim-requires-clause-axis_at_most : goal.insert_axis-dim-requires-clause-axis_at_most
insert_axis-dim-requires-clause-axis_at_most g c = subst (λ n. c.args.axis.0 ≤ n) c.ndim.ensures.value c.if-axis-ndim.false

pub insert_axis-dim-requires-clause-room : goal.insert_axis-dim-requires-clause-room
insert_axis-dim-requires-clause-room g c = subst (λ n. n < 32) c.ndim-2.ensures.value c.if-ndim-ge32.false

pub set_axis-requires : goal.set_axis-requires
set_axis-requires g c = below-inserted _ _ c.args.axis.0 _ c.if-axis-ndim.false c.ndim.ensures.value c.insert_axis-dim.ensures

pub outer_dim-outer-requires : goal.outer_dim-outer-requires
outer_dim-outer-requires g c = subst (λ n. c.args.axis.0 ≤ n) c.ndim.ensures.value c.if-axis-ndim.false

pub returns-then-axis-ndim : goal.returns-then-axis-ndim
returns-then-axis-ndim g c =
    let out = subst (λ n. n < c.args.axis.0) (axes g (goal.at.returns-then-axis-ndim g c).After-raw_dim-first _ c.ndim.ensures.value) c.if-axis-ndim.true in
    stack-outside c.args.axis.0 c.args.arrays.now c.in-Some.first.now c.in-Some.others.now c.in-Some.ensures.cases.0 out ∙ ap (λ e. Some e.kind) (sym c.from_kind-then-axis-ndim.ensures)

pub returns-then-not-are_same : goal.returns-then-not-are_same
returns-then-not-are_same g c =
    let most = subst (λ n. c.args.axis.0 ≤ n) (axes g (goal.at.returns-then-not-are_same g c).After-raw_dim-first _ c.ndim.ensures.value) c.if-axis-ndim.false in
    stack-differs c.args.axis.0 c.args.arrays.now c.in-Some.first.now c.in-Some.others.now c.in-Some.ensures.cases.0 most (sym (tested g (goal.at.returns-then-not-are_same g c).After-raw_dim-first) ∙ sym c.if-not-are_same.ensures.value) ∙ ap (λ e. Some e.kind) (sym c.from_kind-then-not-are_same.ensures)

pub returns-then-ndim-ge32 : goal.returns-then-ndim-ge32
returns-then-ndim-ge32 g c =
    let most = subst (λ n. c.args.axis.0 ≤ n) (axes g (goal.at.returns-then-ndim-ge32 g c).After-raw_dim-first _ c.ndim.ensures.value) c.if-axis-ndim.false in
    let many = subst (λ n. 32 ≤ n) (axes g (goal.at.returns-then-ndim-ge32 g c).After-raw_dim-first _ c.ndim-2.ensures.value) c.if-ndim-ge32.true in
    stack-many c.args.axis.0 c.args.arrays.now c.in-Some.first.now c.in-Some.others.now c.in-Some.ensures.cases.0 most (sym (tested g (goal.at.returns-then-ndim-ge32 g c).After-raw_dim-first) ∙ sym c.if-not-are_same.ensures.value) many ∙ ap (λ e. Some e.kind) (sym c.from_kind-then-ndim-ge32.ensures)

pub returns-then-not-size_ok : goal.returns-then-not-size_ok
returns-then-not-size_ok g c =
    let most = subst (λ n. c.args.axis.0 ≤ n) (axes g (goal.at.returns-then-not-size_ok g c).After-raw_dim-first _ c.ndim.ensures.value) c.if-axis-ndim.false in
    let few = subst (λ n. n < 32) (axes g (goal.at.returns-then-not-size_ok g c).After-raw_dim-first _ c.ndim-2.ensures.value) c.if-ndim-ge32.false in
    stack-overflow c.args.axis.0 c.args.arrays.now c.in-Some.first.now c.in-Some.others.now c.in-Some.ensures.cases.0 most (sym (tested g (goal.at.returns-then-not-size_ok g c).After-raw_dim-first) ∙ sym c.if-not-are_same.ensures.value) few
    (λ limit. false≢true (c.if-not-size_ok.ensures.1 (subst IsWithinLimit (sym (inserted g (goal.at.returns-then-not-size_ok g c).After-set_axis most)) limit)))
    ∙ ap (λ e. Some e.kind) (sym c.from_kind-then-not-size_ok.ensures)

pub returns : goal.returns
returns g c =
    let most = subst (λ n. c.args.axis.0 ≤ n) (axes g (goal.at.returns g c).After-raw_dim-first _ c.ndim.ensures.value) c.if-axis-ndim.false in
    stack-joins c.args.axis.0 c.args.arrays.now c.in-Some.first.now c.in-Some.others.now c.in-Some.ensures.cases.0 most (sym (tested g (goal.at.returns g c).After-raw_dim-first) ∙ sym c.if-not-are_same.ensures.value) (subst (λ n. n < 32) (axes g (goal.at.returns g c).After-raw_dim-first _ c.ndim-2.ensures.value) c.if-ndim-ge32.false) _ _
    (c.outer_dim-outer.ensures ∙ ap (outer_lengths c.args.axis.0) (own g (goal.at.returns g c).After-raw_dim-first))
    (inserted g (goal.at.returns g c).After-set_axis most) (c.if-not-size_ok.ensures.0 refl) c.raw_dim-first.ensures.limit c.raw_dim-first.ensures.whole (c.if-not-are_same.ensures.whole refl)
