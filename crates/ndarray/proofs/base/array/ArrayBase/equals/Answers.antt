use Rattle.std.proofs.Common.{rules, ◌≡◌, ◌∙◌, ℕ, Bool, List, Some, true, false, ap, sym, subst}
use Rattle.std.specs.Prelude.{IsTrue, ◌↔◌}
use Rattle.std.specs.Option.{option_eq}
use Rattle.ndarray.specs.Grid.{cell}
use Rattle.ndarray.specs.Orders.{box_in}
use Rattle.std.specs.List.{list_all}
use Rattle.ndarray.proofs.callers.RowOrder.{list_all-in_row_order}
use Rattle.ndarray.proofs.callers.Testing.{test-follows}
use Rattle.ndarray.proofs.cells.SameArrays.{same-decides, same-tested}
use Rattle.ndarray.proofs.base.array.ArrayBase.equals.Goals as goal

pub returns-clause-value : goal.returns-clause-value
returns-clause-value g c =
    let a = c.args.self.now in
    let b = c.args.other.now in
    let eq = g.A.PartialEq.eq in
    let first : c.and.result.nested.first ≡ a = c.and.ensures.before ∙ c.from.ensures in
    let second : c.and.result.nested.second ≡ b = c.and.ensures.last in
    let same : b.lengths ≡ a.lengths = search rules in
    let test : List ℕ → Bool = λ i. option_eq eq (cell a i) (cell b i) in
    let (o, ran) = c.all.ensures.ran in
    test-follows _ _ _ _ _ test true
    (λ i k turn.
    let left : cell a i ≡ Some turn.0.0.now = rw first at turn.1.0 in
    let right : cell b i ≡ Some turn.0.1.now = rw second at turn.1.1 in
    let equal : true ≡ eq turn.0.0.now turn.0.1.now = search (rules, turn.2) in
    (search (rules, turn.2), (λ j. option_eq eq (left j) (right j)) ∙ sym equal))
    c.all.result
    (λ i stop.
    let left : cell a i ≡ Some stop.0.0.now = rw first at stop.1.0 in
    let right : cell b i ≡ Some stop.0.1.now = rw second at stop.1.1 in
    let differ : false ≡ eq stop.0.0.now stop.0.1.now = search (rules, stop.2.1.1) in
    (stop.2.0, (λ j. option_eq eq (left j) (right j)) ∙ sym differ))
    (λ end. end) ran
    ∙ ap (λ v. list_all test (box_in o v.lengths)) first
    ∙ list_all-in_row_order test o a.lengths
    ∙ same-tested eq a b c.raw_dim.ensures.whole c.raw_dim-2.ensures.whole same

pub returns-clause-decides : goal.returns-clause-decides
returns-clause-decides g c told =
    subst (λ r. IsTrue r ↔ (c.args.self.now ≡ c.args.other.now)) (sym (returns-clause-value g c)) (same-decides g.A.PartialEq.eq told c.args.self.now c.args.other.now)
