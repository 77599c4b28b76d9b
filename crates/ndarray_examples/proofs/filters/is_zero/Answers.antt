use Rattle.ndarray.proofs.Common.{rules, ◌≡◌, ◌∙◌, pos, true, false, sym, int_eq, Decides-int_eq, not_from_Decides, tested-cells}
use Rattle.ndarray_examples.proofs.filters.is_zero.Goals as goal

pub returns : goal.returns
returns g c =
    let first : c.from.result.nested ≡ c.args.a.now = c.from.ensures ∙ c.view.ensures.same in
    let (o, ran) = c.all.ensures.ran in
    tested-cells _ _ _ _ (λ x. x ≡ pos 0) c.args.a.now c.from.result.nested first o c.all.result ran
    (λ i k turn.
    let answer : true ≡ int_eq turn.0.now (pos 0) = search (rules, turn.2) in
    (search (rules, turn.2), (turn.0.now, turn.1, (Decides-int_eq turn.0.now (pos 0)).0 (sym answer))))
    (λ i stop.
    let answer : false ≡ int_eq stop.0.now (pos 0) = search (rules, stop.2.1.1) in
    (stop.2.0, (stop.0.now, stop.1, not_from_Decides _ (Decides-int_eq stop.0.now (pos 0)) (sym answer))))
    (λ end. end)
