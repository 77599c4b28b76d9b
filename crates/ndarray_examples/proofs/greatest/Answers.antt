use Rattle.ndarray.proofs.Common.{rules, ◌≡◌, ◌∙◌, Some, ap, subst, max, arith, cell, IsGrid, turns-over-cells}
use Rattle.ndarray_examples.proofs.greatest.Goals as goal

pub returns : goal.returns
returns g c =
    let a = c.args.a.now in
    let first : c.from.result.nested ≡ a = c.from.ensures ∙ c.view.ensures.same in
    let (o, ran) = c.fold.ensures.ran in
    let (last, turns) = ran in
    turns-over-cells a (subst IsGrid c.view.ensures.same c.view.ensures.whole) _ _ max (λ b x y. omega arith)
    (λ b i q t.
    let there : cell a i ≡ Some t.0.now = rw first at t.1 in
    let answer : q.1 ≡ max b t.0.now = search (rules, t.2) in
    (t.0.now, there, search rules, answer))
    _ _ _ _ (ap (λ v. v.lengths) first) turns
