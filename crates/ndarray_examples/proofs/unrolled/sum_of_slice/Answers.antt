use Rattle.ndarray.proofs.Common.{◌≡◌, ◌∙◌, ap, rules, folded-value, sums-by_parts}
use Rattle.ndarray_examples.proofs.unrolled.sum_of_slice.Goals as goal

pub unrolled_fold-requires-clause-parts : goal.unrolled_fold-requires-clause-parts
unrolled_fold-requires-clause-parts g c =
    let v = g.A.Valued in
    sums-by_parts v.addition v.InRange v.meaning _ _ _
    (λ z s. let e : z ≡ g.A.Zero.zero = search rules in ap v.meaning e ∙ g.met.A.SumElem.zero_meaning)
    (λ a b p. let k = g.met.A.SumElem.add_in_range a b p in search rules)
    (λ a b p. let k = g.met.A.SumElem.add_answers a b p in let m = k.1 in (k.0, search rules))
    (λ a b r p k. g.met.A.SumElem.add_meaning a b r p (search rules))
    g.met.A.Valued.same_meaning c.args.xs.now c.requires

pub returns : goal.returns
returns g c =
    let v = g.A.Valued in
    let (z, (s, f)) = c.unrolled_fold.ensures in
    let begun : z ≡ g.A.Zero.zero = search rules in
    folded-value v.addition v.InRange v.meaning _ c.args.xs.now c.requires z c.unrolled_fold.result f
    (ap v.meaning begun ∙ g.met.A.SumElem.zero_meaning) (λ a b r p k. g.met.A.SumElem.add_meaning a b r p (search rules))
