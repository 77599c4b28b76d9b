use Rattle.std.proofs.Common.{rules}
use Rattle.ndarray.proofs.parts.FoldedSums.{folded-value, sums-by_parts}
use Rattle.ndarray.proofs.reduce.totals.total_of.Goals as goal

pub unrolled_fold-requires-clause-parts : goal.unrolled_fold-requires-clause-parts
unrolled_fold-requires-clause-parts g c =
    let v = g.T.TotalOperation in
    sums-by_parts v.operation v.InRange v.meaning _ _ _
    (λ z s. search rules)
    (λ a b p. search rules)
    (λ a b p. let k = g.met.T.TotalOperation.has_total a b p in let m = k.1 in (k.0, search rules))
    (λ a b r p k. search rules)
    g.met.T.TotalOperation.same_meaning
    c.args.cells.now c.requires

pub returns : goal.returns
returns g c =
    let v = g.T.TotalOperation in
    let (z, (s, f)) = c.unrolled_fold.ensures in
    folded-value v.operation v.InRange v.meaning _ c.args.cells.now c.requires z c.unrolled_fold.result f (search rules) (λ a b r p k. search rules)
