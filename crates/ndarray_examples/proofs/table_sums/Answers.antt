use Rattle.ndarray.proofs.Common.{◌≡◌, ◌∙◌, refl, subst, sym, size, if_ok-both, can-combine, combine-follows, lengths-same}
use Rattle.ndarray_examples.specs.Callers.{sum_at}
use Rattle.ndarray_examples.proofs.table_sums.Goals as goal

pub add-requires : goal.add-requires
add-requires c = (can-combine _ _ c.raw_dim.ensures.whole c.raw_dim-2.ensures.whole c.requires.same _ c.raw_dim.ensures.limit c.requires.fits, λ x y e. e, λ x y e. e)

pub returns-clause-sums : goal.returns-clause-sums
returns-clause-sums c =
    if_ok-both c.add.result _ _ _
    (λ r made same.
    combine-follows _ _ c.raw_dim.ensures.whole c.raw_dim-2.ensures.whole c.requires.same _ r (sum_at c.args.a.now c.args.b.now)
    (λ is x y z left right given. given ∙ rw (left, right) refl) made)
    c.add.ensures.made c.add.ensures.made

pub returns-clause-empty : goal.returns-clause-empty
returns-clause-empty c none =
    c.add.ensures.empty (subst (λ ns. size ns ≡ 0) (sym (lengths-same _ _ c.raw_dim.ensures.whole c.raw_dim-2.ensures.whole c.requires.same)) none)
