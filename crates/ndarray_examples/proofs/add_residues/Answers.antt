use Rattle.ndarray.proofs.Common.{can-combine, lengths-same}
use Rattle.ndarray_examples.proofs.add_residues.Goals as goal

pub add-requires : goal.add-requires
add-requires g c = (can-combine _ _ c.raw_dim.ensures.whole c.raw_dim-2.ensures.whole c.requires _ c.raw_dim.ensures.limit (λ is x y left right. tt), λ x y e. e, λ x y e. e)

pub returns-clause-ok : goal.returns-clause-ok
returns-clause-ok g c = c.add.ensures.in_place (lengths-same _ _ c.raw_dim.ensures.whole c.raw_dim-2.ensures.whole c.requires) (λ x. tt) (λ y. tt)
