use Rattle.std.proofs.Common.{◌∙◌, ap, sym}
use Rattle.ndarray.specs.Index.{size}
use Rattle.ndarray.proofs.linalg.products.ArrayBaseIx1Dot.dot.Goals as goal

pub inner-requires-clause-same : goal.inner-requires-clause-same
inner-requires-clause-same g c κs within =
    c.view.ensures.whole ∙ (ap (λ w. size w.lengths) c.view.ensures.same ∙ (ap size c.requires.0 ∙ (sym (ap (λ w. size w.lengths) c.view-2.ensures.same) ∙ sym c.view-2.ensures.whole)))
