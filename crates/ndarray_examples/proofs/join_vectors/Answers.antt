use Rattle.ndarray.proofs.Common.{◌≡◌, ◌∙◌, ◌∷◌, ◌++◌, [], ap, length, IsGrid, one_axis, concatenate_error, shapes_of, shape_error, if_ok-both, if_ok-unless, two-joined}
use Rattle.ndarray.specs.declared.stacking.error.StackError.TheVariants.{Shape}
use Rattle.ndarray_examples.proofs.join_vectors.Goals as goal

pub returns : goal.returns
returns g c =
    let a = c.view.result in
    let b = c.view-2.result in
    if_ok-unless c.concatenate.result (concatenate_error 0 (shapes_of (a ∷ b ∷ []))) (λ k. Shape (shape_error k)) _ c.concatenate.ensures.errors
    (λ none.
    if_ok-both c.concatenate.result _ (λ r. (length r.lengths ≡ 1) × IsGrid r) _
    (λ r cells known.
    two-joined a b r c.view.ensures.whole c.view-2.ensures.whole none cells known.0 known.1
    ∙ ap one_axis (ap (λ h. h.cells ++ b.cells) c.view.ensures.same ∙ ap (λ h. c.args.first.now.cells ++ h.cells) c.view-2.ensures.same))
    c.concatenate.ensures.cells
    (if_ok-both c.concatenate.result _ _ _ (λ r axes whole. (axes, whole)) c.concatenate.ensures.axes c.concatenate.ensures.whole))
