use Rattle.ndarray.proofs.Common.{rules, ◌≡◌, ◌∙◌, arith, subst, sym, size, IsWithinLimit, op_unit, if_ok-both, can-combine, lengths-same, parts-combine, parts-same}
use Rattle.ndarray_examples.proofs.MadeTriangles.{parts-made}
use Rattle.residue.specs.Residue.{modulus_pos, residue_sums}
use Rattle.ndarray_examples.proofs.laws.sum_of_triangles.Goals as goal

pub add-requires : goal.add-requires
add-requires g c =
    let m = c.args.matrix.now in
    let zero = (residue_sums 5 (modulus_pos 5)).unit in
    let two = c.raw_dim-lengths.ensures.axes in
    let parts = parts-made zero c.args.k m c.in_ok-upper.upper c.in_ok-lower.lower (search rules) (search rules) (c.triangles_part.ensures.cells c.args.k zero m c.raw_dim-lengths.ensures.whole (omega (arith, two))) in
    let limit : IsWithinLimit c.in_ok-upper.upper.lengths = subst IsWithinLimit (sym parts.upper_lengths) c.raw_dim-lengths.ensures.limit in (
      can-combine _ _ parts.upper_whole parts.lower_whole (parts-same zero m _ _ parts) _ limit (λ is x y p q. tt),
      λ x y e. e,
      λ x y e. e,
    )

pub returns-clause-same : goal.returns-clause-same
returns-clause-same g c =
    let m = c.args.matrix.now in
    let zero = (residue_sums 5 (modulus_pos 5)).unit in
    let two = c.raw_dim-lengths.ensures.axes in
    let parts = parts-made zero c.args.k m c.in_ok-upper.upper c.in_ok-lower.lower (search rules) (search rules) (c.triangles_part.ensures.cells c.args.k zero m c.raw_dim-lengths.ensures.whole (omega (arith, two))) in
    if_ok-both c.add.result _ _ _
    (λ r made again.
    parts-combine zero m c.in_ok-upper.upper c.in_ok-lower.lower parts c.raw_dim-lengths.ensures.whole (λ x y z. z ≡ (residue_sums 5 (modulus_pos 5)).op x y)
    (λ x z given. given ∙ op_unit (residue_sums 5 (modulus_pos 5)) x) (λ x z given. given ∙ (residue_sums 5 (modulus_pos 5)).unit_op x) r made)
    c.add.ensures.made c.add.ensures.made

pub returns-clause-empty : goal.returns-clause-empty
returns-clause-empty g c none =
    let m = c.args.matrix.now in
    let zero = (residue_sums 5 (modulus_pos 5)).unit in
    let two = c.raw_dim-lengths.ensures.axes in
    let parts = parts-made zero c.args.k m c.in_ok-upper.upper c.in_ok-lower.lower (search rules) (search rules) (c.triangles_part.ensures.cells c.args.k zero m c.raw_dim-lengths.ensures.whole (omega (arith, two))) in
    c.add.ensures.empty (subst (λ ns. size ns ≡ 0) (sym (lengths-same _ _ parts.upper_whole parts.lower_whole (parts-same zero m _ _ parts) ∙ parts.upper_lengths)) none)
