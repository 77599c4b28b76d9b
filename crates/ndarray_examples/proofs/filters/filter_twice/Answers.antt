use Rattle.ndarray.proofs.Common.{◌≡◌, ◌∙◌, ap, length, one_axis, filters-same, full-made, valid-made}
use Rattle.ndarray_examples.specs.Filters.{convolved_residues, filtered_residues}
use Rattle.residue.specs.Residue.{modulus_pos, residue_products, residue_sums}
use Rattle.ndarray_examples.proofs.filters.filter_twice.Goals as goal

pub returns-clause-same : goal.returns-clause-same
returns-clause-same c =
    filters-same _ c.conv_filters.ensures.lists (λ a b e. e) c.args.signal.now c.args.first.now c.args.second.now c.in_ok-once.once c.in_ok-twice.twice c.in_ok-kernel.kernel c.in_ok-direct.direct
    c.raw_dim.ensures.axes c.raw_dim.ensures.whole c.raw_dim-2.ensures.axes c.raw_dim-2.ensures.whole c.raw_dim-3.ensures.axes c.raw_dim-3.ensures.whole c.requires.first c.requires.second
    c.in_ok-once.ensures.made c.in_ok-twice.ensures.made c.in_ok-kernel.ensures.made c.in_ok-direct.ensures.made

pub returns-clause-twice : goal.returns-clause-twice
returns-clause-twice c =
    let h = c.in_ok-once.ensures.made in
    let k = c.in_ok-twice.ensures.made in
    let second = c.args.second.now in
    let once : c.in_ok-once.once ≡ one_axis (filtered_residues c.args.signal.now.cells c.args.first.now.cells) =
    valid-made (residue_sums 5 (modulus_pos 5)) (residue_products 5 (modulus_pos 5)) c.args.signal.now c.args.first.now c.in_ok-once.once c.raw_dim.ensures.axes c.raw_dim.ensures.whole c.raw_dim-2.ensures.axes c.raw_dim-2.ensures.whole h.lengths h.whole h.cells in
    valid-made (residue_sums 5 (modulus_pos 5)) (residue_products 5 (modulus_pos 5)) c.in_ok-once.once second c.in_ok-twice.twice (ap (λ w. length w.lengths) once) h.whole c.raw_dim-3.ensures.axes c.raw_dim-3.ensures.whole k.lengths k.whole k.cells
    ∙ ap (λ w. one_axis (filtered_residues w.cells second.cells)) once

pub returns-clause-once : goal.returns-clause-once
returns-clause-once c =
    let h = c.in_ok-kernel.ensures.made in
    let k = c.in_ok-direct.ensures.made in
    let signal = c.args.signal.now in
    let kernel : c.in_ok-kernel.kernel ≡ one_axis (convolved_residues c.args.first.now.cells c.args.second.now.cells) = full-made (residue_sums 5 (modulus_pos 5)) (residue_products 5 (modulus_pos 5)) c.args.first.now.cells c.args.second.now.cells c.in_ok-kernel.kernel h.lengths h.whole h.cells in
    valid-made (residue_sums 5 (modulus_pos 5)) (residue_products 5 (modulus_pos 5)) signal c.in_ok-kernel.kernel c.in_ok-direct.direct c.raw_dim.ensures.axes c.raw_dim.ensures.whole (ap (λ w. length w.lengths) kernel) h.whole k.lengths k.whole k.cells
    ∙ ap (λ w. one_axis (filtered_residues signal.cells w.cells)) kernel
