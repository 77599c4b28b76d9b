use Rattle.std.proofs.Common.{◌∷◌, [], ◌∙◌, ℕ, length, rules, subst, sym, ◌≡◌}
use Rattle.std.specs.Prelude.{slice_index}
use Rattle.ndarray.specs.Convolution.{convolution_products, full_length}
use Rattle.ndarray.specs.Integers.{int_products, int_sums}
use Rattle.ndarray.specs.Sums.{total}
use Rattle.ndarray.proofs.callers.Elementwise.{array_by-follows}
use Rattle.ndarray.proofs.convolution.OneAxis.{array_by-one}
use Rattle.ndtables.specs.Convolving.{IsFullConvolution}
use Rattle.ndtables.proofs.convolving.full_convolution.Goals as goal

pub returns-clause-sums : goal.returns-clause-sums
returns-clause-sums c =
    let x = c.in-Ok.x in
    let y = c.in-Ok-into_dimensionality.y in
    let sums = c.in_ok-sums.sums in
    let made = c.in_ok-sums.ensures.made in
    let n = full_length (length x.cells) (length y.cells) in
    let at = λ (s : ℕ). total int_sums (convolution_products int_products (λ z. z) x.cells y.cells s) in
    let of_vectors : IsFullConvolution x y sums = record {
      shape = (c.in-Ok.ensures.axes, c.in-Ok-into_dimensionality.ensures.axes, search rules);
      fits = search rules;
      cells = array_by-follows sums (n ∷ []) (λ is. at (slice_index is 0)) made.whole made.lengths made.cells ∙ array_by-one at n;
    } in
    let dynamic : sums ≡ c.unwrap.result = sym (rw c.unwrap.ensures at c.into_dimensionality-3.ensures.value) in
    subst (IsFullConvolution c.args.left.now c.args.right.now) dynamic
    (subst (λ g. IsFullConvolution g c.args.right.now sums) (c.in-Ok.ensures.value ∙ c.view.ensures.same)
    (subst (λ h. IsFullConvolution x h sums) (c.in-Ok-into_dimensionality.ensures.value ∙ c.view-2.ensures.same) of_vectors))
