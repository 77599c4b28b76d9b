use Rattle.ndarray.proofs.Common.{◌∙◌, ◌∷◌, [], ap, get_or, size, transpose, matrix_of, product_of, if_ok-both, transpose-multiplies, transpose-product, transpose-symmetric, made-as}
use Rattle.ndarray_examples.proofs.laws.transpose_times_itself.Goals as goal

pub dot-requires : goal.dot-requires
dot-requires g c =
    let t = c.t in
    transpose-multiplies g.A.Valued c.args.a.now t.result t.ensures.axes t.ensures.value t.ensures.whole c.requires.limit c.requires.sums

pub returns-clause-product : goal.returns-clause-product
returns-clause-product g c =
    let t = c.t in
    let e = g.A.Valued in
    let is = transpose-product e c.args.a.now t.result t.ensures.axes t.ensures.value t.ensures.whole in
    record {
      made = if_ok-both c.dot.result _ _ _ (λ r made again. made-as e (product_of e (matrix_of e t.result) (matrix_of e c.args.a.now)) (product_of e (transpose (matrix_of e c.args.a.now)) (matrix_of e c.args.a.now)) is r made) c.dot.ensures.made c.dot.ensures.made;
      empty = λ none. c.dot.ensures.empty (ap (λ n. size (n ∷ get_or c.args.a.now.lengths 1 0 ∷ [])) is.rows ∙ none);
    }

pub returns-clause-symmetric : goal.returns-clause-symmetric
returns-clause-symmetric g c =
    let t = c.t in
    let e = g.A.Valued in
    let a = c.args.a.now in
    let is = transpose-product e a t.result t.ensures.axes t.ensures.value t.ensures.whole in
    if_ok-both c.dot.result _ _ _
    (λ r made again.
    transpose-symmetric e a t.result t.ensures.axes t.ensures.value t.ensures.whole g.met.A.Valued.same_meaning c.mat_transpose.ensures r
    (made-as e (product_of e (matrix_of e t.result) (matrix_of e a)) (product_of e (transpose (matrix_of e a)) (matrix_of e a)) is r made))
    c.dot.ensures.made c.dot.ensures.made
