use Rattle.ndarray.proofs.Common.{◌≡◌, ◌+◌, ◌*◌, ◌<◌, ◌^◌, ◌++◌, ◌∷◌, ◌∙◌, ap, rules, arith, sum_by, box_in, fold-follows, may-follow}
use Rattle.ndarray_examples.specs.PairedProducts.{product_at}
use Rattle.ndarray_examples.proofs.PairedProducts.{product-of_cells, sum-part, sum-in_either_order}
use Rattle.ndarray_examples.proofs.walks.sum_of_products.Goals as goal

pub fold-requires : goal.fold-requires
fold-requires g c =
    let f = product_at c.args.a.now c.args.b.now in
    let first : c.and.result.nested.first ≡ c.args.a.now = c.and.ensures.before ∙ c.from.ensures in
    let second : c.and.result.nested.second ≡ c.args.b.now = c.and.ensures.last in
    record {
      callable = λ o. may-follow _ _ (λ a i. a + f i)
          (λ b i q t.
          let m = product-of_cells _ _ i t.0.0.now t.0.1.now (rw first at t.1.0) (rw second at t.1.1) in
          let e : q.1 ≡ b + t.0.0.now * t.0.1.now = search (rules, t.2) in
          (search rules, cc))
          _ _ _
          (λ done i rest e t s.
          let w : done ++ (i ∷ rest) ≡ box_in o c.args.a.now.lengths = e ∙ ap (λ k. box_in o k.lengths) first in
          let p = sum-part f done i rest in
          let q = ap (sum_by f) w ∙ sum-in_either_order f o c.args.a.now.lengths in
          let m = product-of_cells _ _ i t.0.now t.1.now (rw first at s.0) (rw second at s.1) in
          let k : sum_by f done + t.0.now * t.1.now < 2 ^ 64 = omega (arith, c.requires.fits) in
          search (rules, k));
    }

pub returns : goal.returns
returns g c =
    let f = product_at c.args.a.now c.args.b.now in
    let first : c.and.result.nested.first ≡ c.args.a.now = c.and.ensures.before ∙ c.from.ensures in
    let second : c.and.result.nested.second ≡ c.args.b.now = c.and.ensures.last in
    let (o, (last, r)) = c.fold.ensures.ran in
    fold-follows _ _ (λ a i. a + f i)
    (λ b i q t.
    let m = product-of_cells _ _ i t.0.0.now t.0.1.now (rw first at t.1.0) (rw second at t.1.1) in
    let e : q.1 ≡ b + t.0.0.now * t.0.1.now = search (rules, t.2) in
    (search rules, cc))
    _ _ _ r
    ∙ ap (λ k. sum_by f (box_in o k.lengths)) first
    ∙ sum-in_either_order f o c.args.a.now.lengths
