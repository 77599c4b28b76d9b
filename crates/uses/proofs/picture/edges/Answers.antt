use Rattle.ndarray.proofs.Common.{rules, ℤ, ap, min, pos, unsigned_abs, subst}
use Rattle.uses.specs.Picture.{HasInnerPixels, edge_kernel, edge_pixel, filtered_pixel}
use Rattle.uses.proofs.Pictures.{edge-sum, inner-pixels}
use Rattle.uses.proofs.picture.edges.Goals as goal

pub returns-clause-pixels : goal.returns-clause-pixels
returns-clause-pixels g c =
    let image = c.args.image.now in
    let sums = c.in-Some.sums in
    let f : ℤ → ℤ = λ s. pos (min (unsigned_abs s) 255) in
    let filtered : HasInnerPixels image (filtered_pixel image edge_kernel) sums = subst (λ k. HasInnerPixels image (filtered_pixel image k) sums) c.kernel.ensures.value (search rules) in
    inner-pixels image edge_kernel sums c.in_ok-edges.edges f (edge_pixel image) _ filtered (λ r c. ap f (edge-sum image r c)) (λ x z call. search (rules, call)) c.in_ok-edges.ensures.cells
