use Rattle.ndarray.proofs.Common.{rules, ℤ, ap, int_div, pos, subst}
use Rattle.uses.specs.Picture.{HasInnerPixels, blur_kernel, filtered_pixel, mean_pixel}
use Rattle.uses.proofs.Pictures.{blur-sum, inner-pixels}
use Rattle.uses.proofs.picture.blur.Goals as goal

pub returns-clause-pixels : goal.returns-clause-pixels
returns-clause-pixels g c =
    let image = c.args.image.now in
    let sums = c.in-Some.sums in
    let f : ℤ → ℤ = λ s. int_div s (pos 9) in
    let filtered : HasInnerPixels image (filtered_pixel image blur_kernel) sums = subst (λ k. HasInnerPixels image (filtered_pixel image k) sums) c.kernel.ensures.value (search rules) in
    inner-pixels image blur_kernel sums c.in_ok-means.means f (mean_pixel image) _ filtered (λ r c. ap f (blur-sum image r c)) (λ x z call. search (rules, call)) c.in_ok-means.ensures.cells
