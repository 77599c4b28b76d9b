use Rattle.std.proofs.Common.{◌≡◌, ◌∙◌, ◌+◌, ◌-◌, ap, drop, length, reverse, subst, sym, arith}
use Rattle.std.specs.Prelude.{IsTrue, pos, ◌↔◌}
use Rattle.std.proofs.lemmas.List.{length-reverse, reverse-reverse}
use Rattle.ndarray.specs.Convolution.{convolution_products}
use Rattle.ndarray.specs.Integers.{int_products, int_sums}
use Rattle.ndarray.specs.Products.{magnitude_sum, products_of}
use Rattle.ndarray.specs.Sums.{IsSummable}
use Rattle.ndarray.proofs.convolution.Overlaps.{overlap-products}
use Rattle.ndarray.proofs.conv.overlap_fits.Goals as goal
use Rattle.ndarray.proofs.conv.overlap_fits.Goals.{After-inner_stays_in_range}

module _ (g : _) (c : After-inner_stays_in_range g) where
  products : products_of int_products g.A.Number.value c.cells_of-left.result c.cells_of-right.result ≡ convolution_products int_products g.A.Number.value c.args.x.now.cells (reverse c.args.mirrored.now.cells) c.args.s
  products =
      let times = products_of int_products g.A.Number.value in
      let xs = c.args.x.now.cells in
      let zs = c.args.mirrored.now.cells in
      let m : length (reverse zs) ≡ length zs = length-reverse zs in
      ap (λ l. times l c.cells_of-right.result) (c.cells_of-left.ensures ∙ c.cells_from.ensures ∙ ap (λ k. drop k xs) (let e : c.saturating_sub-first.result ≡ c.args.s + 1 - length (reverse zs) = omega (arith, c.saturating_sub-first.ensures, c.len.ensures.cells) in e))
      ∙ (ap (times (drop (c.args.s + 1 - length (reverse zs)) xs)) (c.cells_of-right.ensures ∙ c.cells_from-2.ensures ∙ (ap (λ k. drop k zs) (let e : c.saturating_sub-first_mirrored.result ≡ length (reverse zs) - (c.args.s + 1) = omega (arith, c.saturating_sub-first_mirrored.ensures, c.len-2.ensures.cells) in e) ∙ ap (drop (length (reverse zs) - (c.args.s + 1))) (sym (reverse-reverse zs))))
      ∙ overlap-products int_products g.A.Number.value xs (reverse zs) c.args.s)

pub returns-clause-magnitudes : goal.returns-clause-magnitudes
returns-clause-magnitudes g c = subst (λ l. IsTrue c.inner_stays_in_range.result ↔ g.A.Number.fits (pos (magnitude_sum l))) (products g c) c.inner_stays_in_range.ensures.magnitudes

pub returns-clause-selections : goal.returns-clause-selections
returns-clause-selections g c = subst (λ l. IsTrue c.inner_stays_in_range.result → IsSummable int_sums g.A.Number.fits l) (products g c) c.inner_stays_in_range.ensures.selections
