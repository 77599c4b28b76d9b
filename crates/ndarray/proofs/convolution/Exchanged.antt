-- The full convolution of two lists in the other order.
use Rattle.std.proofs.Common.{◌<◌, List, [], ◌∷◌, ap, length, subst}
use Rattle.std.specs.Prelude.{Result, slice_index}
use Rattle.ndarray.specs.Convolution.{HasFullSumsInRange, MakesFullConvolution, convolution_products, full_length}
use Rattle.ndarray.specs.Grid.{Grid}
use Rattle.ndarray.specs.declared.elements.Valued.{Ghosts as ValuedGhosts}
use Rattle.ndarray.proofs.convolution.Full.{full_length-commutes}
use Rattle.ndarray.proofs.convolution.Swapped.{products-rearranged}
use Rattle.ndarray.proofs.convolution.WindowSums.{values-in_box}
use Rattle.ndarray.proofs.sums.Rearrangements.{IsSummable-rearranged, total-rearranged}

module _ {A : Type 0} (e : ValuedGhosts A) (xs ys : List A) where
  -- sums in range are in range in the other order
  pub sums-exchanged : HasFullSumsInRange e xs ys → HasFullSumsInRange e ys xs
  sums-exchanged h s below =
      IsSummable-rearranged e.addition e.InRange (convolution_products e.multiplication e.meaning xs ys s) (convolution_products e.multiplication e.meaning ys xs s) (products-rearranged e.multiplication e.meaning xs ys s)
      (h s (subst (λ n. s < n) (full_length-commutes (length ys) (length xs)) below))

  -- what is the convolution in one order is that in the other
  pub made-exchanged : {E : Type 0} (r : Result (Grid A) E) → MakesFullConvolution e ys xs r → MakesFullConvolution e xs ys r
  made-exchanged r made =
      values-in_box e (full_length (length ys) (length xs) ∷ []) (full_length (length xs) (length ys) ∷ []) _ _ r (ap (λ n. n ∷ []) (full_length-commutes (length ys) (length xs)))
      (λ is _. total-rearranged e.addition (convolution_products e.multiplication e.meaning xs ys (slice_index is 0)) (convolution_products e.multiplication e.meaning ys xs (slice_index is 0)) (products-rearranged e.multiplication e.meaning xs ys (slice_index is 0))) made
