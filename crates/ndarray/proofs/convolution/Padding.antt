-- The valid convolution of a list between zeros with another is their full convolution.
use Rattle.std.proofs.Common.{◌≡◌, ℕ, ◌+◌, ◌-◌, ◌<◌, ◌≤◌, ◌++◌, List, [], ◌∷◌, length, replicate, sym, ap, ◌∙◌, arith, subst, length-append, inl, inr}
use Rattle.std.specs.Prelude.{◌⊎◌, IfOk, IsOk, Result, slice_index}
use Rattle.std.proofs.lemmas.List.{length-replicate}
use Rattle.ndarray.specs.Convolution.{HasFullSumsInRange, HasValidSumsInRange, MakesFullConvolution, MakesValidConvolution, convolution_products, filter_products, full_length, padded, valid_counts, valid_products}
use Rattle.ndarray.specs.Grid.{Grid, IsGrid, one_axis}
use Rattle.ndarray.specs.Index.{InBox}
use Rattle.ndarray.specs.Subviews.{window_count}
use Rattle.ndarray.specs.Sums.{IsSummable, total}
use Rattle.ndarray.specs.declared.elements.Valued.{Ghosts as ValuedGhosts}
use Rattle.ndarray.proofs.callers.Collecting.{if_ok-both}
use Rattle.ndarray.proofs.cells.Cells.{cell-inside}
use Rattle.ndarray.proofs.convolution.Full.{full_length-left, full_length-right, full_length-some}
use Rattle.ndarray.proofs.convolution.OneAxis.{valid_products-one, window_count-valid}
use Rattle.ndarray.proofs.convolution.WindowSums.{values-in_box}
use Rattle.ndarray.proofs.convolution.Windows.{padded-summable, padded-total}

pub length-padded : {A : Type 0} (z : A) (k : ℕ) (xs : List A) → length (padded z k xs) ≡ k + (length xs + k)
length-padded z k xs =
    let a = length-append (replicate k z) (xs ++ replicate k z) in
    let b = length-append xs (replicate k z) in
    let r = length-replicate k z in
    omega arith

module _ {A : Type 0} (e : ValuedGhosts A) (absorbs : (x : e.Carrier) → e.multiplication.op e.addition.unit x ≡ e.addition.unit) (z : A) (is_zero : e.meaning z ≡ e.addition.unit)
    (xs ys : List A) (one_x : 1 ≤ length xs) (one_y : 1 ≤ length ys) (w y : Grid A) (is_w : w ≡ one_axis (padded z (length ys - 1) xs)) (is_y : y ≡ one_axis ys) where
  abbrev full : ℕ
  full = full_length (length xs) (length ys)

  count : window_count (length (padded z (length ys - 1) xs)) (length ys) 1 ≡ full
  count =
      let v = window_count-valid (length (padded z (length ys - 1) xs)) (length ys) in
      let l = length-padded z (length ys - 1) xs in
      let f = full_length-some (length xs) (length ys) one_x one_y in
      omega arith

  counts : valid_counts w.lengths y.lengths ≡ full ∷ []
  counts = ap (λ g. valid_counts g.lengths y.lengths) is_w ∙ (ap (λ g. valid_counts (length (padded z (length ys - 1) xs) ∷ []) g.lengths) is_y ∙ ap (λ n. n ∷ []) count)

  products : (s : ℕ) → s < full → valid_products e.multiplication e.meaning w y (s ∷ []) ≡ filter_products e.multiplication e.meaning (padded z (length ys - 1) xs) ys s
  products s h =
      let l = length-padded z (length ys - 1) xs in
      let f = full_length-some (length xs) (length ys) one_x one_y in
      ap (λ g. valid_products e.multiplication e.meaning g y (s ∷ [])) is_w
      ∙ (ap (λ g. valid_products e.multiplication e.meaning (one_axis (padded z (length ys - 1) xs)) g (s ∷ [])) is_y
      ∙ valid_products-one e.addition e.multiplication e.meaning (padded z (length ys - 1) xs) ys s (omega arith))

  pub padded-sums : HasFullSumsInRange e xs ys → HasValidSumsInRange e w y
  padded-sums h ps b = at ps (subst (λ ns. InBox ns ps) counts b)
    where
      at : (ps : List ℕ) → InBox (full ∷ []) ps → IsSummable e.addition e.InRange (valid_products e.multiplication e.meaning w y ps)
      at [] b = absurd b
      at (s ∷ i ∷ ps) b = absurd b.1
      at (s ∷ []) b = subst (IsSummable e.addition e.InRange) (sym (products s b.0)) (padded-summable e.addition e.multiplication e.meaning absorbs z is_zero e.InRange xs ys s b.0 (h s b.0))

  pub padded-made : {E : Type 0} (r : Result (Grid A) E) → MakesValidConvolution e w y r → MakesFullConvolution e xs ys r
  padded-made r made = values-in_box e (valid_counts w.lengths y.lengths) (full ∷ []) _ _ r counts at made
    where
      at : (ps : List ℕ) → InBox (full ∷ []) ps → total e.addition (valid_products e.multiplication e.meaning w y ps) ≡ total e.addition (convolution_products e.multiplication e.meaning xs ys (slice_index ps 0))
      at [] b = absurd b
      at (s ∷ i ∷ ps) b = absurd b.1
      at (s ∷ []) b = ap (total e.addition) (products s b.0) ∙ padded-total e.addition e.multiplication e.meaning absorbs z is_zero xs ys s b.0

-- an array without cells is the full convolution where one of the lists has no elements
pub none-made : {A E : Type 0} (e : ValuedGhosts A) (xs ys : List A) (r : Result (Grid A) E) → (length xs ≡ 0) ⊎ (length ys ≡ 0) → IfOk r (λ a. a.lengths ≡ 0 ∷ []) → IfOk r IsGrid → IsOk r → MakesFullConvolution e xs ys r
none-made e xs ys r none lengths whole ok =
    let zero : full_length (length xs) (length ys) ≡ 0 = elim none [ inl x ↦ full_length-left (length xs) (length ys) x | inr y ↦ full_length-right (length xs) (length ys) y ] in
    record {
      made = if_ok-both r _ _ _
          (λ a l w. record {
            lengths = l ∙ ap (λ n. n ∷ []) (sym zero);
            whole = w;
            cells = λ is z at. absurd (outside is (subst (λ ns. InBox ns is) l (cell-inside a is z at)));
          })
          lengths whole;
      empty = λ _. ok;
    }
  where
    outside : (is : List ℕ) → InBox (0 ∷ []) is → ⊥
    outside [] b = b
    outside (i ∷ is) b = omega (arith, b.0)
