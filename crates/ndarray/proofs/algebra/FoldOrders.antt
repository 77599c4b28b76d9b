-- Folds whose steps commute, in each order.
use Rattle.std.proofs.Common.{◌≡◌, ◌∙◌, List, [], ◌∷◌, Option, Some, None, ap, false, sym, refl}
use Rattle.std.specs.Prelude.{filter_map}
use Rattle.std.specs.List.{cons_option, fold}
use Rattle.std.proofs.lemmas.List.Sorted.{All-permutation, Contains-permutation}
use Rattle.ndarray.specs.Grid.{cell}
use Rattle.ndarray.specs.OrderLaws.{BestsAlongAgree, FoldsAlongAgree, FoldsOverBoxesAgree, FoldsOverCellsAgree, StepsCommute}
use Rattle.ndarray.specs.Index.{row_order}
use Rattle.ndarray.specs.Orders.{box_in}
use Rattle.ndarray.specs.declared.base.shape.Order.TheVariants.{ColumnMajor}
use Rattle.ndarray.proofs.callers.RowOrder.{fold-in_row_order, fold-rearranged}
use Rattle.ndarray.proofs.cells.Cells.{along-row_order}

module _ {A B : Type 0} (f : B → A → B) (commutes : StepsCommute f) where
  -- a step at a cell that may be missing
  abbrev step : B → Option A → B
  step b None = b
  step b (Some x) = f b x

  fold-found : {X : Type 0} (h : X → Option A) (b : B) (xs : List X) → fold f b (filter_map h xs) ≡ fold (λ c x. step c (h x)) b xs
  fold-found h b [] = refl
  fold-found h b (x ∷ xs) = first (h x) ∙ fold-found h (step b (h x)) xs
    where
      first : (o : Option A) → fold f b (cons_option o (filter_map h xs)) ≡ fold f (step b o) (filter_map h xs)
      first None = refl
      first (Some y) = refl

  steps-commute : (b : B) (o p : Option A) → step (step b o) p ≡ step (step b p) o
  steps-commute b None None = refl
  steps-commute b None (Some y) = refl
  steps-commute b (Some x) None = refl
  steps-commute b (Some x) (Some y) = commutes b x y

pub folds-over_boxes : {B : Type 0} → FoldsOverBoxesAgree B
folds-over_boxes f commutes init ns = fold-in_row_order f commutes ColumnMajor ns init

pub folds-over_cells : {A B : Type 0} → FoldsOverCellsAgree A B
folds-over_cells f commutes init g order whole =
    fold-found f commutes (cell g) init (box_in order g.lengths)
    ∙ (fold-in_row_order (λ c is. step f commutes c (cell g is)) (λ b is js. steps-commute f commutes b (cell g is) (cell g js)) order g.lengths init
    ∙ (sym (fold-found f commutes (cell g) init (row_order g.lengths)) ∙ ap (fold f init) (along-row_order g whole)))

pub folds-along : {A B : Type 0} → FoldsAlongAgree A B
folds-along f commutes init g is js same =
    fold-found f commutes (cell g) init js
    ∙ (fold-rearranged (λ c ks. step f commutes c (cell g ks)) (λ b ks ls. steps-commute f commutes b (cell g ks) (cell g ls)) init is js same ∙ sym (fold-found f commutes (cell g) init is))

pub bests-along : {A : Type 0} → BestsAlongAgree A
bests-along {A} beats g is js x same best = record {
  place = best.place;
  among = Contains-permutation is js best.place same best.among;
  here = best.here;
  best = All-permutation (λ ks. (y : A) → cell g ks ≡ Some y → beats y x ≡ false) is js same best.best;
}
