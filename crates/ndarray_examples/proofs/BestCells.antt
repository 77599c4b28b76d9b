-- The best cell of a transposed array is the best along column order.
use Rattle.std.proofs.Common.{reverse}
use Rattle.std.proofs.lemmas.List.Sorted.{IsPermutation-sym}
use Rattle.ndarray.proofs.Common.{◌≡◌, ◌∙◌, Bool, List, ℕ, Some, ap, arith, get_or, sym, Grid, IsGrid, InBox, box_in-at, box_in-within, cell, cell-inside, column_order, length-box_in, rank_in-lt, row_order, tabulate-cell, transpose-cell, transpose_of-whole}
use Rattle.ndarray.specs.Extremes.{IsFirstBestCell}
use Rattle.ndarray.specs.Laws.{ColumnOrderRearranges}
use Rattle.ndarray.specs.OrderLaws.{BestsAlongAgree, IsBestAlong}
use Rattle.ndarray.specs.Views.{transpose_of}
use Rattle.ndarray.specs.base.Ranks.{rank_in}
use Rattle.ndarray.specs.declared.base.shape.Order.TheVariants.{ColumnMajor}

along-columns : {A : Type 0} (beats : A → A → Bool) (a t : Grid A) → IsGrid a → t ≡ transpose_of a → (is : List ℕ) (x : A) → IsFirstBestCell beats t is x → IsBestAlong beats a (column_order a.lengths) x
along-columns {A} beats a t whole is_t is x best =
    let turned = transpose_of-whole a whole in
    let seen : cell (transpose_of a) is ≡ Some x = sym (ap (λ w. cell w is) is_t) ∙ best.here in
    let here : cell a (reverse is) ≡ Some x = sym (tabulate-cell (reverse a.lengths) (λ js. cell a (reverse js)) is turned (cell-inside (transpose_of a) is x seen)) ∙ seen in
    let inside : InBox a.lengths (reverse is) = cell-inside a (reverse is) x here in
    record {
      place = reverse is;
      among = (rank_in ColumnMajor a.lengths (reverse is), (let below = rank_in-lt ColumnMajor a.lengths (reverse is) inside in let long = length-box_in ColumnMajor a.lengths in omega (arith, below, long)), box_in-at ColumnMajor a.lengths (reverse is) (reverse is) inside);
      here = here;
      best = λ k d lt y there. best.best (reverse (get_or (column_order a.lengths) k d)) y
          (ap (λ w. cell w (reverse (get_or (column_order a.lengths) k d))) is_t ∙ (transpose-cell a (get_or (column_order a.lengths) k d) turned (box_in-within ColumnMajor a.lengths k d lt) ∙ there));
    }

-- and so along row order
pub along-rows : {A : Type 0} → ColumnOrderRearranges → BestsAlongAgree A → (beats : A → A → Bool) (a t : Grid A) → IsGrid a → t ≡ transpose_of a → (is : List ℕ) (x : A) → IsFirstBestCell beats t is x → IsBestAlong beats a (row_order a.lengths) x
along-rows rearranges bests beats a t whole is_t is x best =
    bests beats a (column_order a.lengths) (row_order a.lengths) x (IsPermutation-sym (row_order a.lengths) (column_order a.lengths) (rearranges a.lengths).2) (along-columns beats a t whole is_t is x best)
