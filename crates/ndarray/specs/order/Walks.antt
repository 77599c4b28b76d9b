-- Where a walk is in its box: for `order` and `places`.
use Rattle.std.specs.Prelude.{◌≡◌, ℕ, ◌+◌, ◌^◌, ◌<◌, ◌≤◌, List, take, drop, slice_index}
use Rattle.ndarray.specs.Index.{InBox, size}
use Rattle.ndarray.specs.Limits.{IsWithinLimit}
use Rattle.ndarray.specs.Orders.{box_in}
use Rattle.ndarray.specs.base.Ranks.{rank_in, row_from}
use Rattle.ndarray.specs.declared.base.shape.Order.{Order}

-- the next `left` index lists of the order, from is on
abbrev pub walk_rest : Order → List ℕ → List ℕ → ℕ → List (List ℕ)
walk_rest order ns is left = take left (drop (rank_in order ns is) (box_in order ns))

-- a walk at is, with `left` index lists to go, is in its box
pub record WalksFrom (order : Order) (ns is : List ℕ) (left : ℕ) : Type 0 where
  pub limit : IsWithinLimit ns
  pub within : 0 < left → InBox ns is
  pub fits : 0 < left → rank_in order ns is + left ≤ size ns

-- the indices of a row are numbers of a word
abbrev pub FitsOnAxis : List ℕ → ℕ → ℕ → Type 0
FitsOnAxis first axis count = slice_index first axis + count < 2 ^ 64

-- the first `count` of the index lists are a row, and the others stay
pub record TakesRow (old new : List (List ℕ)) (first : List ℕ) (axis count : ℕ) : Type 0 where
  pub some : 0 < count
  pub room : FitsOnAxis first axis count
  pub row : take count old ≡ row_from first axis count
  pub rest : new ≡ drop count old
