-- The running products along an axis, as they are pushed in row order: for `reduce::cumprod`.
use Rattle.std.specs.Prelude.{◌≡◌, ℕ, suc, ◌-◌, ◌<◌, ◌≤◌, List, Some, drop, length, slice_get, slice_index, slice_set}
use Rattle.ndarray.specs.Grid.{Grid, IsGrid, cell}
use Rattle.ndarray.specs.Index.{InBox, row_order, size}
use Rattle.ndarray.specs.base.Ranks.{block_in, rank}
use Rattle.ndarray.specs.declared.base.shape.Order.TheVariants.{RowMajor}

module _ {A : Type 0} (gives : A → A → A → Type 0) (g : Grid A) (k : ℕ) where
  -- what is at an index list of the products so far
  pub record AtProduct (ms : List A) (is : List ℕ) : Type 0 where
    pub first : (x : A) → slice_index is k ≡ 0 → cell g is ≡ Some x → slice_get ms (rank g.lengths is) ≡ Some x
    pub next : (v : ℕ) (x p : A) → slice_index is k ≡ suc v → cell g is ≡ Some x → slice_get ms (rank g.lengths (slice_set is k v)) ≡ Some p → (z : A) × (slice_get ms (rank g.lengths is) ≡ Some z) × gives x p z

  -- these products have been pushed, and these index lists are left
  pub record RunningProducts (ms : List A) (left : List (List ℕ)) : Type 0 where
    pub indices : left ≡ drop (length ms) (row_order g.lengths)
    pub room : length ms ≤ size g.lengths
    pub so_far : (is : List ℕ) → InBox g.lengths is → rank g.lengths is < length ms → AtProduct ms is

-- neighbours along the axis k are block places apart in row order
pub record AreBlocks {A : Type 0} (g : Grid A) (k block : ℕ) : Type 0 where
  pub whole : IsGrid g
  pub below : k < length g.lengths
  pub is_block : block ≡ block_in RowMajor g.lengths (length g.lengths - 1 - k)
