-- The sums of a valid convolution at some positions of a window, as they are made: for `conv`.
use Rattle.std.specs.Prelude.{ℕ, ◌<◌, List, All, map}
use Rattle.ndarray.specs.Convolution.{valid_counts, window_products}
use Rattle.ndarray.specs.Grid.{Grid, IsGrid}
use Rattle.ndarray.specs.Index.{InBox}
use Rattle.ndarray.specs.Subviews.{ArePositive}
use Rattle.ndarray.specs.Sums.{IsSummable, total}
use Rattle.ndarray.specs.base.Ranks.{row_from}
use Rattle.ndarray.specs.declared.elements.Valued.{Ghosts as ValuedGhosts}

module _ {A : Type 0} (e : ValuedGhosts A) where
  -- the array is whole and has windows of the other one's lengths, and at each position the products of the window with it may be summed
  pub record CanSumWindows (g h : Grid A) : Type 0 where
    pub whole : IsGrid g
    pub shapes : ArePositive g.lengths h.lengths
    pub sums : (ps : List ℕ) → InBox (valid_counts g.lengths h.lengths) ps → IsSummable e.addition e.InRange (window_products e.multiplication e.meaning g h ps)

  -- the sum at a position
  abbrev pub window_sum : Grid A → Grid A → List ℕ → e.Carrier
  window_sum g h ps = total e.addition (window_products e.multiplication e.meaning g h ps)

  -- the sums at some positions
  abbrev pub window_sums : Grid A → Grid A → List (List ℕ) → List e.Carrier
  window_sums g h pss = map (window_sum g h) pss

-- positions of a window in a row: so many from one on along an axis, some and all of them within
pub record AreInRow (ns ms first : List ℕ) (axis count : ℕ) : Type 0 where
  pub some : 0 < count
  pub within : All (InBox (valid_counts ns ms)) (row_from first axis count)
