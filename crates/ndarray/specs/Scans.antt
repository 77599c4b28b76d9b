-- Scans: a value goes along a list or a lane, and at each element the next value and a new element are made.
use Rattle.std.specs.Prelude.{◌≡◌, ℕ, List, [], Some}
use Rattle.std.specs.Fn.{Shared}
use Rattle.std.specs.List.{FoldsTo}
use Rattle.ndarray.specs.Elementwise.{CanMap}
use Rattle.ndarray.specs.Grid.{Grid, IsGrid, cell}
use Rattle.ndarray.specs.Runs.{GatherTurn, MayTurnAt}
use Rattle.ndarray.specs.Subviews.{lanes_of}

-- what a closure of a value and a cell may return, and whether it may be called at them
module _ {F A B : Type 0} (g : Shared F (B × (A × Unit {0})) (B × A)) where
  abbrev pub step_gives : F → B → A → B × A → Type 0
  step_gives f b x r = g.post f (b, (x, tt)) r

  abbrev pub can_step : F → B → A → Type 0
  can_step f b x = g.pre f (b, (x, tt))

-- Below, `gives b x (c, y)` says that a call at the value b and the old cell x may return the next value c and the new cell y.
module _ {A B : Type 0} (gives : B → A → B × A → Type 0) where
  -- a step of a scan, from the value p.0 to q.0 at the old cell x; the new cell is put after those before
  abbrev pub ScanStep : B × List A → A → B × List A → Type 0
  ScanStep = GatherTurn (λ b x y c. gives b x (c, y))

  -- a scan of the list xs from the value init makes the list ys: a chain of steps, one at each element of xs in turn
  abbrev pub ScansTo : B → List A → List A → Type 0
  ScansTo init xs ys = (last : B) × FoldsTo {P = B × List A} ScanStep (init, []) xs (last, ys)

  -- at each element a call may be made, whatever the calls before it returned
  abbrev pub MayScan : (B → A → Type 0) → B → List A → Type 0
  MayScan can init xs = MayTurnAt {P = B × List A} ScanStep (λ p x. can p.0 x) (init, []) xs

  -- the new array has the lengths of the old one, and each lane along the axis is a scan from init of the old cells of that lane
  pub record ScansLanes (axis : ℕ) (init : B) (old new : Grid A) : Type 0 where
    pub lengths : new.lengths ≡ old.lengths
    pub whole : IsGrid new
    pub lanes : (js : List ℕ) (l m : Grid A) → cell (lanes_of old axis) js ≡ Some l → cell (lanes_of new axis) js ≡ Some m → ScansTo init l.cells m.cells

  -- the calls of a scan from init may be made along each lane of the axis
  pub record MayScanLanes (can : B → A → Type 0) (axis : ℕ) (init : B) (g : Grid A) : Type 0 where
    pub lanes : CanMap (λ l. MayScan can init l.cells) (lanes_of g axis)
