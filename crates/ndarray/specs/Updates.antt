-- What is called to answer the new cells of an array, and what such calls leave: each at the old cell at an index list and an item there.
use Rattle.std.specs.Prelude.{◌≡◌, ℕ, List, [], ◌++◌, length, drop, Result, Ok, Err, Some}
use Rattle.ndarray.specs.Grid.{Grid, cell}
use Rattle.ndarray.specs.Orders.{box_in, cells_in}
use Rattle.ndarray.specs.Producers.{both}
use Rattle.ndarray.specs.Runs.{RunsUntil, TurnAt, GatherTurn}
use Rattle.ndarray.specs.Views.{broadcast_to}
use Rattle.ndarray.specs.declared.base.shape.Order.{Order}

-- x is the array's cell at the index list
abbrev pub is_cell : {A : Type 0} → Grid A → List ℕ → A → Type 0
is_cell g i x = cell g i ≡ Some x

-- the same, and an item that may be yielded there
abbrev pub is_cell_beside : {A X : Type 0} → Grid A → (List ℕ → X → Type 0) → List ℕ → A × X → Type 0
is_cell_beside g yields_at = both (is_cell g) yields_at

-- the cells at an index list of an array and of another that is broadcast to its lengths
abbrev pub is_pair_of_cells : {A B : Type 0} → Grid A → Grid B → List ℕ → A × B → Type 0
is_pair_of_cells g h = both (is_cell g) (is_cell (broadcast_to h g.lengths))

-- a call that returns a value, and no error
abbrev pub answers : {F X A E : Type 0} → (F → X → Result A E → F → Type 0) → F → X → A → F → Type 0
answers call_gives f x a h = call_gives f x (Ok a) h

module _ {F X A E : Type 0} (yields_at : List ℕ → X → Type 0) (call_gives : F → X → Result A E → F → Type 0) where
  -- f was called at the items of each index list in turn, up to the end or to its first error, which r is. ys are the results before it, and behind them the elements of xs.
  abbrev pub OverwritesUntil : List (List ℕ) → F → List A → Result (Unit {0}) E → List A → Type 0
  OverwritesUntil is f xs r ys = RunsUntil {P = F × List A} (TurnAt yields_at (GatherTurn (answers call_gives)))
      (λ q i. (x : X) × yields_at i x × ((e : E) × (h : F) × (r ≡ Err e) × call_gives q.0 x (Err e) h × (ys ≡ q.1 ++ drop (length q.1) xs)))
      (λ q. (r ≡ Ok tt) × (ys ≡ q.1)) (f, []) is

  -- the same of the cells of an array, along its box in the order
  pub record UpdatesUntil (order : Order) (f : F) (old : Grid A) (r : Result (Unit {0}) E) (new : Grid A) : Type 0 where
    pub lengths : new.lengths ≡ old.lengths
    pub ran : OverwritesUntil (box_in order old.lengths) f (cells_in order old) r (cells_in order new)
