-- The rows of a box, and producers that give their items row by row.
use Rattle.std.specs.Prelude.{◌≡◌, ℕ, zero, suc, ◌<◌, List, [], ◌∷◌, All, map, length, Option, Some, None, IfSome, slice_index, slice_set}
use Rattle.std.specs.List.{flat_map}
use Rattle.ndarray.specs.Grid.{Grid, HasCells}
use Rattle.ndarray.specs.Orders.{box_in}
use Rattle.ndarray.specs.base.Ranks.{axis_in, row_from}
use Rattle.ndarray.specs.declared.base.shape.Order.{Order}

-- the axis that varies fastest
abbrev pub fast_axis : Order → List ℕ → ℕ
fast_axis o ns = axis_in o (length ns) 0

-- how many index lists make a row
abbrev pub row_size : Order → List ℕ → ℕ
row_size o [] = 1
row_size o (n ∷ ns) = slice_index (n ∷ ns) (fast_axis o (n ∷ ns))

-- 1 for a number that is not 0
abbrev pub one_if_some : ℕ → ℕ
one_if_some zero = 0
one_if_some (suc n) = 1

-- a value, where a number is not 0
abbrev pub some_unless_none : {R : Type 0} → ℕ → R → Option R
some_unless_none zero r = None
some_unless_none (suc n) r = Some r

-- the lengths of the box of those with which the rows begin
abbrev pub first_lengths : Order → List ℕ → List ℕ
first_lengths o [] = []
first_lengths o (n ∷ ns) = slice_set (n ∷ ns) (fast_axis o (n ∷ ns)) (one_if_some (row_size o (n ∷ ns)))

-- the rows of the box in an order: joined they are the box in that order
abbrev pub rows_in : Order → List ℕ → List (List (List ℕ))
rows_in o ns = map (λ is. row_from is (fast_axis o ns) (row_size o ns)) (box_in o (first_lengths o ns))

-- the index lists of all rows, one row after another
abbrev pub joined : {X : Type 0} → List (List X) → List X
joined xss = flat_map (λ xs. xs) xss

-- what is known of rows, one after another, and of all of them as one row where they are known to be one
pub record RowsAndOne (X : Type 0) : Type 0 where
  pub one : Option X
  pub rows : List X

-- that is what `f` gives of the rows of a box in an order, and of the box
abbrev pub AreRowsIn : {X : Type 0} → (List (List ℕ) → X) → Order → List ℕ → RowsAndOne X → Type 0
AreRowsIn f o ns r = (r.rows ≡ map f (rows_in o ns)) × IfSome r.one (λ x. x ≡ f (box_in o ns))

-- each row has some index lists, and the array has a cell at each of them
abbrev pub HasRows : {A : Type 0} → Grid A → List (List (List ℕ)) → Type 0
HasRows g rows = All (λ row. (0 < length row) × HasCells g row) rows

module _ {S R : Type 0} (rows : S → Option R → S → Type 0) (is_row : List (List ℕ) → R → Type 0) where
  -- from s on, calls give a row of each of the lists in turn, and then `None`
  abbrev pub RowsInTurnFrom : S → List (List (List ℕ)) → Type 0
  RowsInTurnFrom s [] = (r : R) (t : S) → rows s (Some r) t → ⊥
  RowsInTurnFrom s (is ∷ iss) = ((t : S) → rows s None t → ⊥) × ((r : R) (t : S) → rows s (Some r) t → is_row is r × RowsInTurnFrom t iss)

  -- the same, as one fact
  pub record RowsInTurn (s : S) (iss : List (List (List ℕ))) : Type 0 where
    pub from : RowsInTurnFrom s iss

module _ {S A : Type 0} (next : S → Option A → S → Type 0) where
  -- from s on, n calls give an item, and the next one none
  abbrev pub GivesMany : ℕ → S → Type 0
  GivesMany zero s = (x : A) (t : S) → next s (Some x) t → ⊥
  GivesMany (suc n) s = ((t : S) → next s None t → ⊥) × ((x : A) (t : S) → next s (Some x) t → GivesMany n t)

-- two runs of equally many items
pub record AsLong {S T A B : Type 0} (next : S → Option A → S → Type 0) (others : T → Option B → T → Type 0) (s : S) (t : T) : Type 0 where
  pub count : ℕ
  pub first : GivesMany next count s
  pub second : GivesMany others count t
