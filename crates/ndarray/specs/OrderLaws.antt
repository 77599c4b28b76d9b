-- Laws of orders: folds that have the same value in each, and cells that are the best in each.
use Rattle.std.specs.Prelude.{◌≡◌, ℕ, Bool, false, All, Contains, List, IsPermutation, Some, filter_map}
use Rattle.std.specs.List.{fold}
use Rattle.ndarray.specs.Grid.{Grid, IsGrid, cell}
use Rattle.ndarray.specs.Index.{column_order, row_order}
use Rattle.ndarray.specs.Orders.{cells_in}
use Rattle.ndarray.specs.declared.base.shape.Order.{Order}

module _ {B X : Type 0} where
  -- two elements are taken in either order with one result
  abbrev pub StepsCommute : (B → X → B) → Type 0
  StepsCommute f = (b : B) (x y : X) → f (f b x) y ≡ f (f b y) x

-- over the index lists of a box a fold whose steps commute is the same in column order as in row order
abbrev pub FoldsOverBoxesAgree : Type 0 → Type 0
FoldsOverBoxesAgree B = (f : B → List ℕ → B) → StepsCommute f → (init : B) (ns : List ℕ) → fold f init (column_order ns) ≡ fold f init (row_order ns)

-- and over an array's cells in either order as over the cells
abbrev pub FoldsOverCellsAgree : Type 0 → Type 0 → Type 0
FoldsOverCellsAgree A B = (f : B → A → B) → StepsCommute f → (init : B) (g : Grid A) (order : Order) → IsGrid g → fold f init (cells_in order g) ≡ fold f init g.cells

-- the same of two lists that have the same index lists, in any orders
abbrev pub FoldsAlongAgree : Type 0 → Type 0 → Type 0
FoldsAlongAgree A B = (f : B → A → B) → StepsCommute f → (init : B) (g : Grid A) (is js : List (List ℕ)) → IsPermutation is js → fold f init (filter_map (cell g) js) ≡ fold f init (filter_map (cell g) is)

-- x is a cell at one of the index lists, and no cell at them beats it
pub record IsBestAlong {A : Type 0} (beats : A → A → Bool) (g : Grid A) (is : List (List ℕ)) (x : A) : Type 0 where
  pub place : List ℕ
  pub among : Contains is place
  pub here : cell g place ≡ Some x
  pub best : All (λ js. (y : A) → cell g js ≡ Some y → beats y x ≡ false) is

-- along two lists that have the same index lists, in any orders, the same cells are the best: the least ones, say, or the greatest
abbrev pub BestsAlongAgree : Type 0 → Type 0
BestsAlongAgree A = (beats : A → A → Bool) (g : Grid A) (is js : List (List ℕ)) (x : A) → IsPermutation is js → IsBestAlong beats g is x → IsBestAlong beats g js x
