-- The rows of Kronecker products, as their cells are pushed one after another.
use Rattle.std.specs.Prelude.{List, All, flat_map, map}
use Rattle.ndarray.specs.Grid.{Grid}
use Rattle.ndarray.specs.declared.elements.Valued.{Ghosts as ValuedGhosts}

module _ {A : Type 0} (e : ValuedGhosts A) where
  -- the product of two values is in range
  abbrev pub CanMultiply : A → A → Type 0
  CanMultiply x y = e.InRange (e.multiplication.op (e.meaning x) (e.meaning y))

  -- that of each element of the one list and each of the other
  abbrev pub CanMultiplyEach : List A → List A → Type 0
  CanMultiplyEach xs ys = All (λ x. All (CanMultiply x) ys) xs

  -- the values of an element times each of a list
  abbrev pub multiples : A → List A → List e.Carrier
  multiples x ys = map (λ y. e.multiplication.op (e.meaning x) (e.meaning y)) ys

  -- those of each element of a list in turn
  abbrev pub multiples_by : List A → List A → List e.Carrier
  multiples_by xs ys = flat_map (λ x. multiples x ys) xs

  -- a row of the one matrix, with each row of the other
  abbrev pub block_rows : Grid A → List (Grid A) → List e.Carrier
  block_rows row rows = flat_map (λ below. multiples_by row.cells below.cells) rows
