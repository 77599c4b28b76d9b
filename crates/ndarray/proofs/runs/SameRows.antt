-- The rows of a box are rows of an array of its lengths.
use Rattle.std.proofs.Common.{◌≡◌, List, ℕ, subst, sym}
use Rattle.ndarray.specs.Grid.{Grid, IsGrid}
use Rattle.ndarray.specs.order.Rows.{HasRows, rows_in}
use Rattle.ndarray.specs.declared.base.shape.Order.{Order}
use Rattle.ndarray.proofs.runs.Rows.{HasRows-rows_in}

pub HasRows-same : {A : Type 0} (g : Grid A) (o : Order) (rows : List (List (List ℕ))) → rows ≡ rows_in o g.lengths → IsGrid g → HasRows g rows
HasRows-same g o rows e whole = subst (HasRows g) (sym e) (HasRows-rows_in g o whole)
