-- What dimensions and shapes are made of.
use Rattle.std.specs.Prelude.{ℕ, List}
use Rattle.arrayvec.specs.ArrayVec.{with_items}
use Rattle.ndarray.specs.declared.base.dimension.DynLengths.{DynLengths}
use Rattle.ndarray.specs.declared.base.shape.Shape.{Shape}
use Rattle.ndarray.specs.declared.base.shape.Order.{Order}

-- the numbers of at most 32 axes
abbrev pub held_numbers : DynLengths → List ℕ
held_numbers d = d.held.items

-- the same with other numbers
abbrev pub with_held : DynLengths → List ℕ → DynLengths
with_held d ns = record { held = with_items d.held ns }

-- the lengths of a shape, as a dimension
abbrev pub shape_dim : {D : Type 0} → Shape D → D
shape_dim s = s.dim

-- the order in which its cells are stored
abbrev pub stored_in : {D : Type 0} → Shape D → Order
stored_in s = s.order
