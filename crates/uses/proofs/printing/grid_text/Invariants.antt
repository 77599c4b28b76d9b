-- The text, with the rows to come, is the whole.
use Rattle.ndarray.proofs.Common.{◌≡◌, ◌++◌, ◌∷◌, [], map, flat_map, string_bytes}
use Rattle.uses.specs.Printing.{grid_text, mark_of}
use Rattle.uses.proofs.printing.grid_text.Given as goal

abbrev pub invariant-loop-row : goal.invariant-loop-row
invariant-loop-row l = string_bytes l.text ++ flat_map (λ row. map mark_of row.cells ++ 10 ∷ []) l.row-iterator ≡ grid_text l.grid
