-- A grid without cells stays as it is.
use Rattle.ndarray.proofs.Common.{◌≡◌, ◌∙◌, [], ℕ, zero, suc, ap, map, refl, sym, Bool, nil_from_length, Grid, IsGrid, grid, row_order, size, length-row_order}
use Rattle.uses.specs.Life.{generation, next_generation, next_state_at}

next-none : (g : Grid Bool) → IsGrid g → size g.lengths ≡ 0 → next_generation g ≡ g
next-none g whole none =
    let order : row_order g.lengths ≡ [] = nil_from_length (row_order g.lengths) (length-row_order g.lengths ∙ none) in
    let cells : g.cells ≡ [] = nil_from_length g.cells (whole ∙ none) in
    ap (λ js. grid g.lengths (map (next_state_at g) js)) order ∙ ap (grid g.lengths) (sym cells)

pub generation-none : (n : ℕ) (g : Grid Bool) → IsGrid g → size g.lengths ≡ 0 → generation n g ≡ g
generation-none zero g whole none = refl
generation-none (suc n) g whole none = ap next_generation (generation-none n g whole none) ∙ next-none g whole none
