-- The next row of pieces is taken out of a region, and the others are left.
use Rattle.std.proofs.Common.{◌≡◌, ◌∙◌, ◌∷◌, ℕ, List, Option, ap, map, subst, sym}
use Rattle.std.proofs.lemmas.Simd.{map-map}
use Rattle.ndarray.specs.order.Rows.{joined}
use Rattle.ndarray.specs.base.CellLayouts.{CellLayout, cell_layout}
use Rattle.ndarray.specs.base.Masks.{Shares, SharesBoth, grids_at}
use Rattle.ndarray.specs.base.Pieces.{ShareRows, piece_layouts}
use Rattle.ndarray.specs.base.Places.{place}
use Rattle.ndarray.specs.base.Ranks.{row_from}
use Rattle.ndarray.specs.places.ElementPlaces.{places_along}
use Rattle.ndarray.proofs.pieces.PieceRows.{first-shares, piece-rows-kept, rest-rows}

module _ {A : Type 0} (at : ℕ → Option A) (start : ℕ) (steps ns bs ps : List ℕ) (rows rest : List (List (List ℕ))) (is : List ℕ) (axis n : ℕ) (e : rows ≡ row_from is axis n ∷ rest) (h : ShareRows at ps start steps ns bs rows) (qs : List ℕ)
    (own : qs ≡ places_along start steps (row_from is axis n)) (ms cs : List ℕ) (dim : ms ≡ ns) (strides : cs ≡ bs) where
  -- where the pieces of the row lie
  abbrev row : List CellLayout
  row = map (λ q. cell_layout ms q cs) qs

  row-layouts : row ≡ piece_layouts start steps ns bs (row_from is axis n)
  row-layouts = rw (dim, strides, own) (map-map (λ q. cell_layout ns q bs) (place start steps) (row_from is axis n))

  pub row-shares : SharesBoth at row (piece_layouts start steps ns bs (joined rest))
  row-shares = subst (λ ls. SharesBoth at ls (piece_layouts start steps ns bs (joined rest))) (sym row-layouts) (first-shares start steps ns bs at ps rows rest is axis n e h)

  module _ (after : ℕ → Option A) (others : (ls : List CellLayout) → SharesBoth at row ls → Shares after ls × (grids_at after ls ≡ grids_at at ls)) where
    pub pieces-left : ShareRows after ps start steps ns bs rest
    pieces-left = record { as_many = h.as_many; each = rest-rows start steps ns bs at ps rows rest is axis n e h; shares = (others _ row-shares).0 }

    pub pieces-taken : grids_at at row ∷ map (λ js. grids_at after (piece_layouts start steps ns bs js)) rest ≡ map (λ js. grids_at at (piece_layouts start steps ns bs js)) rows
    pieces-taken =
        let found = λ (js : List (List ℕ)). grids_at at (piece_layouts start steps ns bs js) in
        ap (λ l. grids_at at row ∷ l) (piece-rows-kept start steps ns bs at after rest (others _ row-shares).1) ∙ (ap (λ ls. grids_at at ls ∷ map found rest) row-layouts ∙ sym (ap (map found) e))
