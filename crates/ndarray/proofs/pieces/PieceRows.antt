-- Pieces at positions in a row lie a step apart.
use Rattle.std.proofs.Common.{◌≡◌, ℕ, ◌<◌, suc, zero, List, [], ◌∷◌, ◌++◌, length, map, get_or, Option, Some, refl, sym, ◌∙◌, ap, arith, subst}
use Rattle.std.specs.Prelude.{All, filter_map}
use Rattle.std.proofs.lemmas.List.{map-append}
use Rattle.std.proofs.lemmas.List.Elements.{All-head, All-map, All-tail}
use Rattle.std.proofs.lemmas.Simd.{map-map}
use Rattle.ndarray.specs.Index.{InBox}
use Rattle.ndarray.specs.Grid.{array_by, cell}
use Rattle.ndarray.specs.base.Places.{place, Reaches, grid_at}
use Rattle.ndarray.specs.order.Rows.{rows_in, joined}
use Rattle.ndarray.specs.base.Pieces.{ReachPieces, SharePieces, ShareRows, piece_layout, piece_layouts, pieces_at}
use Rattle.ndarray.specs.base.CellLayouts.{CellLayout}
use Rattle.ndarray.specs.base.Masks.{Shares, SharesBoth, grids_at}
use Rattle.ndarray.specs.base.Ranks.{row_from}
use Rattle.ndarray.specs.base.Strided.{places_from}
use Rattle.ndarray.specs.places.ElementPlaces.{places_along}
use Rattle.ndarray.specs.declared.base.shape.Order.{Order}
use Rattle.ndarray.proofs.boxes.Boxes.{InBox-length}
use Rattle.ndarray.proofs.boxes.Rows.{rows-joined, rows-within}
use Rattle.ndarray.proofs.cells.Cells.{array_by-cell}
use Rattle.ndarray.proofs.lists.Elements.{filter_map-from_map, map-same}
use Rattle.ndarray.proofs.pieces.SomePieces.{pieces-share_in}
use Rattle.ndarray.proofs.regions.Masks.{SharesBoth-parts}
use Rattle.ndarray.proofs.strides.Rows.{row-first, row-places}

-- the cells of an array along some positions of its box
pub pieces-along : {A : Type 0} (at : ℕ → Option A) (ps : List ℕ) (start : ℕ) (steps ns bs : List ℕ) (qs : List (List ℕ)) → All (InBox ps) qs → filter_map (cell (pieces_at at ps start steps ns bs)) qs ≡ map (λ p. grid_at at ns (place start steps p) bs) qs
pieces-along at ps start steps ns bs qs within =
    let piece = λ (p : List ℕ). grid_at at ns (place start steps p) bs in
    filter_map-from_map (cell (array_by ps piece)) qs (map piece qs)
    (map-same (cell (array_by ps piece)) (λ p. Some (piece p)) (InBox ps) qs (λ p b. array_by-cell ps piece p b) within ∙ sym (map-map Some piece qs))

-- each of them reaches elements
pub places-reach : {A : Type 0} (at : ℕ → Option A) (ps : List ℕ) (start : ℕ) (steps ns bs : List ℕ) (qs : List (List ℕ)) → ReachPieces at ps start steps ns bs → All (InBox ps) qs → All (λ p. Reaches ⊥ at ns p bs) (places_along start steps qs)
places-reach at ps start steps ns bs qs h within = All-map (λ p. Reaches ⊥ at ns p bs) (place start steps) qs (λ k d lt. h.each _ (within k d lt))

-- the first of some places at which pieces reach elements, and the others
pub reach-first : {A : Type 0} (at : ℕ → Option A) (ns bs qs rest : List ℕ) (q : ℕ) → qs ≡ q ∷ rest → All (λ p. Reaches ⊥ at ns p bs) qs → Reaches ⊥ at ns q bs × All (λ p. Reaches ⊥ at ns p bs) rest
reach-first at ns bs qs rest q e h =
    let P = λ (p : ℕ). Reaches ⊥ at ns p bs in
    let w = subst (All P) e h in
    (All-head P q rest w, All-tail P q rest w)

module _ (start : ℕ) (steps ns bs : List ℕ) (axis n : ℕ) (is : List ℕ) (as_many : length steps ≡ length is) where
  module _ {A : Type 0} (at : ℕ → Option A) (ps : List ℕ) (within : All (InBox ps) (row_from is axis n)) where
    -- and which arrays they are
    pub row-pieces : map (λ p. grid_at at ns p bs) (places_from (place start steps is) (get_or steps axis 0) n) ≡ filter_map (cell (pieces_at at ps start steps ns bs)) (row_from is axis n)
    row-pieces =
        ap (map (λ p. grid_at at ns p bs)) (sym (row-places start steps axis n is as_many))
        ∙ (map-map (λ p. grid_at at ns p bs) (place start steps) (row_from is axis n) ∙ sym (pieces-along at ps start steps ns bs (row_from is axis n) within))

    pub row-reach : ReachPieces at ps start steps ns bs → All (λ p. Reaches ⊥ at ns p bs) (places_from (place start steps is) (get_or steps axis 0) n)
    row-reach h = subst (All (λ p. Reaches ⊥ at ns p bs)) (row-places start steps axis n is as_many) (places-reach at ps start steps ns bs (row_from is axis n) h within)

-- rows of pieces, taken one row after another

map-parts : {X Y : Type 0} (f g : X → Y) (xs ys : List X) → map f (xs ++ ys) ≡ map g (xs ++ ys) → (map f xs ≡ map g xs) × (map f ys ≡ map g ys)
map-parts f g [] ys e = (refl, e)
map-parts f g (x ∷ xs) ys e =
    let here : f x ≡ g x = cc in
    let there : map f (xs ++ ys) ≡ map g (xs ++ ys) = cc in
    let r = map-parts f g xs ys there in
    (ap (λ y. y ∷ map f xs) here ∙ ap (λ l. g x ∷ l) r.0, r.1)

module _ (start : ℕ) (steps ns bs : List ℕ) where
  pub layouts-joined : (row : List (List ℕ)) (rows : List (List (List ℕ))) → piece_layouts start steps ns bs (joined (row ∷ rows)) ≡ piece_layouts start steps ns bs row ++ piece_layouts start steps ns bs (joined rows)
  layouts-joined row rows = map-append (piece_layout start steps ns bs) row (joined rows)

  -- where the arrays are the same in another storage, they are row by row
  pub piece-rows-kept : {A : Type 0} (at after : ℕ → Option A) (rows : List (List (List ℕ))) → grids_at after (piece_layouts start steps ns bs (joined rows)) ≡ grids_at at (piece_layouts start steps ns bs (joined rows))
      → map (λ row. grids_at after (piece_layouts start steps ns bs row)) rows ≡ map (λ row. grids_at at (piece_layouts start steps ns bs row)) rows
  piece-rows-kept at after [] e = refl
  piece-rows-kept at after (row ∷ rows) e =
      let f = λ (s : CellLayout). grid_at after s.lengths s.start s.strides in
      let g = λ (s : CellLayout). grid_at at s.lengths s.start s.strides in
      let l = layouts-joined row rows in
      let r = map-parts f g (piece_layouts start steps ns bs row) (piece_layouts start steps ns bs (joined rows)) (sym (ap (map f) l) ∙ (e ∙ ap (map g) l)) in
      ap (λ x. x ∷ map (λ q. grids_at after (piece_layouts start steps ns bs q)) rows) r.0 ∙ ap (λ x. grids_at at (piece_layouts start steps ns bs row) ∷ x) (piece-rows-kept at after rows r.1)

  module _ {A : Type 0} (at : ℕ → Option A) (ps : List ℕ) where
    -- all rows
    pub ShareRows-all : (o : Order) → SharePieces at ps start steps ns bs → ShareRows at ps start steps ns bs (rows_in o ps)
    ShareRows-all o h = record {
      as_many = h.as_many;
      each = rows-within o ps;
      shares = subst (λ l. Shares at (piece_layouts start steps ns bs l)) (sym (rows-joined o ps)) (pieces-share_in at ps start steps ns bs h o);
    }

    pub piece-rows-found : (o : Order) → map (λ row. grids_at at (piece_layouts start steps ns bs row)) (rows_in o ps) ≡ map (filter_map (cell (pieces_at at ps start steps ns bs))) (rows_in o ps)
    piece-rows-found o =
        map-same (λ row. grids_at at (piece_layouts start steps ns bs row)) (filter_map (cell (pieces_at at ps start steps ns bs))) (All (InBox ps)) (rows_in o ps)
        (λ row within. map-map (λ (s : CellLayout). grid_at at s.lengths s.start s.strides) (piece_layout start steps ns bs) row ∙ sym (pieces-along at ps start steps ns bs row within))
        (λ k d lt. (rows-within o ps k d lt).1)

    -- the next row, and the others
    module _ (rows rest : List (List (List ℕ))) (is : List ℕ) (axis n : ℕ) (e : rows ≡ row_from is axis n ∷ rest) (h : ShareRows at ps start steps ns bs rows) where
      moved : ShareRows at ps start steps ns bs (row_from is axis n ∷ rest)
      moved = subst (ShareRows at ps start steps ns bs) e h

      here : (0 < length (row_from is axis n)) × All (InBox ps) (row_from is axis n)
      here = All-head (λ row. (0 < length row) × All (InBox ps) row) (row_from is axis n) rest moved.each

      some : (n : ℕ) → 0 < length (row_from is axis n) → 0 < n
      some zero h = h
      some (suc n) h = omega arith

      pub piece-as_many : length steps ≡ length is
      piece-as_many = h.as_many ∙ sym (InBox-length ps is (row-first (InBox ps) is axis n (some n here.0) here.1))

      pub rest-rows : All (λ row. (0 < length row) × All (InBox ps) row) rest
      rest-rows = All-tail (λ row. (0 < length row) × All (InBox ps) row) (row_from is axis n) rest moved.each

      pub first-shares : SharesBoth at (piece_layouts start steps ns bs (row_from is axis n)) (piece_layouts start steps ns bs (joined rest))
      first-shares = SharesBoth-parts at (piece_layouts start steps ns bs (row_from is axis n)) (piece_layouts start steps ns bs (joined rest)) (subst (Shares at) (layouts-joined (row_from is axis n) rest) moved.shares)
