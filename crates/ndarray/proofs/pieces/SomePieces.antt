-- Some of the pieces of an array to write in: those at the positions of an order, or of two parts of the box.
use Rattle.std.proofs.Common.{◌≡◌, ℕ, ◌+◌, ◌*◌, ◌%◌, ◌^◌, ◌<◌, ◌≤◌, set, List, [], length, map, reverse, get_or, Option, Some, refl, sym, ◌∙◌, ap, arith, subst, inl, inr}
use Rattle.std.specs.Prelude.{All, AllPairs, ⊤}
use Rattle.std.proofs.lemmas.Bool.{cases_lt}
use Rattle.std.proofs.lemmas.List.{get_or_default, get_or-map, length-map}
use Rattle.std.proofs.lemmas.Simd.{map-map}
use Rattle.ndarray.specs.Index.{InBox, row_order, column_order, IsOrderOf}
use Rattle.ndarray.specs.Grid.{array_by, cell, grid}
use Rattle.ndarray.specs.Limits.{IsWithinLimit}
use Rattle.ndarray.specs.Orders.{box_in, cells_in}
use Rattle.ndarray.specs.base.Places.{place, Reaches, Rearranges, grid_at}
use Rattle.ndarray.specs.base.Masks.{AreApart, Shares, SharesBoth, grids_at}
use Rattle.ndarray.specs.base.CellLayouts.{CellLayout, cell_layout}
use Rattle.ndarray.specs.base.Pieces.{SharePieces, piece_layout, piece_layouts, pieces_at}
use Rattle.ndarray.specs.declared.base.shape.Order.{Order}
use Rattle.ndarray.specs.declared.base.shape.Order.TheVariants.{RowMajor, ColumnMajor}
use Rattle.ndarray.specs.base.Ranks.{rank}
use Rattle.ndarray.proofs.cells.Cells.{array_by-cell}
use Rattle.ndarray.proofs.views.Cuts.{rearranges-part}
use Rattle.ndarray.proofs.lists.Elements.{filter_map-from_map, map-same}
use Rattle.ndarray.proofs.boxes.Orders.{length-row_order, row_order-is, row_order-at, rank-lt, column_order-is, box_in-within, IsBefore-not_itself}
use Rattle.ndarray.proofs.pieces.Pieces.{positions-reach}
use Rattle.ndarray.proofs.regions.Masks.{apart-back, apart-moved}

differ-from : {before : List ℕ → List ℕ → Type 0} (never : (is : List ℕ) → before is is → ⊥) (ps : List ℕ) (xs : List (List ℕ)) → IsOrderOf before ps xs → AllPairs (λ p q. p ≡ q → ⊥) xs
differ-from {before} never ps xs o i j d lt lj e = never _ (subst (before (get_or xs i d)) (sym e) (o.rising i j d lt lj))

-- no position comes twice in an order of the box
box_in-differ : (o : Order) (ps : List ℕ) → AllPairs (λ p q. p ≡ q → ⊥) (box_in o ps)
box_in-differ RowMajor ps = differ-from IsBefore-not_itself ps (row_order ps) (row_order-is ps)
box_in-differ ColumnMajor ps = differ-from (λ is. IsBefore-not_itself (reverse is)) ps (column_order ps) (column_order-is ps)

module _ {A : Type 0} (at : ℕ → Option A) (ps : List ℕ) (start : ℕ) (steps ns bs : List ℕ) (h : SharePieces at ps start steps ns bs) where
  abbrev piece : List ℕ → CellLayout
  piece = piece_layout start steps ns bs

  abbrev pieces : List CellLayout
  pieces = piece_layouts start steps ns bs (row_order ps)

  -- the piece at a position stands at its rank
  piece-at : (p : List ℕ) → InBox ps p → (rank ps p < length pieces) × (get_or pieces (rank ps p) (piece p) ≡ piece p)
  piece-at p b =
      let l = length-row_order ps in
      let m = length-map (row_order ps) piece in
      let lt = rank-lt ps p b in
      (omega arith, get_or-map piece (row_order ps) (rank ps p) p (piece p) (omega arith) ∙ ap piece (row_order-at ps p p b))

  piece-reaches : (p : List ℕ) → InBox ps p → Reaches ⊤ at ns (place start steps p) bs
  piece-reaches p b =
      let k = piece-at p b in
      subst (λ s. Reaches ⊤ at s.lengths s.start s.strides) k.1 (h.shares.each (rank ps p) (piece p) k.0)

  pieces-before : (p q : List ℕ) → InBox ps p → InBox ps q → rank ps p < rank ps q → AreApart (piece p) (piece q)
  pieces-before p q bp bq lt =
      let kp = piece-at p bp in
      let kq = piece-at q bq in
      apart-moved _ _ _ _ (get_or_default pieces (rank ps p) (piece q) (piece p) kp.0 ∙ kp.1) kq.1 (h.shares.apart (rank ps p) (rank ps q) (piece q) lt kq.0)

  -- those at two positions have no place in common
  pieces-differ : (p q : List ℕ) → InBox ps p → InBox ps q → (p ≡ q → ⊥) → AreApart (piece p) (piece q)
  pieces-differ p q bp bq ne =
      elim (cases_lt (rank ps p) (rank ps q)) [
        | inl lt ↦ pieces-before p q bp bq lt
        | inr ge ↦ elim (cases_lt (rank ps q) (rank ps p)) [
          | inl lt ↦ apart-back _ _ (pieces-before q p bq bp lt)
          | inr le ↦ (
              let e : rank ps p ≡ rank ps q = omega arith in
              absurd (ne (sym (row_order-at ps p [] bp) ∙ (ap (λ k. get_or (row_order ps) k []) e ∙ row_order-at ps q [] bq))))
        ]
      ]

  -- each sub-view s x is the piece at the position f x
  abbrev ArePieces : (List ℕ → CellLayout) → (List ℕ → List ℕ) → List (List ℕ) → Type 0
  ArePieces s f xs = All (λ x. InBox ps (f x) × (piece (f x) ≡ s x)) xs

  -- those at different positions share out the storage
  some-share : (s : List ℕ → CellLayout) (f : List ℕ → List ℕ) (xs : List (List ℕ)) → ArePieces s f xs → AllPairs (λ x y. f x ≡ f y → ⊥) xs → Shares at (map s xs)
  some-share s f xs are differ =
      let l = length-map xs s in
      let here = λ (i : ℕ) (d : CellLayout) (lt : i < length xs). sym (get_or-map s xs i [] d lt) in
      record {
        each = λ i d lt.
            let k = are i [] (omega arith) in
            subst (λ t. Reaches ⊤ at t.lengths t.start t.strides) (k.1 ∙ here i d (omega arith)) (piece-reaches _ k.0);
        apart = λ i j d lt lj.
            let a = are i [] (omega arith) in
            let b = are j [] (omega arith) in
            apart-moved _ _ _ _ (a.1 ∙ here i d (omega arith)) (b.1 ∙ here j d (omega arith)) (pieces-differ _ _ a.0 b.0 (differ i j [] lt (omega arith)));
      }

  -- all of them, in an order of their positions
  pub pieces-share_in : (o : Order) → Shares at (piece_layouts start steps ns bs (box_in o ps))
  pieces-share_in o = some-share piece (λ p. p) (box_in o ps) (λ k d lt. (box_in-within o ps k d lt, refl)) (box_in-differ o ps)

  -- those at the positions of a box, by the image of each
  module _ {ps' : List ℕ} {start' : ℕ} {steps' : List ℕ} {f : List ℕ → List ℕ} (r : Rearranges ⊥ ps start steps ps' start' steps' f) where
    are-pieces : ArePieces (piece_layout start' steps' ns bs) f (row_order ps')
    are-pieces k d lt = let b = (row_order-is ps').within k d lt in (r.image _ b, ap (λ q. cell_layout ns q bs) (sym (r.same _ b)))

    part-shares : ((is js : List ℕ) → InBox ps' is → InBox ps' js → f is ≡ f js → is ≡ js) → Shares at (piece_layouts start' steps' ns bs (row_order ps'))
    part-shares one =
        some-share (piece_layout start' steps' ns bs) f (row_order ps') are-pieces
        (λ i j d lt lj e. let o = row_order-is ps' in box_in-differ RowMajor ps' i j d lt lj (one _ _ (o.within i d (omega arith)) (o.within j d lj) e))

  -- those at the positions of two boxes that have no image in common
  pub parts-share : {ps1 ps2 : List ℕ} {start1 start2 : ℕ} {steps1 steps2 : List ℕ} {f1 f2 : List ℕ → List ℕ}
      → Rearranges ⊥ ps start steps ps1 start1 steps1 f1 → Rearranges ⊥ ps start steps ps2 start2 steps2 f2
      → ((is js : List ℕ) → InBox ps1 is → InBox ps1 js → f1 is ≡ f1 js → is ≡ js)
      → ((is js : List ℕ) → InBox ps2 is → InBox ps2 js → f2 is ≡ f2 js → is ≡ js)
      → ((is js : List ℕ) → InBox ps1 is → InBox ps2 js → f1 is ≡ f2 js → ⊥)
      → SharesBoth at (piece_layouts start1 steps1 ns bs (row_order ps1)) (piece_layouts start2 steps2 ns bs (row_order ps2))
  parts-share {ps1} {ps2} {start1} {start2} {steps1} {steps2} r q one two differ =
      let first = piece_layout start1 steps1 ns bs in
      let second = piece_layout start2 steps2 ns bs in
      let l = length-map (row_order ps1) first in
      let m = length-map (row_order ps2) second in
      record {
        first = part-shares r one;
        second = part-shares q two;
        between = λ i d li j e lj.
            let a = are-pieces r i [] (omega arith) in
            let b = are-pieces q j [] (omega arith) in
            apart-moved _ _ _ _ (a.1 ∙ sym (get_or-map first (row_order ps1) i [] d (omega arith))) (b.1 ∙ sym (get_or-map second (row_order ps2) j [] e (omega arith)))
            (pieces-differ _ _ a.0 b.0 (differ _ _ ((row_order-is ps1).within i [] (omega arith)) ((row_order-is ps2).within j [] (omega arith))));
      }

-- the positions whose index on an axis is from `from` on
pub positions-cut : (ps : List ℕ) (start : ℕ) (steps : List ℕ) → length steps ≡ length ps → IsWithinLimit ps → (k : ℕ) → k < length ps → (from len : ℕ) → from + len ≤ get_or ps k 0
    → (ps' : List ℕ) (start' : ℕ) (steps' : List ℕ) → ps' ≡ set ps k len → start' ≡ (start + (from * get_or steps k 0) % 2 ^ 64) % 2 ^ 64 → steps' ≡ set steps k ((get_or steps k 0 * 1) % 2 ^ 64)
    → Rearranges ⊥ ps start steps ps' start' steps' (λ js. set js k (from + get_or js k 0))
positions-cut ps start steps l limit k lt from len le ps' start' steps' ep es et =
    let r = rearranges-part ⊥ _ ps start steps (positions-reach ps start steps l limit) k lt from len le in
    let image = λ (js : List ℕ). set js k (from + get_or js k 0) in
    subst (λ ms. Rearranges ⊥ ps start steps ms start' steps' image) (sym ep)
    (subst (λ x. Rearranges ⊥ ps start steps (set ps k len) x steps' image) (sym es)
    (subst (λ xs. Rearranges ⊥ ps start steps (set ps k len) ((start + (from * get_or steps k 0) % 2 ^ 64) % 2 ^ 64) xs image) (sym et) r))

-- ---- which arrays they are

module _ {A : Type 0} (start : ℕ) (steps ns bs : List ℕ) where
  -- where another storage has the same arrays at the pieces, they are the same array of arrays
  pub pieces-same : (at at' : ℕ → Option A) (ps : List ℕ) → grids_at at' (piece_layouts start steps ns bs (row_order ps)) ≡ grids_at at (piece_layouts start steps ns bs (row_order ps)) → pieces_at at' ps start steps ns bs ≡ pieces_at at ps start steps ns bs
  pieces-same at at' ps e = ap (grid ps) (sym (map-map _ _ (row_order ps)) ∙ (e ∙ map-map _ _ (row_order ps)))

  -- in an order of their positions they are the cells in that order
  pub pieces-in : (at : ℕ → Option A) (o : Order) (ps : List ℕ) → grids_at at (piece_layouts start steps ns bs (box_in o ps)) ≡ cells_in o (pieces_at at ps start steps ns bs)
  pieces-in at o ps =
      let piece = λ (p : List ℕ). grid_at at ns (place start steps p) bs in
      map-map _ _ (box_in o ps)
      ∙ sym (filter_map-from_map (cell (array_by ps piece)) (box_in o ps) (map piece (box_in o ps))
      (map-same (cell (array_by ps piece)) (λ p. Some (piece p)) (InBox ps) (box_in o ps) (λ p b. array_by-cell ps piece p b) (box_in-within o ps) ∙ sym (map-map Some piece (box_in o ps))))
