-- The places of rows of cells, taken one row after another.
use Rattle.std.proofs.Common.{◌≡◌, ℕ, ◌+◌, ◌<◌, suc, zero, List, [], ◌∷◌, ◌++◌, length, map, Option, refl, sym, ◌∙◌, ap, arith, subst}
use Rattle.std.specs.Prelude.{All, filter_map, ⊤}
use Rattle.std.proofs.lemmas.List.{map-append, get_or_append_left, get_or-append-add, length-append}
use Rattle.std.proofs.lemmas.List.Elements.{All-head, All-tail}
use Rattle.ndarray.specs.Grid.{cell}
use Rattle.ndarray.specs.Index.{InBox}
use Rattle.ndarray.specs.order.Rows.{rows_in, joined}
use Rattle.ndarray.specs.base.Places.{place, Reaches, grid_at}
use Rattle.ndarray.specs.base.Ranks.{row_from}
use Rattle.ndarray.specs.places.ElementPlaces.{places_along, AreDistinctPlaces, HaveRows}
use Rattle.ndarray.specs.declared.base.shape.Order.{Order}
use Rattle.ndarray.proofs.boxes.Boxes.{InBox-length}
use Rattle.ndarray.proofs.boxes.Rows.{rows-joined, rows-within}
use Rattle.ndarray.proofs.lists.Elements.{map-same}
use Rattle.ndarray.proofs.moving.BorrowedCells.{AreDistinctPlaces-all, found-some}
use Rattle.ndarray.proofs.moving.SomePlaces.{found-moved}
use Rattle.ndarray.proofs.strides.Rows.{row-first}

-- the index lists of all rows of a box have as many indices as it has axes
pub rows-as_many : (ns bs : List ℕ) (o : Order) → length bs ≡ length ns → All (λ row. (0 < length row) × All (λ is. length bs ≡ length is) row) (rows_in o ns)
rows-as_many ns bs o l = λ k d lt. let w = rows-within o ns k d lt in (w.0, λ j e lj. l ∙ sym (InBox-length ns _ (w.1 j e lj)))

-- all rows of an array, and their cells
module _ {A : Type 0} (at : ℕ → Option A) (ns : List ℕ) (start : ℕ) (bs : List ℕ) (o : Order) where
  pub HaveRows-all : Reaches ⊤ at ns start bs → HaveRows at start bs (rows_in o ns)
  HaveRows-all h = record {
    each = rows-as_many ns bs o h.as_many;
    distinct = subst (λ l. AreDistinctPlaces at (places_along start bs l)) (sym (rows-joined o ns)) (AreDistinctPlaces-all at ns start bs h o);
  }

  pub rows-found : {one : Type 0} → Reaches one at ns start bs → map (λ row. filter_map at (places_along start bs row)) (rows_in o ns) ≡ map (filter_map (cell (grid_at at ns start bs))) (rows_in o ns)
  rows-found h =
      map-same (λ row. filter_map at (places_along start bs row)) (filter_map (cell (grid_at at ns start bs))) (All (InBox ns)) (rows_in o ns)
      (λ row within. found-some at ns start bs h row within)
      (λ k d lt. (rows-within o ns k d lt).1)

-- the next row, and the others
module _ (start : ℕ) (bs : List ℕ) (rows rest : List (List (List ℕ))) (is : List ℕ) (axis n : ℕ) (e : rows ≡ row_from is axis n ∷ rest) (each : All (λ row. (0 < length row) × All (λ js. length bs ≡ length js) row) rows) where
  here : (0 < length (row_from is axis n)) × All (λ js. length bs ≡ length js) (row_from is axis n)
  here = All-head (λ row. (0 < length row) × All (λ js. length bs ≡ length js) row) (row_from is axis n) rest (subst (All (λ row. (0 < length row) × All (λ js. length bs ≡ length js) row)) e each)

  some : (n : ℕ) → 0 < length (row_from is axis n) → 0 < n
  some zero h = h
  some (suc n) h = omega arith

  pub first-as_many : length bs ≡ length is
  first-as_many = row-first (λ js. length bs ≡ length js) is axis n (some n here.0) here.1

  pub rest-each : All (λ row. (0 < length row) × All (λ js. length bs ≡ length js) row) rest
  rest-each = All-tail (λ row. (0 < length row) × All (λ js. length bs ≡ length js) row) (row_from is axis n) rest (subst (All (λ row. (0 < length row) × All (λ js. length bs ≡ length js) row)) e each)

-- rows whose places have the same elements in another storage have the same cells there
module _ {A : Type 0} (at after : ℕ → Option A) (start : ℕ) (bs : List ℕ) where
  pub rows-kept : (rows : List (List (List ℕ))) → All (λ p. after p ≡ at p) (places_along start bs (joined rows)) → map (λ row. filter_map after (places_along start bs row)) rows ≡ map (λ row. filter_map at (places_along start bs row)) rows
  rows-kept [] same = refl
  rows-kept (row ∷ rows) same =
      let ps : List ℕ = places_along start bs row in
      let qs : List ℕ = places_along start bs (joined rows) in
      let both : All (λ p. after p ≡ at p) (ps ++ qs) = subst (All (λ p. after p ≡ at p)) (map-append (place start bs) row (joined rows)) same in
      let l = length-append ps qs in
      let first : filter_map after ps ≡ filter_map at ps = found-moved at after ps (λ k d lt. subst (λ p. after p ≡ at p) (get_or_append_left ps qs d k lt) (both k d (omega arith))) in
      let rest = rows-kept rows (λ k d lt. subst (λ p. after p ≡ at p) (get_or-append-add ps qs k d) (both (length ps + k) d (omega arith))) in
      ap (λ x. x ∷ map (λ r. filter_map after (places_along start bs r)) rows) first ∙ ap (λ l. filter_map at ps ∷ l) rest
