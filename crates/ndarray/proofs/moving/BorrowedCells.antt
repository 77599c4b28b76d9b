-- Cells that are borrowed one after another: the next one, the last one, and all cells of an array.
use Rattle.std.proofs.Common.{◌≡◌, ◌≢◌, ℕ, suc, ◌<◌, List, [], ◌∷◌, ◌++◌, length, map, reverse, zip, get_or, Option, Some, refl, sym, ◌∙◌, ap, arith, subst}
use Rattle.std.specs.Prelude.{All, IsTrue, ⊤, filter_map}
use Rattle.std.specs.Option.{is_some}
use Rattle.std.proofs.lemmas.List.{get_or_append_left, length-append}
use Rattle.std.proofs.lemmas.List.Elements.{All-tail, All-map, filter_map-append}
use Rattle.ndarray.specs.Grid.{cell}
use Rattle.ndarray.specs.Index.{InBox, row_order, column_order, IsOrderOf}
use Rattle.ndarray.specs.Orders.{box_in, cells_in}
use Rattle.ndarray.specs.base.Places.{place, Reaches, grid_at}
use Rattle.ndarray.specs.declared.base.shape.Order.{Order}
use Rattle.ndarray.specs.declared.base.shape.Order.TheVariants.{RowMajor, ColumnMajor}
use Rattle.ndarray.specs.places.ElementPlaces.{places_along, AreDistinctPlaces, with_places, places_of, with_elements}
use Rattle.ndarray.proofs.lists.Elements.{some-of, filter_map-same, length-filter_map_all, get_or-append-last}
use Rattle.ndarray.proofs.strides.NestedPlaces.{Reaches-apart}
use Rattle.ndarray.proofs.boxes.Orders.{row_order-is, column_order-is, box_in-within, IsBefore-not_itself}
use Rattle.ndarray.proofs.lists.Pairs.{AllPairs-tail, AllPairs-map}
use Rattle.ndarray.proofs.strides.Reach.{cell-at}
use Rattle.ndarray.proofs.strides.ContiguousCells.{filter_map-map}

module _ {A : Type 0} (at : ℕ → Option A) (ns : List ℕ) (start : ℕ) (bs : List ℕ) (h : Reaches ⊤ at ns start bs) where
  AreDistinctPlaces-order : {before : List ℕ → List ℕ → Type 0} (never : (is : List ℕ) → before is is → ⊥) (xs : List (List ℕ)) → IsOrderOf before ns xs → AreDistinctPlaces at (places_along start bs xs)
  AreDistinctPlaces-order {before} never xs o = record {
    held = All-map (λ p. IsTrue (is_some (at p))) (place start bs) xs (λ k d lt. h.inside _ (o.within k d lt));
    once = AllPairs-map (λ p q. p ≡ q → ⊥) (place start bs) xs (λ i j d lt lj e. never _ (subst (before (get_or xs i d)) (sym (Reaches-apart at ns start bs h tt _ _ (o.within i d (omega arith)) (o.within j d lj) e)) (o.rising i j d lt lj)));
  }

  -- the places of all cells, in an order
  pub AreDistinctPlaces-all : (o : Order) → AreDistinctPlaces at (places_along start bs (box_in o ns))
  AreDistinctPlaces-all RowMajor = AreDistinctPlaces-order IsBefore-not_itself (row_order ns) (row_order-is ns)
  AreDistinctPlaces-all ColumnMajor = AreDistinctPlaces-order (λ is. IsBefore-not_itself (reverse is)) (column_order ns) (column_order-is ns)

-- index lists beside their places, apart
module _ (start : ℕ) (bs : List ℕ) where
  pub with_places-lists : (iss : List (List ℕ)) → map (λ item. item.0) (with_places start bs iss) ≡ iss
  with_places-lists [] = refl
  with_places-lists (is ∷ iss) = ap (λ l. is ∷ l) (with_places-lists iss)

  pub with_places-places : (iss : List (List ℕ)) → places_of (with_places start bs iss) ≡ places_along start bs iss
  with_places-places [] = refl
  with_places-places (is ∷ iss) = ap (λ l. place start bs is ∷ l) (with_places-places iss)

-- the places of some cells, and of all in an order, and what lies there
module _ {A one : Type 0} (at : ℕ → Option A) (ns : List ℕ) (start : ℕ) (bs : List ℕ) (h : Reaches one at ns start bs) where
  pub held-some : (iss : List (List ℕ)) → All (InBox ns) iss → All (λ p. IsTrue (is_some (at p))) (places_along start bs iss)
  held-some iss within = All-map (λ p. IsTrue (is_some (at p))) (place start bs) iss (λ k d lt. h.inside _ (within k d lt))

  pub found-some : (iss : List (List ℕ)) → All (InBox ns) iss → filter_map at (places_along start bs iss) ≡ filter_map (cell (grid_at at ns start bs)) iss
  found-some iss within =
      filter_map-map at (place start bs) iss
      ∙ filter_map-same (λ is. at (place start bs is)) (cell (grid_at at ns start bs)) (InBox ns) iss (λ is b. sym (cell-at at ns start bs h is b)) within

module _ {A one : Type 0} (at : ℕ → Option A) (ns : List ℕ) (start : ℕ) (bs : List ℕ) (h : Reaches one at ns start bs) (o : Order) where
  pub held-all : All (λ p. IsTrue (is_some (at p))) (places_along start bs (box_in o ns))
  held-all = held-some at ns start bs h (box_in o ns) (box_in-within o ns)

  pub found-all : filter_map at (places_along start bs (box_in o ns)) ≡ cells_in o (grid_at at ns start bs)
  found-all = found-some at ns start bs h (box_in o ns) (box_in-within o ns)

  pub with_elements-all : with_elements at (with_places start bs (box_in o ns)) ≡ zip (box_in o ns) (cells_in o (grid_at at ns start bs))
  with_elements-all =
      ap (λ iss. zip iss (filter_map at (places_of (with_places start bs (box_in o ns))))) (with_places-lists start bs (box_in o ns))
      ∙ ap (zip (box_in o ns)) (ap (filter_map at) (with_places-places start bs (box_in o ns)) ∙ found-all)

module _ {A : Type 0} (at : ℕ → Option A) where
  -- the next place, and the last, has an element
  pub lent_at-next : (p : ℕ) (ps rest : List ℕ) → AreDistinctPlaces at ps → ps ≡ p ∷ rest → (x : A) × (at p ≡ Some x)
  lent_at-next p ps rest h e = let g = subst (AreDistinctPlaces at) e h in some-of _ (g.held 0 p (omega arith))

  pub lent_at-next_back : (p : ℕ) (ps rest : List ℕ) → AreDistinctPlaces at ps → ps ≡ rest ++ p ∷ [] → (x : A) × (at p ≡ Some x)
  lent_at-next_back p ps rest h e =
      let g = subst (AreDistinctPlaces at) e h in
      let l = length-append rest (p ∷ []) in
      subst (λ q. (x : A) × (at q ≡ Some x)) (get_or-append-last rest p p) (some-of _ (g.held (length rest) p (omega arith)))

  -- as many elements as places
  pub length-held_at : (ps : List ℕ) → All (λ p. IsTrue (is_some (at p))) ps → length (filter_map at ps) ≡ length ps
  length-held_at ps h = length-filter_map_all at ps (λ k d lt. some-of _ (h k d lt))

  pub length-lent_at : (ps : List ℕ) → AreDistinctPlaces at ps → length (filter_map at ps) ≡ length ps
  length-lent_at ps h = length-held_at ps h.held

module _ {A : Type 0} (at after : ℕ → Option A) (p : ℕ) (others : (q : ℕ) → q ≢ p → after q ≡ at q) (ps rest : List ℕ) (x : A) (h : AreDistinctPlaces at ps) (here : at p ≡ Some x) where
  -- what is still to come when the element at p was borrowed, which none of it reaches
  found-later : All (λ q. q ≢ p) rest → filter_map after rest ≡ filter_map at rest
  found-later apart = filter_map-same after at (λ q. q ≢ p) rest (λ q ne. others q ne) apart

  lent_at-later : All (λ q. q ≢ p) rest → AreDistinctPlaces at rest → AreDistinctPlaces after rest
  lent_at-later apart g = record {
    held = λ k d lt. subst (λ o. IsTrue (is_some o)) (sym (others _ (apart k d lt))) (g.held k d lt);
    once = g.once;
  }

  module _ (e : ps ≡ p ∷ rest) where
    front : AreDistinctPlaces at (p ∷ rest)
    front = subst (AreDistinctPlaces at) e h

    front-apart : All (λ q. q ≢ p) rest
    front-apart k d lt = λ same. front.once 0 (suc k) d (omega arith) (omega arith) (sym same)

    pub lent_at-rest : AreDistinctPlaces after rest
    lent_at-rest = lent_at-later front-apart (record { held = All-tail (λ q. IsTrue (is_some (at q))) p rest front.held; once = AllPairs-tail (λ q r. q ≡ r → ⊥) p rest front.once })

    pub found-first : filter_map at ps ≡ x ∷ filter_map after rest
    found-first = let l = found-later front-apart in rw (e, here, l) refl

  module _ (e : ps ≡ rest ++ p ∷ []) where
    back : AreDistinctPlaces at (rest ++ p ∷ [])
    back = subst (AreDistinctPlaces at) e h

    same : (k d : ℕ) → k < length rest → get_or (rest ++ p ∷ []) k d ≡ get_or rest k d
    same k d lt = get_or_append_left rest (p ∷ []) d k lt

    back-apart : All (λ q. q ≢ p) rest
    back-apart k d lt = λ one.
        let l = length-append rest (p ∷ []) in
        back.once k (length rest) d lt (omega arith) (same k d lt ∙ (one ∙ sym (get_or-append-last rest p d)))

    pub lent_at-beginning : AreDistinctPlaces after rest
    lent_at-beginning =
        let l = length-append rest (p ∷ []) in
        lent_at-later back-apart (record {
          held = λ k d lt. subst (λ q. IsTrue (is_some (at q))) (same k d lt) (back.held k d (omega arith));
          once = λ i j d lt lj one. back.once i j d lt (omega arith) (same i d (omega arith) ∙ (one ∙ sym (same j d lj)));
        })

    pub found-last : filter_map at ps ≡ filter_map after rest ++ x ∷ []
    found-last =
        let one : filter_map at (p ∷ []) ≡ x ∷ [] = rw here refl in
        ap (filter_map at) e ∙ (filter_map-append at rest (p ∷ []) ∙ (ap (λ l. filter_map at rest ++ l) one ∙ ap (λ l. l ++ x ∷ []) (sym (found-later back-apart))))
