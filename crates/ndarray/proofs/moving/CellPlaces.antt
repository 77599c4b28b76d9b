-- The places of an array's cells, passed one after another, and the cells that lie there.
use Rattle.std.proofs.Common.{◌≡◌, ◌≢◌, ℕ, ◌<◌, ◌⊎◌, ◌↔◌, suc, zero, List, [], ◌∷◌, map, length, filter_map, slice_get, Option, Some, None, inl, inr, refl, sym, ◌∙◌, ap, arith, subst, get_or}
use Rattle.std.specs.Prelude.{All, Contains, MatchOption, IfSome, IsTrue, Bool, true, false, not}
use Rattle.std.specs.List.{cons_option}
use Rattle.std.proofs.lemmas.Bool.{cases_eq}
use Rattle.std.proofs.lemmas.List.Elements.{All-head, All-tail, All-contains, All-map}
use Rattle.std.proofs.lemmas.Option.{slice_get_within}
use Rattle.ndarray.specs.Index.{InBox, IsBefore, row_order}
use Rattle.ndarray.specs.Grid.{Grid, cell, IsGrid}
use Rattle.ndarray.specs.base.PlaceMap.{LiesApart}
use Rattle.ndarray.specs.base.CellLayouts.{CellLayout, place_in}
use Rattle.ndarray.specs.places.CellPlaces.{stepping, HasPassed, AreOnceInBox}
use Rattle.ndarray.proofs.boxes.Boxes.{InBox-some}
use Rattle.ndarray.proofs.cells.Cells.{along-row_order, cell-Some}
use Rattle.ndarray.proofs.lists.Elements.{filter_map-same}
use Rattle.ndarray.proofs.strides.NestedPlaces.{nested-distinct}
use Rattle.ndarray.proofs.boxes.Orders.{row_order-is, IsBefore-not_itself}
use Rattle.ndarray.proofs.lists.Pairs.{Contains-cases, Contains-first, Contains-later, AllPairs-head, AllPairs-tail}

-- no two index lists have one place
pub lies-alone : (m : CellLayout) → LiesApart m → (is js : List ℕ) → InBox m.lengths is → InBox m.lengths js → place_in m is ≡ place_in m js → is ≡ js
lies-alone m h is js bi bj = nested-distinct m.lengths m.start m.strides is js h.as_many (h.nested (InBox-some m.lengths is bi)) bi bj

-- what holds of the value that there is
pub if_some : {X : Type 0} (o : Option X) (P : Type 0) (Q R : X → Type 0) → MatchOption o P Q → ((x : X) → Q x → R x) → IfSome o R
if_some None P Q R h to = tt
if_some (Some x) P Q R h to = to x h

-- what a mapped list contains
map-contains : {X : Type 0} (f : X → ℕ) (ys : List X) (p : ℕ) → Contains (map f ys) p → (y : X) × (Contains ys y × (f y ≡ p))
map-contains f [] p (k, lt, e) = absurd (omega (arith, lt))
map-contains f (y ∷ ys) p (zero, lt, e) = (y, (Contains-first y ys, e))
map-contains f (y ∷ ys) p (suc k, lt, e) = let r = map-contains f ys p (k, omega (arith, lt), e) in (r.0, (Contains-later y ys r.0 r.1.0, r.1.1))

-- at first each index list of the box is to come
pub once-first : (ns : List ℕ) → AreOnceInBox ns (row_order ns)
once-first ns = record {
  within = (row_order-is ns).within;
  once = λ i j d lt h e. IsBefore-not_itself _ (subst (λ is. IsBefore is (get_or (row_order ns) j d)) e ((row_order-is ns).rising i j d lt h));
}

-- none was passed then
pub none-passed : (m : CellLayout) (p : ℕ) → HasPassed (stepping m (row_order m.lengths)) p → ⊥
none-passed m p h = h.1.2 ((row_order-is m.lengths).whole h.0 h.1.0)

-- the first index list is passed
module _ (m : CellLayout) (ys rest : List (List ℕ)) (is : List ℕ) (p : ℕ) (e : ys ≡ is ∷ rest) (h : AreOnceInBox m.lengths ys) (at : p ≡ place_in m is) (alone : (js : List ℕ) → InBox m.lengths js → place_in m js ≡ p → js ≡ is) where
  now : AreOnceInBox m.lengths (is ∷ rest)
  now = subst (AreOnceInBox m.lengths) e h

  pub once-rest : AreOnceInBox m.lengths rest
  once-rest = record {
    within = All-tail (InBox m.lengths) is rest now.within;
    once = AllPairs-tail (λ is js. is ≢ js) is rest now.once;
  }

  -- it does not come again
  not_again : Contains rest is → ⊥
  not_again c = AllPairs-head (λ is js. is ≢ js) is rest is now.once c refl

  pub place-once : Contains (map (place_in m) rest) p → ⊥
  place-once c =
      let r = map-contains (place_in m) rest p c in
      not_again (subst (Contains rest) (alone r.0 (All-contains (InBox m.lengths) rest r.0 once-rest.within r.1.0) r.1.1) r.1.0)

  -- the places that were passed are those before and its own
  pub passed-more : (q : ℕ) → HasPassed (stepping m rest) q ↔ (HasPassed (stepping m ys) q ⊎ (◌≡◌ {A = Option ℕ} (Some p) (Some q)))
  passed-more q = (
    λ w.
        elim (cases_eq p q) [
          | inl same ↦ inr (ap (λ x. Some x) same)
          | inr other ↦ inl (
            w.0,
            (
              w.1.0,
              w.1.1,
              λ c.
                  elim (Contains-cases is rest w.0 (subst (λ xs. Contains xs w.0) e c)) [
                    | inl here ↦ other (at ∙ (ap (place_in m) here ∙ w.1.1))
                    | inr later ↦ w.1.2 later
                  ],
            ),
          )
        ],
    λ s.
        elim s [
          | inl before ↦ (before.0, (before.1.0, before.1.1, λ c. before.1.2 (subst (λ xs. Contains xs before.0) (sym e) (Contains-later is rest before.0 c))))
          | inr here ↦ (let same : p ≡ q = cc in (is, (All-head (InBox m.lengths) is rest now.within, sym at ∙ same, not_again)))
        ],
  )

-- of a place that has an index list, the walk tells whether it was passed
pub passed-tells : (m : CellLayout) (ys : List (List ℕ)) (is : List ℕ) (p : ℕ) (ahead : Bool) → InBox m.lengths is → place_in m is ≡ p → ((js : List ℕ) → InBox m.lengths js → place_in m js ≡ p → js ≡ is) → (IsTrue ahead ↔ Contains ys is) → IsTrue (not ahead) ↔ HasPassed (stepping m ys) p
passed-tells m ys is p true b e alone tells = (λ f. absurd (let no : false ≡ true = f in cc), λ h. absurd (h.1.2 (subst (Contains ys) (sym (alone h.0 h.1.0 h.1.1)) (tells.0 refl))))
passed-tells m ys is p false b e alone tells = (λ t. (is, (b, e, λ c. let no : false ≡ true = tells.1 c in cc)), λ h. refl)

-- the cells that lie at mapped places
found-mapped : {X Y : Type 0} (at : ℕ → Option Y) (f : X → ℕ) (ys : List X) → filter_map at (map f ys) ≡ filter_map (λ y. at (f y)) ys
found-mapped at f [] = refl
found-mapped at f (y ∷ ys) = ap (cons_option (at (f y))) (found-mapped at f ys)

-- along the places in row order lie the array's cells
pub cells-along : {A : Type 0} (g : Grid A) (xs : List A) (m : CellLayout) → IsGrid g → m.lengths ≡ g.lengths → ((is : List ℕ) → InBox g.lengths is → slice_get xs (place_in m is) ≡ cell g is) → filter_map (slice_get xs) (map (place_in m) (row_order m.lengths)) ≡ g.cells
cells-along g xs m whole e same =
    ap (λ ns. filter_map (slice_get xs) (map (place_in m) (row_order ns))) e
    ∙ (found-mapped (slice_get xs) (place_in m) (row_order g.lengths)
    ∙ (filter_map-same (λ is. slice_get xs (place_in m is)) (cell g) (InBox g.lengths) (row_order g.lengths) same (row_order-is g.lengths).within
    ∙ along-row_order g whole))

-- and each of these places is one of the list
pub places-within : {A : Type 0} (g : Grid A) (xs : List A) (m : CellLayout) → IsGrid g → m.lengths ≡ g.lengths → ((is : List ℕ) → InBox g.lengths is → slice_get xs (place_in m is) ≡ cell g is) → All (λ p. p < length xs) (map (place_in m) (row_order m.lengths))
places-within g xs m whole e same =
    All-map (λ p. p < length xs) (place_in m) (row_order m.lengths)
    (λ k d lt.
    let b = subst (λ ns. InBox ns (get_or (row_order m.lengths) k d)) e ((row_order-is m.lengths).within k d lt) in
    let c = cell-Some g whole (get_or (row_order m.lengths) k d) b in
    slice_get_within xs (place_in m (get_or (row_order m.lengths) k d)) c.0 (same (get_or (row_order m.lengths) k d) b ∙ c.1))
