-- From what is known of each cell of an array to the array.
use Rattle.std.proofs.Common.{◌≡◌, ◌∙◌, ℕ, List, [], ◌∷◌, map, Some, Option, refl, subst, ap}
use Rattle.std.proofs.lemmas.List.{map-id}
use Rattle.ndarray.specs.Elementwise.{Maps}
use Rattle.ndarray.specs.Everyday.{MapsTwo, combined, map_two, mapped}
use Rattle.ndarray.specs.Grid.{Grid, IsGrid, cell, grid}
use Rattle.ndarray.specs.Index.{InBox, row_order}
use Rattle.ndarray.specs.Runs.{Collects}
use Rattle.ndarray.specs.declared.base.shape.Order.{Order}
use Rattle.ndarray.proofs.callers.RowOrder.{in_row}
use Rattle.ndarray.proofs.cells.Cells.{cell-inside}
use Rattle.ndarray.proofs.cells.CollectedCells.{Collects-at}

-- what is at the index lists of the box in row order are the cells
pub in_row-of : {A : Type 0} (g : Grid A) (ns : List ℕ) → IsGrid g → g.lengths ≡ ns → map (cell g) (row_order ns) ≡ map Some g.cells
in_row-of g ns whole e = subst (λ ms. map (cell g) (row_order ms) ≡ map Some g.cells) e (in_row g whole)

module _ {A B : Type 0} (at : List ℕ → Option A) (bt : List ℕ → Option B) (h : A → B) (each : (i : List ℕ) (x : A) (z : B) → at i ≡ Some x → bt i ≡ Some z → z ≡ h x) where
  beside-one : (is : List (List ℕ)) (xs : List A) (zs : List B) → map at is ≡ map Some xs → map bt is ≡ map Some zs → zs ≡ map h xs
  beside-one [] [] [] d e = refl
  beside-one [] [] (z ∷ zs) d e = absurd (cc)
  beside-one [] (x ∷ xs) zs d e = absurd (cc)
  beside-one (i ∷ is) [] zs d e = absurd (cc)
  beside-one (i ∷ is) (x ∷ xs) [] d e = absurd (cc)
  beside-one (i ∷ is) (x ∷ xs) (z ∷ zs) d e =
      let first : at i ≡ Some x = cc in
      let second : bt i ≡ Some z = cc in
      let here : z ≡ h x = each i x z first second in
      let rest : zs ≡ map h xs = beside-one is xs zs (cc) (cc) in
      cc

module _ {A B C : Type 0} (at : List ℕ → Option A) (bt : List ℕ → Option B) (ct : List ℕ → Option C) (h : A → B → C)
    (each : (i : List ℕ) (x : A) (y : B) (z : C) → at i ≡ Some x → bt i ≡ Some y → ct i ≡ Some z → z ≡ h x y) where
  beside-two : (is : List (List ℕ)) (xs : List A) (ys : List B) (zs : List C) → map at is ≡ map Some xs → map bt is ≡ map Some ys → map ct is ≡ map Some zs → zs ≡ map_two h xs ys
  beside-two [] [] [] [] d e f = refl
  beside-two [] [] [] (z ∷ zs) d e f = absurd (cc)
  beside-two [] [] (y ∷ ys) zs d e f = absurd (cc)
  beside-two [] (x ∷ xs) ys zs d e f = absurd (cc)
  beside-two (i ∷ is) [] ys zs d e f = absurd (cc)
  beside-two (i ∷ is) (x ∷ xs) [] zs d e f = absurd (cc)
  beside-two (i ∷ is) (x ∷ xs) (y ∷ ys) [] d e f = absurd (cc)
  beside-two (i ∷ is) (x ∷ xs) (y ∷ ys) (z ∷ zs) d e f =
      let first : at i ≡ Some x = cc in
      let second : bt i ≡ Some y = cc in
      let third : ct i ≡ Some z = cc in
      let here : z ≡ h x y = each i x y z first second third in
      let rest : zs ≡ map_two h xs ys = beside-two is xs ys zs (cc) (cc) (cc) in
      cc

same-parts : {A : Type 0} (r : Grid A) (ns : List ℕ) (xs : List A) → r.lengths ≡ ns → r.cells ≡ xs → r ≡ grid ns xs
same-parts r ns xs e f = λ i. grid (e i) (f i)

-- each cell is what h gives on the one of another array there
pub maps-mapped : {A B : Type 0} (g : Grid A) (r : Grid B) (gives : A → B → Type 0) (h : A → B) → IsGrid g → ((x : A) (z : B) → gives x z → z ≡ h x) → Maps gives g r → r ≡ mapped h g
maps-mapped g r gives h whole acts made = same-parts r g.lengths _ made.lengths
    (beside-one (cell g) (cell r) h
    (λ i x z here there.
    let (own, seen, given) = made.cells i z there in
    let same : own ≡ x = cc in
    acts own z given ∙ ap h same)
    (row_order g.lengths) g.cells r.cells (in_row g whole) (in_row-of r g.lengths made.whole made.lengths))

-- and on those of two arrays of one shape
pub maps-combined : {A B C : Type 0} (g : Grid A) (k : Grid B) (r : Grid C) (gives : A → B → C → Type 0) (h : A → B → C) → IsGrid g → IsGrid k → k.lengths ≡ g.lengths
    → ((x : A) (y : B) (z : C) → gives x y z → z ≡ h x y) → MapsTwo gives g k r → r ≡ combined h g k
maps-combined g k r gives h whole second same acts made = same-parts r g.lengths _ made.lengths
    (beside-two (cell g) (cell k) (cell r) h
    (λ i x y z here other there.
    let (own, other_cell, seen, met, given) = made.cells i z there in
    let left : own ≡ x = cc in
    let right : other_cell ≡ y = cc in
    acts own other_cell z given ∙ (ap (λ u. h u other_cell) left ∙ ap (h x) right))
    (row_order g.lengths) g.cells k.cells r.cells (in_row g whole) (in_row-of k g.lengths second same) (in_row-of r g.lengths made.whole made.lengths))

-- each cell is the one of another array there
pub maps-itself : {A : Type 0} (g r : Grid A) → IsGrid g → Maps (λ x z. z ≡ x) g r → r ≡ g
maps-itself g r whole made = maps-mapped g r (λ x z. z ≡ x) (λ x. x) whole (λ x z e. e) made ∙ ap (grid g.lengths) (map-id g.cells)

-- what calls at the cells of two arrays of one shape made
module _ {F X R : Type 0} (yields_at : List ℕ → X → Type 0) (call_gives : F → X → R → F → Type 0) (Known : F → Type 0)
    (keeps : (f : F) (x : X) (r : R) (h : F) → Known f → call_gives f x r h → Known h) (o : Order) (f : F) (known : Known f) (r : Grid R) (whole : IsGrid r) where
  pub maps_two-of : {A B : Type 0} (g : Grid A) (k : Grid B) (left_of : X → A) (right_of : X → B) (gives : A → B → R → Type 0)
      → ((i : List ℕ) (x : X) → yields_at i x → (cell g i ≡ Some (left_of x)) × (cell k i ≡ Some (right_of x)))
      → ((f : F) (x : X) (z : R) (h : F) → Known f → call_gives f x z h → gives (left_of x) (right_of x) z)
      → (ns : List ℕ) → ns ≡ g.lengths → Collects yields_at call_gives o ns f r → MapsTwo gives g k r
  maps_two-of g k left_of right_of gives at each ns same c = record {
    lengths = c.lengths ∙ same;
    whole = whole;
    cells = λ is z e.
        let t = Collects-at yields_at call_gives Known ns (λ i p x z h b y. keeps p x z h) o f r known c is (subst (λ ms. InBox ms is) c.lengths (cell-inside r is z e)) z e in
        let met = at is t.item t.yielded in
        (left_of t.item, right_of t.item, met.0, met.1, each t.before t.item z t.after t.known t.given);
  }
