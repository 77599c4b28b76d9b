-- Operations on one array: what they made, where it is a function of the index list.
use Rattle.std.proofs.Common.{◌≡◌, ◌∙◌, ℕ, Bool, true, false, if◌then◌else◌, List, [], ◌∷◌, Option, Some, ap, map, refl}
use Rattle.std.specs.Option.{option_map}
use Rattle.std.proofs.lemmas.Simd.{map-map}
use Rattle.ndarray.specs.Elementwise.{Maps}
use Rattle.ndarray.specs.Everyday.{mapped}
use Rattle.ndarray.specs.Grid.{Grid, array_by, beside, cell, grid, same_index}
use Rattle.ndarray.specs.Index.{row_order}
use Rattle.ndarray.proofs.callers.Elementwise.{array_by-follows}

pub maps-follow : {A C : Type 0} (g : Grid A) (r : Grid C) (gives : A → C → Type 0) (f : List ℕ → C) → ((is : List ℕ) (x : A) (z : C) → cell g is ≡ Some x → gives x z → z ≡ f is)
    → Maps gives g r → r ≡ array_by g.lengths f
maps-follow g r gives f each m = array_by-follows r g.lengths f m.whole m.lengths (λ is z there. let (x, here, given) = m.cells is z there in each is x z here given)

-- two operations in turn
pub maps-follow-twice : {A B C : Type 0} (g : Grid A) (h : Grid B) (r : Grid C) (first : A → B → Type 0) (second : B → C → Type 0) (f : List ℕ → C)
    → ((is : List ℕ) (x : A) (y : B) (z : C) → cell g is ≡ Some x → first x y → second y z → z ≡ f is) → Maps first g h → Maps second h r → r ≡ array_by g.lengths f
maps-follow-twice g h r first second f each m n =
    array_by-follows r g.lengths f n.whole (n.lengths ∙ m.lengths)
    (λ is z there.
    let (y, between, last) = n.cells is z there in
    let (x, here, given) = m.cells is y between in
    each is x y z here given last)

-- h of each cell of an array made by a function of the index list
pub mapped-array_by : {A B : Type 0} (h : A → B) (ns : List ℕ) (f : List ℕ → A) → mapped h (array_by ns f) ≡ array_by ns (λ is. h (f is))
mapped-array_by h ns f = ap (grid ns) (map-map h f (row_order ns))

module _ {A B : Type 0} (h : A → B) where
  chosen : (t : Bool) (x : A) (o : Option A) (p : Option B) → p ≡ option_map h o → (if t then Some (h x) else p) ≡ option_map h (if t then Some x else o)
  chosen true x o p e = refl
  chosen false x o p e = e

  beside-mapped : (iss : List (List ℕ)) (xs : List A) (is : List ℕ) → beside iss (map h xs) is ≡ option_map h (beside iss xs is)
  beside-mapped [] xs is = refl
  beside-mapped (js ∷ iss) [] is = refl
  beside-mapped (js ∷ iss) (x ∷ xs) is = chosen (same_index js is) x (beside iss xs is) (beside iss (map h xs) is) (beside-mapped iss xs is)

  -- and of an array, the cell at an index list
  pub mapped-at : (g : Grid A) (is : List ℕ) → cell (mapped h g) is ≡ option_map h (cell g is)
  unfolding cell
  mapped-at g is = beside-mapped (row_order g.lengths) g.cells is
