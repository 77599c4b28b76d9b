-- Arrays that have the values of products.
use Rattle.std.proofs.Common.{◌≡◌, ◌∙◌, ℕ, zero, suc, ◌<◌, get_or, List, [], ◌∷◌, Some, ap, arith, map, subst, sym}
use Rattle.std.specs.Prelude.{Result, IfOk, IsOk, slice_get}
use Rattle.ndarray.specs.linalg.Entries.{HasEntries}
use Rattle.ndarray.specs.Grid.{Grid, IsGrid}
use Rattle.ndarray.specs.Index.{row_order, size}
use Rattle.ndarray.specs.Matrices.{Matrix}
use Rattle.ndarray.specs.Products.{Accumulates, AccumulatesEntries, AddsScaled, CanSumInner, HasSumsInRange, HasValues, MakesValues, product_of}
use Rattle.ndarray.specs.base.Ranks.{rank}
use Rattle.ndarray.specs.declared.elements.Valued.{Ghosts as ValuedGhosts}
use Rattle.ndarray.proofs.boxes.Boxes.{InBox-some}
use Rattle.ndarray.proofs.boxes.Orders.{row_order-at}
use Rattle.ndarray.proofs.callers.Collecting.{if_ok-both}
use Rattle.ndarray.proofs.cells.Cells.{cell-inside, cell-within}

-- elements whose values are listed
mapped-at : {X Y C : Type 0} (f : X → C) (h : Y → C) (xs : List X) (ys : List Y) (k : ℕ) (x : X) (d : Y) → map f xs ≡ map h ys → slice_get xs k ≡ Some x → f x ≡ h (get_or ys k d)
mapped-at f h [] ys k x d same at = absurd (cc)
mapped-at f h (z ∷ xs) [] k x d same at = absurd (cc)
mapped-at f h (z ∷ xs) (y ∷ ys) zero x d same at = cc
mapped-at f h (z ∷ xs) (y ∷ ys) (suc k) x d same at = mapped-at f h xs ys k x d (cc) at

module _ {A : Type 0} (e : ValuedGhosts A) where
  -- an array whose cells have the values of the index lists in row order
  pub values-in_row_order : (ns : List ℕ) (value : List ℕ → e.Carrier) (r : Grid A) → r.lengths ≡ ns → IsGrid r → map e.meaning r.cells ≡ map value (row_order ns) → HasValues e ns value r
  values-in_row_order ns value r same whole values = record {
    lengths = same;
    whole = whole;
    cells = λ is z at.
        let inside = cell-inside r is z at in
        mapped-at e.meaning value r.cells (row_order ns) (rank r.lengths is) z [] values (sym (cell-within r whole is inside) ∙ at)
        ∙ ap value (ap (λ ms. get_or (row_order ms) (rank r.lengths is) []) (sym same) ∙ row_order-at r.lengths is [] inside);
  }

  pub values-none : (ns : List ℕ) (value : List ℕ → e.Carrier) (r : Grid A) → r.lengths ≡ ns → IsGrid r → size ns ≡ 0 → HasValues e ns value r
  values-none ns value r same whole none = record {
    lengths = same;
    whole = whole;
    cells = λ is z at. let some = InBox-some r.lengths is (cell-inside r is z at) in absurd (omega (arith, some, ap size same, none));
  }

  -- an array of entries whose values are known
  pub values-of : {X E : Type 0} (numbers : X → List ℕ) (computes : X → A → Type 0) (ns ms : List ℕ) (value : List ℕ → e.Carrier) → ns ≡ ms
      → ((t : X) (z : A) → computes t z → e.meaning z ≡ value (numbers t)) → (r : Result (Grid A) E) → IfOk r (HasEntries numbers computes ns) → (size ns ≡ 0 → IsOk r) → MakesValues e ms value r
  values-of numbers computes ns ms value same each r made empty = record {
    made = if_ok-both r _ _ _
        (λ w h k. record {
          lengths = h.lengths ∙ same;
          whole = h.whole;
          cells = λ is z at. let (t, num, computed) = h.cells is z at in each t z computed ∙ ap value num;
        })
        made made;
    empty = λ none. empty (ap size same ∙ none);
  }

  pub accumulates-of : {X : Type 0} (numbers : X → List ℕ) (computes : X → A → Type 0) (value : List ℕ → e.Carrier) (alpha beta : A) (old new : Grid A)
      → ((t : X) (s : A) → computes t s → e.meaning s ≡ value (numbers t)) → AccumulatesEntries e numbers computes alpha beta old new → Accumulates e alpha beta value old new
  accumulates-of numbers computes value alpha beta old new each h = record {
    lengths = h.lengths;
    whole = h.whole;
    cells = λ is z there.
        let (x, at, t, s, num, computed, added) = h.cells is z there in
        (x, at, subst (λ y. AddsScaled e (e.meaning alpha) (e.meaning beta) (e.meaning x) y (e.meaning z)) (each t s computed ∙ ap value num) added);
  }

  -- sums of products of views are those of what they view
  module _ (F G : Grid A → Matrix e.Carrier) (a b w z : Grid A) (left : w ≡ a) (right : z ≡ b) (i j : ℕ) where
    pub sums-of_views : (F a).columns ≡ (G b).rows → i < (F a).rows → j < (G b).columns → HasSumsInRange e (F a) (G b) → CanSumInner e (F w) (G z) i j
    sums-of_views inner row column sums =
        subst (λ u. CanSumInner e (F u) (G z) i j) (sym left)
        (subst (λ u. CanSumInner e (F a) (G u) i j) (sym right) (record { inner = inner; row = row; column = column; sums = sums i j row column }))

    pub product-of_views : (product_of e (F w) (G z)).cell i j ≡ (product_of e (F a) (G b)).cell i j
    product-of_views = ap (λ u. (product_of e (F u) (G z)).cell i j) left ∙ ap (λ u. (product_of e (F a) (G u)).cell i j) right
