-- What one write leaves of an array.
use Rattle.std.proofs.Common.{◌≡◌, ◌≢◌, ℕ, suc, List, [], ◌∷◌, length, Option, Some, refl, sym, ◌∙◌, ap, arith, subst, inl, inr, true, false}
use Rattle.std.specs.Prelude.{IsTrue, Contains}
use Rattle.std.specs.Option.{is_some}
use Rattle.std.proofs.lemmas.Bool.{cases_Bool, cases_eq}
use Rattle.ndarray.specs.Index.{InBox, row_order}
use Rattle.ndarray.specs.Grid.{Grid, grid, same_index, beside, cell, IsGrid}
use Rattle.ndarray.specs.Writes.{put_beside, with_cell}
use Rattle.ndarray.specs.base.Places.{place, Reaches, grid_at}
use Rattle.ndarray.proofs.lists.Pairs.{Contains-cases}
use Rattle.ndarray.proofs.lists.CellLookup.{same_index-refl, same_index-true, same_index-false}
use Rattle.ndarray.proofs.boxes.Orders.{row_order-is, length-row_order}
use Rattle.ndarray.proofs.cells.Cells.{same_grid}
use Rattle.ndarray.proofs.strides.NestedPlaces.{Reaches-apart}
use Rattle.ndarray.proofs.strides.Reach.{length-cells_at, cell-at}

module _ {A : Type 0} where
  length-put_beside : (jss : List (List ℕ)) (xs : List A) (is : List ℕ) (w : A) → length (put_beside jss xs is w) ≡ length xs
  length-put_beside [] xs is w = refl
  length-put_beside (js ∷ jss) [] is w = refl
  length-put_beside (js ∷ jss) (x ∷ xs) is w =
      elim (cases_Bool (same_index js is)) [
        | inl e ↦ rw e refl
        | inr e ↦ rw e (ap (λ n. suc n) (length-put_beside jss xs is w))
      ]

  beside-put_here : (jss : List (List ℕ)) (xs : List A) (is : List ℕ) (w : A) → length xs ≡ length jss → Contains jss is → beside jss (put_beside jss xs is w) is ≡ Some w
  beside-put_here [] xs is w same c = absurd (omega (arith, c.1))
  beside-put_here (js ∷ jss) [] is w same c = absurd (omega arith)
  beside-put_here (js ∷ jss) (x ∷ xs) is w same c =
      elim (cases_Bool (same_index js is)) [
        | inl e ↦ rw (e, e) refl
        | inr e ↦ rw (e, e) (beside-put_here jss xs is w (omega arith) (elim (Contains-cases js jss is c) [
          | inl here ↦ (let t : same_index js is ≡ true = subst (λ ks. same_index js ks ≡ true) here (same_index-refl js) in cc)
          | inr later ↦ later
        ]))
      ]

  beside-put_elsewhere : (jss : List (List ℕ)) (xs : List A) (is js : List ℕ) (w : A) → js ≢ is → beside jss (put_beside jss xs is w) js ≡ beside jss xs js
  beside-put_elsewhere [] xs is js w other = refl
  beside-put_elsewhere (ks ∷ jss) [] is js w other = refl
  beside-put_elsewhere (ks ∷ jss) (x ∷ xs) is js w other =
      elim (cases_Bool (same_index ks is)) [
        | inl e ↦ (let f : same_index ks js ≡ false = same_index-false ks js (λ q. other (sym q ∙ same_index-true ks is e)) in rw (e, f) refl)
        | inr e ↦ elim (cases_Bool (same_index ks js)) [
          | inl t ↦ rw (e, t) refl
          | inr f ↦ rw (e, f) (beside-put_elsewhere jss xs is js w other)
        ]
      ]

  put_beside-own : (jss : List (List ℕ)) (xs : List A) (is : List ℕ) (w : A) → beside jss xs is ≡ Some w → put_beside jss xs is w ≡ xs
  put_beside-own [] xs is w e = cc
  put_beside-own (js ∷ jss) [] is w e = refl
  put_beside-own (js ∷ jss) (x ∷ xs) is w e =
      elim (cases_Bool (same_index js is)) [
        | inl t ↦ (let there : Some x ≡ Some w = rw t at e in let own : x ≡ w = cc in rw t (ap (λ v. v ∷ xs) (sym own)))
        | inr f ↦ rw f (ap (λ l. x ∷ l) (put_beside-own jss xs is w (rw f at e)))
      ]

  -- an array with another cell is whole, has that cell, and has all others as before
  pub with_cell-whole : (g : Grid A) (is : List ℕ) (w : A) → IsGrid g → IsGrid (with_cell g is w)
  with_cell-whole g is w whole = length-put_beside (row_order g.lengths) g.cells is w ∙ whole

  pub with_cell-here : (g : Grid A) (is : List ℕ) (w : A) → IsGrid g → InBox g.lengths is → cell (with_cell g is w) is ≡ Some w
  unfolding cell
  with_cell-here g is w whole b = beside-put_here (row_order g.lengths) g.cells is w (whole ∙ sym (length-row_order g.lengths)) ((row_order-is g.lengths).whole is b)

  pub with_cell-elsewhere : (g : Grid A) (is js : List ℕ) (w : A) → js ≢ is → cell (with_cell g is w) js ≡ cell g js
  unfolding cell
  with_cell-elsewhere g is js w other = beside-put_elsewhere (row_order g.lengths) g.cells is js w other

  -- with a cell that it has, it is itself
  pub with_cell-own : (g : Grid A) (is : List ℕ) (w : A) → cell g is ≡ Some w → with_cell g is w ≡ g
  unfolding cell
  with_cell-own g is w e = ap (grid g.lengths) (put_beside-own (row_order g.lengths) g.cells is w e)

-- the storage has w at the place of an index list, and all else as before
module _ {A one : Type 0} (at after : ℕ → Option A) (ns : List ℕ) (start : ℕ) (bs : List ℕ) (h : Reaches one at ns start bs) (it : one) (is : List ℕ) (box : InBox ns is) (w : A) (here : after (place start bs is) ≡ Some w) (others : (p : ℕ) → p ≢ place start bs is → after p ≡ at p) where
  pub Reaches-written : Reaches one after ns start bs
  Reaches-written = record {
    as_many = h.as_many;
    limit = h.limit;
    inside = λ js b.
        elim (cases_eq (place start bs js) (place start bs is)) [
          | inl e ↦ subst (λ o. IsTrue (is_some o)) (sym (ap after e ∙ here)) refl
          | inr ne ↦ subst (λ o. IsTrue (is_some o)) (sym (others (place start bs js) ne)) (h.inside js b)
        ];
    nested = h.nested;
  }

  pub grid-written : (g : Grid A) → grid_at at ns start bs ≡ g → grid_at after ns start bs ≡ with_cell g is w
  grid-written g v =
      let before : Grid A = grid_at at ns start bs in
      let whole = length-cells_at at ns start bs h in
      same_grid (grid_at after ns start bs) (with_cell before is w) (length-cells_at after ns start bs Reaches-written) (with_cell-whole before is w whole) refl
      (λ js b.
      cell-at after ns start bs Reaches-written js b
      ∙ elim (cases_eq (place start bs js) (place start bs is)) [
        | inl e ↦ (let same : js ≡ is = Reaches-apart at ns start bs h it js is b box e in
            ap after e ∙ (here ∙ sym (ap (cell (with_cell before is w)) same ∙ with_cell-here before is w whole box)))
        | inr ne ↦ others (place start bs js) ne
            ∙ (sym (cell-at at ns start bs h js b) ∙ sym (with_cell-elsewhere before is js w (λ e. ne (ap (place start bs) e))))
      ])
      ∙ ap (λ y. with_cell y is w) v
