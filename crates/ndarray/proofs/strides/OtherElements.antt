-- An array whose storage got other elements at all places.
use Rattle.std.proofs.Common.{◌≡◌, ℕ, suc, zero, List, [], ◌∷◌, ◌++◌, length, take, drop, map, get_or, Option, Some, refl, sym, ◌∙◌, ap, arith, subst}
use Rattle.std.specs.Prelude.{slice_get, IsTrue, filter_map, All}
use Rattle.std.specs.Option.{is_some}
use Rattle.std.proofs.lemmas.List.{take_all}
use Rattle.std.proofs.lemmas.List.Elements.{All-head, All-tail}
use Rattle.ndarray.specs.Index.{row_order}
use Rattle.ndarray.specs.Grid.{Grid, grid}
use Rattle.ndarray.specs.base.Parts.{cells_from}
use Rattle.ndarray.specs.base.Places.{place, Reaches, cells_at, grid_at, places_at}
use Rattle.ndarray.proofs.lists.Elements.{some-of}
use Rattle.ndarray.proofs.strides.Reach.{all-some}

-- the elements of a vector, with other elements from its front on
pub refilled-at : {X : Type 0} (ws xs : List X) (n p : ℕ) (x : X) → n ≡ length xs → slice_get xs p ≡ Some x → slice_get (take n (ws ++ drop (length ws) xs)) p ≡ Some (get_or ws p x)
refilled-at [] xs n p x l h = ap (λ ys. slice_get ys p) (take_all n xs (omega arith)) ∙ h
refilled-at (w ∷ ws) [] n p x l h = cc
refilled-at (w ∷ ws) (y ∷ ys) zero p x l h = absurd (omega arith)
refilled-at (w ∷ ws) (y ∷ ys) (suc n) zero x l h = refl
refilled-at (w ∷ ws) (y ∷ ys) (suc n) (suc p) x l h = refilled-at ws ys n p x (omega arith) h

cells-refilled : {A : Type 0} (at after : ℕ → Option A) (ws : List A) (f : List ℕ → ℕ) (iss : List (List ℕ)) → ((p : ℕ) (x : A) → at p ≡ Some x → after p ≡ Some (get_or ws p x)) → All (λ is. (x : A) × (at (f is) ≡ Some x)) iss → filter_map (λ is. after (f is)) iss ≡ cells_from (map f iss) (filter_map (λ is. at (f is)) iss) ws
cells-refilled at after ws f [] e h = refl
cells-refilled {A} at after ws f (is ∷ iss) e h =
    let here = All-head (λ js. (x : A) × (at (f js) ≡ Some x)) is iss h in
    let ih = cells-refilled at after ws f iss e (All-tail (λ js. (x : A) × (at (f js) ≡ Some x)) is iss h) in
    rw (here.1, e (f is) here.0 here.1) (ap (λ ys. get_or ws (f is) here.0 ∷ ys) ih)

module _ {A one : Type 0} (at after : ℕ → Option A) (ns : List ℕ) (start : ℕ) (bs : List ℕ) (h : Reaches one at ns start bs) (ws : List A) (e : (p : ℕ) (x : A) → at p ≡ Some x → after p ≡ Some (get_or ws p x)) where
  pub Reaches-refilled : Reaches one after ns start bs
  Reaches-refilled = record {
    as_many = h.as_many;
    limit = h.limit;
    inside = λ is b. let x = some-of (at (place start bs is)) (h.inside is b) in subst (λ o. IsTrue (is_some o)) (sym (e (place start bs is) x.0 x.1)) refl;
    nested = h.nested;
  }

  pub grid-refilled : (g : Grid A) → grid_at at ns start bs ≡ g → grid_at after ns start bs ≡ grid g.lengths (cells_from (places_at ns start bs) g.cells ws)
  unfolding cells_at
  grid-refilled g v =
      ap (grid ns) (cells-refilled at after ws (place start bs) (row_order ns) e (all-some at ns start bs h))
      ∙ ap (λ y. grid y.lengths (cells_from (places_at ns start bs) y.cells ws)) v
