-- The first cell in row order that no other beats.
use Rattle.std.proofs.Common.{◌≡◌, ◌∙◌, ◌<◌, ℕ, Bool, true, false, List, [], ◌∷◌, None, Option, Some, ap, arith, cond, get_or, inl, inr, length, refl, slice_get, subst, sym}
use Rattle.std.specs.Borrow.{Bor}
use Rattle.std.specs.Prelude.{All, IfSome, MatchOption, zip}
use Rattle.std.specs.Cmp.{IsStrictWeakOrder, IsTotalOrder}
use Rattle.std.specs.List.{IsFirstBest, best_of, reduce}
use Rattle.std.specs.declared.cmp.Ordering.{Ordering}
use Rattle.std.proofs.lemmas.Bool.{cases_lt}
use Rattle.std.proofs.lemmas.List.{get_or_default}
use Rattle.std.proofs.lemmas.List.MinMax.{IsFirstBest-from_best_of, IsStrictWeakOrder-flip, ranks_by}
use Rattle.std.proofs.lemmas.Option.{slice_get-get_or}
use Rattle.std.proofs.lemmas.Slice.Zip.{get_or-zip, length-zip}
use Rattle.ndarray.specs.Extremes.{IsFirstBestCell, greater, less}
use Rattle.ndarray.specs.Grid.{Grid, IsGrid, cell}
use Rattle.ndarray.specs.every_day.Preferences.{preferred}
use Rattle.ndarray.specs.declared.everyday.extremes.Extreme.{Extreme}
use Rattle.ndarray.specs.declared.everyday.extremes.Extreme.TheVariants.{Least, Greatest}
use Rattle.ndarray.specs.Index.{InBox, IsBefore, row_order}
use Rattle.ndarray.specs.base.Ranks.{rank}
use Rattle.ndarray.proofs.boxes.Orders.{IsBefore-not_itself, before-from_rank, length-row_order, rank-lt, row_order-at, row_order-back}
use Rattle.ndarray.proofs.callers.EachCell.{each-cell}
use Rattle.ndarray.proofs.cells.Cells.{cell-inside, cell-within}

less-ranks : {A : Type 0} (cmp : A → A → Ordering) → IsTotalOrder cmp → IsStrictWeakOrder (less cmp)
less-ranks cmp total = ranks_by total (λ x. x)

greater-ranks : {A : Type 0} (cmp : A → A → Ordering) → IsTotalOrder cmp → IsStrictWeakOrder (greater cmp)
greater-ranks cmp total = IsStrictWeakOrder-flip (less cmp) (less-ranks cmp total)

before-back : (is js : List ℕ) → IsBefore is js → IsBefore js is → ⊥
before-back [] js h k = h
before-back (i ∷ is) [] h k = h
before-back (i ∷ is) (j ∷ js) (inl a) (inl b) = absurd (omega (arith, a, b))
before-back (i ∷ is) (j ∷ js) (inl a) (inr b) = absurd (omega (arith, a, b.0))
before-back (i ∷ is) (j ∷ js) (inr a) (inl b) = absurd (omega (arith, a.0, b))
before-back (i ∷ is) (j ∷ js) (inr a) (inr b) = before-back is js a.1 b.1

-- an index list that comes before another has a smaller rank
rank-before : (ns is js : List ℕ) → InBox ns is → InBox ns js → IsBefore is js → rank ns is < rank ns js
rank-before ns is js hi hj before = elim (cases_lt (rank ns is) (rank ns js)) [
  | inl lt ↦ lt
  | inr ge ↦ elim (cases_lt (rank ns js) (rank ns is)) [
    | inl gt ↦ absurd (before-back is js before (before-from_rank ns js is hj hi gt))
    | inr le ↦
        let same : rank ns is ≡ rank ns js = omega (arith, ge, le) in
        let one : is ≡ js = sym (row_order-at ns is [] hi) ∙ (ap (λ k. get_or (row_order ns) k []) same ∙ row_order-at ns js [] hj) in
        absurd (IsBefore-not_itself js (subst (λ ks. IsBefore ks js) one before))
  ]
]

module _ {A : Type 0} (beats : A → A → Bool) (g : Grid A) (whole : IsGrid g) where
  cell-at_rank : (js : List ℕ) (y : A) → cell g js ≡ Some y → (rank g.lengths js < length g.cells) × (get_or g.cells (rank g.lengths js) y ≡ y)
  cell-at_rank js y there =
      let box = cell-inside g js y there in
      let lt : rank g.lengths js < length g.cells = let r = rank-lt g.lengths js box in omega (arith, r, whole) in
      let seen : slice_get g.cells (rank g.lengths js) ≡ Some y = sym (cell-within g whole js box) ∙ there in
      let held = slice_get-get_or g.cells (rank g.lengths js) y lt in
      (lt, cc)

  -- the best of the list of cells is the best cell of the array
  best-cell : (k : ℕ) (x : A) → IsFirstBest beats g.cells (length g.cells) k → get_or g.cells k x ≡ x → IsFirstBestCell beats g (get_or (row_order g.lengths) k []) x
  best-cell k x best same =
      let back = row_order-back g.lengths k [] (omega (arith, best.0, whole)) in
      let is : List ℕ = get_or (row_order g.lengths) k [] in
      let held = slice_get-get_or g.cells k x best.0 in
      record {
        here = cell-within g whole is back.0 ∙ (ap (slice_get g.cells) back.1 ∙ (held ∙ ap Some same));
        best = λ js y there.
            let at = cell-at_rank js y there in
            let b : beats (get_or g.cells (rank g.lengths js) y) (get_or g.cells k y) ≡ false = best.1 (rank g.lengths js) y at.0 in
            let x_is : get_or g.cells k y ≡ x = get_or_default g.cells k y x best.0 ∙ same in
            ap (λ z. beats z x) (sym at.1) ∙ (ap (beats (get_or g.cells (rank g.lengths js) y)) (sym x_is) ∙ b);
        first = λ js y there before.
            let at = cell-at_rank js y there in
            let lt = rank-before g.lengths js is (cell-inside g js y there) back.0 before in
            let b : beats (get_or g.cells k y) (get_or g.cells (rank g.lengths js) y) ≡ true = best.2 (rank g.lengths js) y (omega (arith, lt, back.1)) in
            let x_is : get_or g.cells k y ≡ x = get_or_default g.cells k y x best.0 ∙ same in
            ap (beats x) (sym at.1) ∙ (ap (λ z. beats z (get_or g.cells (rank g.lengths js) y)) (sym x_is) ∙ b);
      }

  module _ (o : IsStrictWeakOrder beats) where
    -- the best of a list that is the cells
    pub best-of_cells : (x : A) (xs : List A) → g.cells ≡ x ∷ xs → (is : List ℕ) × IsFirstBestCell beats g is (best_of beats x xs)
    best-of_cells x xs all =
        let (k, best, same) = IsFirstBest-from_best_of o x xs in
        let own : get_or g.cells k (best_of beats x xs) ≡ best_of beats x xs =
        ap (λ l. get_or l k (best_of beats x xs)) all ∙ (get_or_default (x ∷ xs) k (best_of beats x xs) x best.0 ∙ same) in
        (get_or (row_order g.lengths) k [], best-cell k (best_of beats x xs) (subst (λ l. IsFirstBest beats l (length l) k) (sym all) best) own)

    -- the best of a list that is the cells next to their index lists
    pub best-of_indexed : (p : List ℕ × A) (ps : List (List ℕ × A)) → zip (row_order g.lengths) g.cells ≡ p ∷ ps
        → IsFirstBestCell beats g (best_of (λ q r. beats q.1 r.1) p ps).0 (best_of (λ q r. beats q.1 r.1) p ps).1
    best-of_indexed p ps all =
        let two : IsStrictWeakOrder (λ (q : List ℕ × A) (r : List ℕ × A). beats q.1 r.1) = record {
          one_way = λ q r. o.one_way q.1 r.1;
          chain = λ q r s. o.chain q.1 r.1 s.1;
        } in
        let (k, best, same) = IsFirstBest-from_best_of two p ps in
        let many = length-row_order g.lengths in
        let size_is : length (p ∷ ps) ≡ length g.cells = ap length (sym all) ∙ (length-zip (row_order g.lengths) g.cells ∙ omega (arith, many, whole)) in
        let lt : k < length g.cells = omega (arith, best.0, size_is) in
        let at : (j : ℕ) → j < length g.cells → get_or (p ∷ ps) j p ≡ (get_or (row_order g.lengths) j p.0, get_or g.cells j p.1) =
        λ j below. ap (λ l. get_or l j p) (sym all) ∙ get_or-zip (row_order g.lengths) g.cells j p (omega (arith, below, many, whole)) below in
        let top = best_of (λ (q : List ℕ × A) (r : List ℕ × A). beats q.1 r.1) p ps in
        let pair : top ≡ (get_or (row_order g.lengths) k p.0, get_or g.cells k p.1) = sym same ∙ at k lt in
        let cell_is : get_or g.cells k top.1 ≡ top.1 = get_or_default g.cells k top.1 p.1 lt ∙ sym (ap (λ q. q.1) pair) in
        let index_is : get_or (row_order g.lengths) k [] ≡ top.0 = get_or_default (row_order g.lengths) k [] p.0 (omega (arith, lt, many, whole)) ∙ sym (ap (λ q. q.0) pair) in
        let one : (j : ℕ) (d : A) → j < length g.cells → get_or g.cells j d ≡ (get_or (p ∷ ps) j p).1 =
        λ j d below. get_or_default g.cells j d p.1 below ∙ sym (ap (λ q. q.1) (at j below)) in
        let firsts : IsFirstBest beats g.cells (length g.cells) k = (
          lt,
          λ j d below. ap (λ z. beats z (get_or g.cells k d)) (one j d below) ∙ (ap (beats (get_or (p ∷ ps) j p).1) (one k d lt) ∙ best.1 j p (omega (arith, below, size_is))),
          λ j d below. ap (λ z. beats z (get_or g.cells j d)) (one k d lt) ∙ (ap (beats (get_or (p ∷ ps) k p).1) (one j d (omega (arith, below, lt))) ∙ best.2 j p below),
        ) in
        subst (λ is. IsFirstBestCell beats g is top.1) index_is (best-cell k top.1 firsts cell_is)

    -- the best cell, as a loop over the cells finds it
    pub best-of_loop : (x : A) → reduce (λ best y. cond (beats y best) y best) g.cells ≡ Some x → (is : List ℕ) × IsFirstBestCell beats g is x
    best-of_loop x found = by g.cells refl found
      where
        by : (xs : List A) → g.cells ≡ xs → reduce (λ best y. cond (beats y best) y best) xs ≡ Some x → (is : List ℕ) × IsFirstBestCell beats g is x
        by [] all e = absurd cc
        by (y ∷ ys) all e =
            let same : best_of beats y ys ≡ x = cc in
            let (is, best) = best-of_cells y ys all in
            (is, subst (IsFirstBestCell beats g is) same best)

    -- with its index list, as a loop over the cells and their index lists finds it
    pub best-of_indexed_loop : (is : List ℕ) (x : A) → reduce (λ best p. cond (beats p.1 best.1) p best) (zip (row_order g.lengths) g.cells) ≡ Some (is, x) → IsFirstBestCell beats g is x
    best-of_indexed_loop is x found = by (zip (row_order g.lengths) g.cells) refl found
      where
        by : (ps : List (List ℕ × A)) → zip (row_order g.lengths) g.cells ≡ ps → reduce (λ best p. cond (beats p.1 best.1) p best) ps ≡ Some (is, x) → IsFirstBestCell beats g is x
        by [] all e = absurd cc
        by (p ∷ ps) all e =
            let same : best_of (λ (q : List ℕ × A) (r : List ℕ × A). beats q.1 r.1) p ps ≡ (is, x) = cc in
            subst (λ (q : List ℕ × A). IsFirstBestCell beats g q.0 q.1) same (best-of_indexed p ps all)

-- the test by which a cell is sought ranks the cells
pub preferred-ranks : {A : Type 0} (cmp : A → A → Ordering) → IsTotalOrder cmp → (e : Extreme) → IsStrictWeakOrder (preferred cmp e)
preferred-ranks cmp total Least = less-ranks cmp total
preferred-ranks cmp total Greatest = greater-ranks cmp total

-- no cell beats the best one that was found
pub best-bounds : {A : Type 0} (P : Type 0) (beats : A → A → Bool) (g : Grid A) → IsGrid g → (r : Option (Bor A)) → MatchOption r P (λ x. (is : List ℕ) × IsFirstBestCell beats g is x.now) → IfSome r (λ x. All (λ y. beats y x.now ≡ false) g.cells)
best-bounds P beats g whole None found = tt
best-bounds P beats g whole (Some x) (is, best) = each-cell g whole (λ y. beats y x.now ≡ false) best.best
