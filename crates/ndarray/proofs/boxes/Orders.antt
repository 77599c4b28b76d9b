-- The two orders of a box: their length, what stands at each place, and that they meet their descriptions.
use Rattle.std.proofs.Common.{◌≡◌, ℕ, ◌+◌, ◌*◌, ◌/◌, ◌%◌, ◌<◌, ◌≤◌, suc, zero, List, [], ◌∷◌, ◌++◌, length, map, replicate, reverse, get_or, inl, inr, refl, sym, ◌∙◌, ap, arith, subst}
use Rattle.std.specs.Prelude.{flat_map, All}
use Rattle.std.specs.List.{Contains, range_with_len}
use Rattle.std.proofs.lemmas.List.{get_or_append_left, get_or-append-add, length-append, length-map, length-reverse, get_or-map, get_or_default, reverse-reverse}
use Rattle.std.proofs.Math.Nat.{mul-le-mul_left, div-lt_iff_lt-mul}
use Rattle.std.proofs.lemmas.Nat.{div-add-mod'}
use Rattle.std.proofs.lemmas.Bool.{cases_lt}
use Rattle.ndarray.specs.Index.{InBox, IsBefore, IsRowOrder, IsColumnOrder, size, row_order, column_order}
use Rattle.ndarray.specs.Orders.{box_in, IsBoxIn}
use Rattle.ndarray.specs.base.Ranks.{rank, column_rank, rank_in}
use Rattle.ndarray.specs.declared.base.shape.Order.{Order}
use Rattle.ndarray.specs.declared.base.shape.Order.TheVariants.{RowMajor, ColumnMajor}
use Rattle.ndarray.proofs.lists.Elements.{reverse-cons}
use Rattle.ndarray.proofs.boxes.Boxes.{InBox-length, InBox-reverse}
use Rattle.ndarray.proofs.boxes.Sizes.{size-append, size-reverse}

module _ {X : Type 0} (f : ℕ → List X) (m : ℕ) (each : (k : ℕ) → length (f k) ≡ m) where
  pub length-range_blocks : (a n : ℕ) → length (flat_map f (range_with_len a n)) ≡ n * m
  length-range_blocks a zero = omega arith
  length-range_blocks a (suc n) = let e = each a in let h = length-range_blocks (a + 1) n in let s = length-append (f a) (flat_map f (range_with_len (a + 1) n)) in grind arith

  -- place r of block i
  pub get_or-blocks : (a n i r : ℕ) (d : X) → i < n → r < m → get_or (flat_map f (range_with_len a n)) (i * m + r) d ≡ get_or (f (a + i)) r d
  get_or-blocks a zero i r d hi hr = absurd (omega arith)
  get_or-blocks a (suc n) zero r d hi hr =
      let e = each a in
      let lt : r < length (f a) = omega arith in
      let z : 0 * m + r ≡ r = omega arith in
      let y : a + 0 ≡ a = omega arith in
      rw (z, y) (get_or_append_left (f a) (flat_map f (range_with_len (a + 1) n)) d r lt)
  get_or-blocks a (suc n) (suc i) r d hi hr =
      let e = each a in
      let z : suc i * m + r ≡ length (f a) + (i * m + r) = omega arith in
      let y : a + suc i ≡ a + 1 + i = omega arith in
      let lt : i < n = omega arith in
      rw (z, y) (get_or-append-add (f a) (flat_map f (range_with_len (a + 1) n)) (i * m + r) d ∙ get_or-blocks (a + 1) n i r d lt hr)

pub length-row_order : (ns : List ℕ) → length (row_order ns) ≡ size ns
unfolding row_order
length-row_order [] = refl
length-row_order (n ∷ ns) =
    length-range_blocks (λ k. map (λ is. k ∷ is) (row_order ns)) (size ns) (λ k. length-map (row_order ns) (λ is. k ∷ is) ∙ length-row_order ns) 0 n

-- the one index list of axes of length 1
pub row_order-ones : (m : ℕ) → row_order (replicate m 1) ≡ replicate m 0 ∷ []
unfolding row_order
row_order-ones zero = refl
row_order-ones (suc m) = ap (λ l. map (λ is. 0 ∷ is) l ++ []) (row_order-ones m)

pub rank-lt : (ns is : List ℕ) → InBox ns is → rank ns is < size ns
unfolding rank
rank-lt [] [] h = omega arith
rank-lt [] (i ∷ is) h = absurd h
rank-lt (n ∷ ns) [] h = absurd h
rank-lt (n ∷ ns) (i ∷ is) h =
    let lt = rank-lt ns is h.1 in
    let le : i + 1 ≤ n = omega (arith, h.0) in
    omega (arith, mul-le-mul_left (size ns) le)

-- an index list stands in row order at its rank
pub row_order-at : (ns is : List ℕ) (d : List ℕ) → InBox ns is → get_or (row_order ns) (rank ns is) d ≡ is
unfolding rank row_order
row_order-at [] [] d h = refl
row_order-at [] (i ∷ is) d h = absurd h
row_order-at (n ∷ ns) [] d h = absurd h
row_order-at (n ∷ ns) (i ∷ is) d h =
    let lt = rank-lt ns is h.1 in
    let l = length-row_order ns in
    let lt2 : rank ns is < length (row_order ns) = omega arith in
    get_or-blocks (λ k. map (λ js. k ∷ js) (row_order ns)) (size ns) (λ k. length-map (row_order ns) (λ js. k ∷ js) ∙ length-row_order ns) 0 n i (rank ns is) d h.0 lt
    ∙ (get_or-map (λ js. (0 + i) ∷ js) (row_order ns) (rank ns is) d d lt2 ∙ rw (row_order-at ns is d h.1) (ap (λ z. z ∷ is) (omega arith)))

record Parts (n m k : ℕ) : Type 0 where
  i : ℕ
  r : ℕ
  i-lt : i < n
  r-lt : r < m
  sum : i * m + r ≡ k

parts : (n m k : ℕ) → k < n * m → Parts n m k
parts n zero k h = absurd (omega arith)
parts n (suc m) k h = record {
  i = k / suc m;
  r = k % suc m;
  i-lt = (div-lt_iff_lt-mul (omega arith)).1 h;
  r-lt = omega arith;
  sum = div-add-mod' k (suc m);
}

-- the index list at place k of row order is in the box, and its rank is k
pub row_order-back : (ns : List ℕ) (k : ℕ) (d : List ℕ) → k < size ns → InBox ns (get_or (row_order ns) k d) × (rank ns (get_or (row_order ns) k d) ≡ k)
unfolding rank row_order
row_order-back [] zero d h = (tt, refl)
row_order-back [] (suc k) d h = absurd (omega arith)
row_order-back (n ∷ ns) k d h =
    let p = parts n (size ns) k h in
    let l = length-row_order ns in
    let r-lt : p.r < length (row_order ns) = omega (arith, p.r-lt) in
    let here : get_or (row_order (n ∷ ns)) k d ≡ p.i ∷ get_or (row_order ns) p.r d =
    ap (λ x. get_or (row_order (n ∷ ns)) x d) (sym p.sum)
    ∙ (get_or-blocks (λ x. map (λ js. x ∷ js) (row_order ns)) (size ns) (λ x. length-map (row_order ns) (λ js. x ∷ js) ∙ length-row_order ns) 0 n p.i p.r d p.i-lt p.r-lt
    ∙ (get_or-map (λ js. (0 + p.i) ∷ js) (row_order ns) p.r d d r-lt ∙ ap (λ z. z ∷ get_or (row_order ns) p.r d) (omega arith))) in
    let ih = row_order-back ns p.r d p.r-lt in
    let P : List ℕ → Type 0 = λ js. InBox (n ∷ ns) js × (rank (n ∷ ns) js ≡ k) in
    subst P (sym here) ((p.i-lt, ih.0), omega (arith, ih.1, p.sum))

-- ranks tell which index list comes first
pub before-from_rank : (ns is js : List ℕ) → InBox ns is → InBox ns js → rank ns is < rank ns js → IsBefore is js
unfolding rank
before-from_rank [] is js hi hj h = absurd (omega arith)
before-from_rank (n ∷ ns) [] js hi hj h = absurd hi
before-from_rank (n ∷ ns) (i ∷ is) [] hi hj h = absurd hj
before-from_rank (n ∷ ns) (i ∷ is) (j ∷ js) hi hj h =
    let a = rank-lt ns is hi.1 in
    let b = rank-lt ns js hj.1 in
    elim (cases_lt i j) [
      | inl lt ↦ inl lt
      | inr ge ↦ elim (cases_lt j i) [
        | inl gt ↦ (let le : j + 1 ≤ i = omega (arith, gt) in absurd (omega (arith, mul-le-mul_left (size ns) le)))
        | inr le ↦ (let e : i ≡ j = omega (arith, ge, le) in inr (e, before-from_rank ns is js hi.1 hj.1 (let e2 : i * size ns ≡ j * size ns = ap (λ x. x * size ns) e in omega arith)))
      ]
    ]

pub row_order-is : (ns : List ℕ) → IsRowOrder ns (row_order ns)
row_order-is ns =
    let l = length-row_order ns in
    record {
      within = λ k d h. (row_order-back ns k d (omega arith)).0;
      whole = λ is h. (rank ns is, (let lt = rank-lt ns is h in omega arith), row_order-at ns is is h);
      rising = λ i j d lt h.
          let hj : j < size ns = omega arith in
          let a = row_order-back ns i d (omega arith) in
          let b = row_order-back ns j d hj in
          before-from_rank ns _ _ a.0 b.0 (omega (arith, a.1, b.1));
    }

-- ---- both orders

rank-push : (ns is : List ℕ) (n i : ℕ) → length is ≡ length ns → rank (ns ++ n ∷ []) (is ++ i ∷ []) ≡ rank ns is * n + i
unfolding rank
rank-push [] [] n i h = omega arith
rank-push [] (j ∷ is) n i h = absurd (omega arith)
rank-push (m ∷ ns) [] n i h = absurd (omega arith)
rank-push (m ∷ ns) (j ∷ is) n i h =
    let ih = rank-push ns is n i (omega arith) in
    let s = ap (λ x. j * x) (size-append ns (n ∷ [])) in
    omega arith

pub column_rank-is : (ns is : List ℕ) → InBox ns is → column_rank ns is ≡ rank (reverse ns) (reverse is)
unfolding rank column_rank
column_rank-is [] [] h = refl
column_rank-is [] (i ∷ is) h = absurd h
column_rank-is (n ∷ ns) [] h = absurd h
column_rank-is (n ∷ ns) (i ∷ is) h =
    let ih = ap (λ x. n * x) (column_rank-is ns is h.1) in
    let l = InBox-length ns is h.1 in
    let e = rank-push (reverse ns) (reverse is) n i (length-reverse is ∙ (l ∙ sym (length-reverse ns))) in
    rw (reverse-cons n ns, reverse-cons i is) (omega arith)

pub length-box_in : (o : Order) (ns : List ℕ) → length (box_in o ns) ≡ size ns
unfolding column_order
length-box_in RowMajor ns = length-row_order ns
length-box_in ColumnMajor ns = length-map (row_order (reverse ns)) reverse ∙ (length-row_order (reverse ns) ∙ size-reverse ns)

pub rank_in-lt : (o : Order) (ns is : List ℕ) → InBox ns is → rank_in o ns is < size ns
rank_in-lt RowMajor ns is h = rank-lt ns is h
rank_in-lt ColumnMajor ns is h = let a = rank-lt (reverse ns) (reverse is) (InBox-reverse ns is h) in let b = column_rank-is ns is h in let c = size-reverse ns in omega arith

pub box_in-at : (o : Order) (ns is : List ℕ) (d : List ℕ) → InBox ns is → get_or (box_in o ns) (rank_in o ns is) d ≡ is
unfolding column_order
box_in-at RowMajor ns is d h = row_order-at ns is d h
box_in-at ColumnMajor ns is d h =
    let b = InBox-reverse ns is h in
    let lt = rank-lt (reverse ns) (reverse is) b in
    let l = length-row_order (reverse ns) in
    ap (λ x. get_or (map reverse (row_order (reverse ns))) x d) (column_rank-is ns is h)
    ∙ (get_or-map reverse (row_order (reverse ns)) (rank (reverse ns) (reverse is)) d d (omega arith)
    ∙ (ap reverse (row_order-at (reverse ns) (reverse is) d b) ∙ reverse-reverse is))

pub box_in-back : (o : Order) (ns : List ℕ) (k : ℕ) → k < size ns → InBox ns (get_or (box_in o ns) k []) × (rank_in o ns (get_or (box_in o ns) k []) ≡ k)
unfolding column_order
box_in-back RowMajor ns k h = row_order-back ns k [] h
box_in-back ColumnMajor ns k h =
    let z = size-reverse ns in
    let l = length-row_order (reverse ns) in
    let b = row_order-back (reverse ns) k [] (omega arith) in
    let js : List ℕ = get_or (row_order (reverse ns)) k [] in
    let e : get_or (map reverse (row_order (reverse ns))) k [] ≡ reverse js = get_or-map reverse (row_order (reverse ns)) k [] [] (omega arith) in
    let inb : InBox ns (reverse js) = subst (λ ms. InBox ms (reverse js)) (reverse-reverse ns) (InBox-reverse (reverse ns) js b.0) in
    let P : List ℕ → Type 0 = λ is. InBox ns is × (column_rank ns is ≡ k) in
    subst P (sym e) (inb, column_rank-is ns (reverse js) inb ∙ (ap (rank (reverse ns)) (reverse-reverse js) ∙ b.1))

column-get : (ns : List ℕ) (k : ℕ) (d : List ℕ) → k < length (row_order (reverse ns)) → reverse (get_or (column_order ns) k d) ≡ get_or (row_order (reverse ns)) k d
unfolding column_order
column-get ns k d lt = ap reverse (get_or-map reverse (row_order (reverse ns)) k d d lt) ∙ reverse-reverse (get_or (row_order (reverse ns)) k d)

pub column_order-is : (ns : List ℕ) → IsColumnOrder ns (column_order ns)
column_order-is ns =
    let l = length-box_in ColumnMajor ns in
    let lr = length-row_order (reverse ns) in
    let z = size-reverse ns in
    record {
      within = λ k d lt. subst (InBox ns) (get_or_default (column_order ns) k [] d lt) (box_in-back ColumnMajor ns k (omega arith)).0;
      whole = λ is b. (column_rank ns is, (let lt = rank_in-lt ColumnMajor ns is b in omega arith), box_in-at ColumnMajor ns is is b);
      rising = λ i j d lt h.
          let turned : (k : ℕ) → k < size ns → reverse (get_or (column_order ns) k d) ≡ get_or (row_order (reverse ns)) k d =
          λ k hk. column-get ns k d (omega arith) in
          let before = (row_order-is (reverse ns)).rising i j d lt (omega arith) in
          subst (λ js. IsBefore (reverse (get_or (column_order ns) i d)) js) (sym (turned j (omega arith)))
          (subst (λ js. IsBefore js (get_or (row_order (reverse ns)) j d)) (sym (turned i (omega arith))) before);
    }

pub box_in-is : (o : Order) (ns : List ℕ) → IsBoxIn o ns (box_in o ns)
box_in-is RowMajor ns = row_order-is ns
box_in-is ColumnMajor ns = column_order-is ns

pub box_in-within : (o : Order) (ns : List ℕ) → All (InBox ns) (box_in o ns)
box_in-within RowMajor ns = (row_order-is ns).within
box_in-within ColumnMajor ns = (column_order-is ns).within

-- each index list of the box is among its index lists, in either order
pub box-contains : (o : Order) (ns is : List ℕ) → InBox ns is → Contains (box_in o ns) is
box-contains RowMajor ns is h = (row_order-is ns).whole is h
box-contains ColumnMajor ns is h = (column_order-is ns).whole is h

pub IsBefore-not_itself : (is : List ℕ) → IsBefore is is → ⊥
IsBefore-not_itself [] h = h
IsBefore-not_itself (i ∷ is) h = elim h [ inl a ↦ omega (arith, a) | inr a ↦ IsBefore-not_itself is a.1 ]

singles : (ks : List ℕ) → flat_map (λ k. map (λ is. k ∷ is) ([] ∷ [])) ks ≡ map (λ k. k ∷ []) ks
singles [] = refl
singles (k ∷ ks) = ap (λ xs. (k ∷ []) ∷ xs) (singles ks)

-- along one axis
pub row_order-one : (n : ℕ) → row_order (n ∷ []) ≡ map (λ k. k ∷ []) (range_with_len 0 n)
unfolding row_order
row_order-one n = singles (range_with_len 0 n)
