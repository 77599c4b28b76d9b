-- A box row by row: joined, its rows are the box in that order.
use Rattle.std.proofs.Common.{◌≡◌, ℕ, ◌-◌, ◌+◌, ◌*◌, ◌<◌, ◌≤◌, suc, zero, List, [], ◌∷◌, ◌++◌, length, map, reverse, set, get_or, refl, sym, ◌∙◌, ap, arith, subst}
use Rattle.std.specs.Prelude.{All}
use Rattle.std.specs.List.{range_with_len, flat_map, AllByRecursion}
use Rattle.std.proofs.lemmas.Grind.{flat_map-append}
use Rattle.std.proofs.lemmas.List.Folds.{flat_map-map}
use Rattle.std.proofs.lemmas.List.{append-nil, map-append, length-set, get_or-set_same, reverse-append}
use Rattle.std.proofs.lemmas.List.Elements.{All-cons, All-head, All-tail, All-map}
use Rattle.std.proofs.lemmas.Simd.{map-map}
use Rattle.std.proofs.Math.Nat.{mul-le-mul_left}
use Rattle.ndarray.specs.Index.{InBox, row_order, column_order}
use Rattle.ndarray.specs.Limits.{nonzero_size}
use Rattle.ndarray.specs.Orders.{box_in}
use Rattle.ndarray.specs.order.Rows.{fast_axis, row_size, first_lengths, rows_in, one_if_some, joined}
use Rattle.ndarray.specs.base.Ranks.{row_from}
use Rattle.ndarray.specs.declared.base.shape.Order.{Order}
use Rattle.ndarray.specs.declared.base.shape.Order.TheVariants.{RowMajor, ColumnMajor}
use Rattle.ndarray.proofs.lists.Elements.{reverse-cons, All-from_recursion, All-to_recursion}
use Rattle.ndarray.proofs.boxes.Boxes.{InBox-get}
use Rattle.ndarray.proofs.boxes.Orders.{box_in-within, row_order-one}
use Rattle.ndarray.proofs.boxes.Walks.{axis_in-lt}
use Rattle.ndarray.proofs.strides.Rows.{length-row_from}

flat_map-flat_map : {X Y Z : Type 0} (f : Y → List Z) (g : X → List Y) (xs : List X) → flat_map f (flat_map g xs) ≡ flat_map (λ x. flat_map f (g x)) xs
flat_map-flat_map f g [] = refl
flat_map-flat_map f g (x ∷ xs) = flat_map-append f (g x) (flat_map g xs) ∙ ap (λ l. flat_map f (g x) ++ l) (flat_map-flat_map f g xs)

flat_map-same : {X Z : Type 0} (f g : X → List Z) → ((x : X) → f x ≡ g x) → (xs : List X) → flat_map f xs ≡ flat_map g xs
flat_map-same f g e [] = refl
flat_map-same f g e (x ∷ xs) = ap (λ l. l ++ flat_map f xs) (e x) ∙ ap (λ l. g x ++ l) (flat_map-same f g e xs)

map-flat_map : {X Y Z : Type 0} (f : Y → Z) (g : X → List Y) (xs : List X) → map f (flat_map g xs) ≡ flat_map (λ x. map f (g x)) xs
map-flat_map f g [] = refl
map-flat_map f g (x ∷ xs) = map-append f (g x) (flat_map g xs) ∙ ap (λ l. map f (g x) ++ l) (map-flat_map f g xs)

map-same : {X Z : Type 0} (f g : X → Z) → ((x : X) → f x ≡ g x) → (xs : List X) → map f xs ≡ map g xs
map-same f g e [] = refl
map-same f g e (x ∷ xs) = ap (λ z. z ∷ map f xs) (e x) ∙ ap (λ l. g x ∷ l) (map-same f g e xs)

-- a row below a first index, and one along the first axis
row-under : (k : ℕ) (is : List ℕ) (axis n : ℕ) → row_from (k ∷ is) (suc axis) n ≡ map (λ js. k ∷ js) (row_from is axis n)
row-under k is axis zero = refl
row-under k is axis (suc n) = ap (λ l. (k ∷ is) ∷ l) (row-under k (set is axis (get_or is axis 0 + 1)) axis n)

row-first_axis : (k : ℕ) (is : List ℕ) (n : ℕ) → row_from (k ∷ is) 0 n ≡ map (λ j. j ∷ is) (range_with_len k n)
row-first_axis k is zero = refl
row-first_axis k is (suc n) = ap (λ l. (k ∷ is) ∷ l) (row-first_axis (k + 1) is n)

begins : (n : ℕ) (js : List ℕ) → flat_map (λ is. row_from is 0 n) (map (λ k. k ∷ js) (range_with_len 0 (one_if_some n))) ≡ map (λ k. k ∷ js) (range_with_len 0 n)
begins zero js = refl
begins (suc n) js = append-nil (row_from (0 ∷ js) 0 (suc n)) ∙ row-first_axis 0 js (suc n)

row_order-rows : (axis n : ℕ) (ns : List ℕ) → axis ≡ length ns
    → flat_map (λ is. row_from is axis (get_or (n ∷ ns) axis 0)) (row_order (set (n ∷ ns) axis (one_if_some (get_or (n ∷ ns) axis 0)))) ≡ row_order (n ∷ ns)
unfolding row_order
row_order-rows zero n [] e = ap (flat_map (λ is. row_from is 0 n)) (row_order-one (one_if_some n)) ∙ (begins n [] ∙ sym (row_order-one n))
row_order-rows zero n (m ∷ ms) e = absurd (omega arith)
row_order-rows (suc a) n [] e = absurd (omega arith)
row_order-rows (suc a) n (m ∷ ms) e =
    let c : ℕ = get_or (m ∷ ms) a 0 in
    let firsts : List (List ℕ) = row_order (set (m ∷ ms) a (one_if_some c)) in
    let along : List ℕ → List (List ℕ) = λ is. row_from is (suc a) c in
    let ih = row_order-rows a m ms (omega arith) in
    flat_map-flat_map along (λ k. map (λ is. k ∷ is) firsts) (range_with_len 0 n)
    ∙ flat_map-same (λ k. flat_map along (map (λ is. k ∷ is) firsts)) (λ k. map (λ is. k ∷ is) (row_order (m ∷ ms)))
    (λ k. flat_map-map along (λ is. k ∷ is) firsts
    ∙ (flat_map-same (λ is. along (k ∷ is)) (λ is. map (λ js. k ∷ js) (row_from is a c)) (λ is. row-under k is a c) firsts
    ∙ (sym (map-flat_map (λ js. k ∷ js) (λ is. row_from is a c) firsts) ∙ ap (map (λ js. k ∷ js)) ih)))
    (range_with_len 0 n)

-- the last axis counts below each index list of the others
row_order-last : (n : ℕ) (ms : List ℕ) → row_order (ms ++ n ∷ []) ≡ flat_map (λ is. map (λ k. is ++ k ∷ []) (range_with_len 0 n)) (row_order ms)
unfolding row_order
row_order-last n [] = row_order-one n ∙ sym (append-nil (map (λ k. k ∷ []) (range_with_len 0 n)))
row_order-last n (m ∷ ms) =
    let below : List ℕ → List (List ℕ) = λ is. map (λ k. is ++ k ∷ []) (range_with_len 0 n) in
    flat_map-same (λ i. map (λ is. i ∷ is) (row_order (ms ++ n ∷ []))) (λ i. flat_map below (map (λ is. i ∷ is) (row_order ms)))
    (λ i. ap (map (λ is. i ∷ is)) (row_order-last n ms)
    ∙ (map-flat_map (λ is. i ∷ is) below (row_order ms)
    ∙ (flat_map-same (λ is. map (λ js. i ∷ js) (below is)) (λ is. below (i ∷ is)) (λ is. map-map (λ js. i ∷ js) (λ k. is ++ k ∷ []) (range_with_len 0 n)) (row_order ms)
    ∙ sym (flat_map-map below (λ is. i ∷ is) (row_order ms)))))
    (range_with_len 0 m)
    ∙ sym (flat_map-flat_map below (λ i. map (λ is. i ∷ is) (row_order ms)) (range_with_len 0 m))

column_order-first : (n : ℕ) (ms : List ℕ) → column_order (n ∷ ms) ≡ flat_map (λ is. map (λ k. k ∷ reverse is) (range_with_len 0 n)) (row_order (reverse ms))
unfolding column_order
column_order-first n ms =
    ap (λ l. map reverse (row_order l)) (reverse-cons n ms)
    ∙ (ap (map reverse) (row_order-last n (reverse ms))
    ∙ (map-flat_map reverse (λ is. map (λ k. is ++ k ∷ []) (range_with_len 0 n)) (row_order (reverse ms))
    ∙ flat_map-same (λ is. map reverse (map (λ k. is ++ k ∷ []) (range_with_len 0 n))) (λ is. map (λ k. k ∷ reverse is) (range_with_len 0 n))
    (λ is. map-map reverse (λ k. is ++ k ∷ []) (range_with_len 0 n) ∙ map-same (λ k. reverse (is ++ k ∷ [])) (λ k. k ∷ reverse is) (λ k. reverse-last is k) (range_with_len 0 n)) (row_order (reverse ms))))
  where
    reverse-last : (is : List ℕ) (k : ℕ) → reverse (is ++ k ∷ []) ≡ k ∷ reverse is
    reverse-last is k = reverse-append is (k ∷ [])

column_order-rows : (n : ℕ) (ms : List ℕ) → flat_map (λ is. row_from is 0 n) (column_order (one_if_some n ∷ ms)) ≡ column_order (n ∷ ms)
column_order-rows n ms =
    ap (flat_map (λ is. row_from is 0 n)) (column_order-first (one_if_some n) ms)
    ∙ (flat_map-flat_map (λ is. row_from is 0 n) (λ is. map (λ k. k ∷ reverse is) (range_with_len 0 (one_if_some n))) (row_order (reverse ms))
    ∙ (flat_map-same (λ is. flat_map (λ js. row_from js 0 n) (map (λ k. k ∷ reverse is) (range_with_len 0 (one_if_some n)))) (λ is. map (λ k. k ∷ reverse is) (range_with_len 0 n)) (λ is. begins n (reverse is)) (row_order (reverse ms))
    ∙ sym (column_order-first n ms)))

pub rows-joined : (o : Order) (ns : List ℕ) → joined (rows_in o ns) ≡ box_in o ns
unfolding row_order column_order
rows-joined RowMajor [] = refl
rows-joined ColumnMajor [] = refl
rows-joined RowMajor (n ∷ ns) =
    let axis : ℕ = fast_axis RowMajor (n ∷ ns) in
    flat_map-map (λ xs. xs) (λ is. row_from is axis (get_or (n ∷ ns) axis 0)) (row_order (first_lengths RowMajor (n ∷ ns))) ∙ row_order-rows axis n ns (omega arith)
rows-joined ColumnMajor (n ∷ ns) =
    flat_map-map (λ xs. xs) (λ is. row_from is 0 n) (column_order (one_if_some n ∷ ns)) ∙ column_order-rows n ns

one-some : (n : ℕ) → 0 < one_if_some n → 0 < n
one-some zero h = h
one-some (suc n) h = omega arith

row_size-some : (o : Order) (ns is : List ℕ) → InBox (first_lengths o ns) is → 0 < row_size o ns
row_size-some o [] is b = omega arith
row_size-some o (n ∷ ns) is b =
    let k : ℕ = fast_axis o (n ∷ ns) in
    let v : ℕ = one_if_some (row_size o (n ∷ ns)) in
    let lt = axis_in-lt o (length (n ∷ ns)) 0 (omega arith) in
    let g = InBox-get (set (n ∷ ns) k v) is k b (let l = length-set (n ∷ ns) k v in omega arith) in
    let e = get_or-set_same (n ∷ ns) k v 0 lt in
    one-some (row_size o (n ∷ ns)) (omega arith)

parts-good : {X : Type 0} (P : X → Type 0) (xs ys : List X) → AllByRecursion P (xs ++ ys) → AllByRecursion P xs × AllByRecursion P ys
parts-good P [] ys w = (tt, w)
parts-good P (x ∷ xs) ys w = let r = parts-good P xs ys w.1 in ((w.0, r.0), r.1)

rows-good : (P : List ℕ → Type 0) (xss : List (List (List ℕ))) → All (λ xs. 0 < length xs) xss → AllByRecursion P (joined xss) → All (λ xs. (0 < length xs) × All P xs) xss
rows-good P [] s w = λ k d lt. absurd (omega arith)
rows-good P (xs ∷ xss) s w =
    let v = parts-good P xs (joined xss) w in
    All-cons (λ ys. (0 < length ys) × All P ys) xs xss (All-head (λ ys. 0 < length ys) xs xss s, All-from_recursion P xs v.0) (rows-good P xss (All-tail (λ ys. 0 < length ys) xs xss s) v.1)

rows-some : (o : Order) (ns : List ℕ) → All (λ row. 0 < length row) (rows_in o ns)
rows-some o ns =
    let some : All (λ is. 0 < length (row_from is (fast_axis o ns) (row_size o ns))) (box_in o (first_lengths o ns)) =
    λ k d lt. (let s = row_size-some o ns _ (box_in-within o (first_lengths o ns) k d lt) in let l = length-row_from (get_or (box_in o (first_lengths o ns)) k d) (fast_axis o ns) (row_size o ns) in omega arith) in
    All-map (λ row. 0 < length row) (λ is. row_from is (fast_axis o ns) (row_size o ns)) (box_in o (first_lengths o ns)) some

pub rows-within : (o : Order) (ns : List ℕ) → All (λ row. (0 < length row) × All (InBox ns) row) (rows_in o ns)
rows-within o ns = rows-good (InBox ns) (rows_in o ns) (rows-some o ns) (All-to_recursion (InBox ns) (joined (rows_in o ns)) (subst (All (InBox ns)) (sym (rows-joined o ns)) (box_in-within o ns)))

nonzero-one : (ns : List ℕ) (k : ℕ) → nonzero_size (set ns k (one_if_some (get_or ns k 0))) ≤ nonzero_size ns
nonzero-one [] k = omega arith
nonzero-one (zero ∷ ns) zero = omega arith
nonzero-one (suc n ∷ ns) zero = let m : nonzero_size ns * 1 ≤ nonzero_size ns * suc n = mul-le-mul_left (nonzero_size ns) (omega arith) in omega arith
nonzero-one (zero ∷ ns) (suc k) = nonzero-one ns k
nonzero-one (suc n ∷ ns) (suc k) = mul-le-mul_left (suc n) (nonzero-one ns k)

pub firsts-limit : (ns : List ℕ) (k : ℕ) → nonzero_size ns < 9223372036854775808 → nonzero_size (set ns k (one_if_some (get_or ns k 0))) < 9223372036854775808
firsts-limit ns k h = let m = nonzero-one ns k in omega arith

-- a box of one axis is one row, or none where it is empty
pub rows_in-none : (o : Order) → rows_in o (0 ∷ []) ≡ []
unfolding row_order column_order
rows_in-none RowMajor = refl
rows_in-none ColumnMajor = refl

pub rows_in-one : (o : Order) (n : ℕ) → rows_in o (suc n ∷ []) ≡ box_in o (suc n ∷ []) ∷ []
unfolding row_order column_order
rows_in-one RowMajor n = ap (λ l. l ∷ []) (sym (append-nil (row_from (0 ∷ []) 0 (suc n))) ∙ rows-joined RowMajor (suc n ∷ []))
rows_in-one ColumnMajor n = ap (λ l. l ∷ []) (sym (append-nil (row_from (0 ∷ []) 0 (suc n))) ∙ rows-joined ColumnMajor (suc n ∷ []))

-- along the last axis: the index lists with which rows begin, and the rows one after another
unmapped : {X Y : Type 0} (P : Y → Type 0) (f : X → Y) (xs : List X) → AllByRecursion P (map f xs) → AllByRecursion (λ x. P (f x)) xs
unmapped P f [] all = tt
unmapped P f (x ∷ xs) all = (all.0, unmapped P f xs all.1)

module _ (ns : List ℕ) (axis columns : ℕ) (some : 0 < length ns) (last : axis ≡ length ns - 1) (many : columns ≡ get_or ns axis 0) where
  abbrev pub firsts : List (List ℕ)
  firsts = row_order (set ns axis (one_if_some columns))

  pub last-rows : flat_map (λ is. row_from is axis columns) firsts ≡ row_order ns
  last-rows = of ns axis columns some last many
    where
      of : (ns : List ℕ) (axis columns : ℕ) → 0 < length ns → axis ≡ length ns - 1 → columns ≡ get_or ns axis 0 → flat_map (λ is. row_from is axis columns) (row_order (set ns axis (one_if_some columns))) ≡ row_order ns
      of [] axis columns some last many = absurd (omega (arith, some))
      of (n ∷ ms) axis columns some last many = rw many (row_order-rows axis n ms (omega (arith, last)))

  pub last-begin : All (λ is. (0 < columns) × All (InBox ns) (row_from is axis columns)) firsts
  last-begin = of ns axis columns some last many
    where
      of : (ns : List ℕ) (axis columns : ℕ) → 0 < length ns → axis ≡ length ns - 1 → columns ≡ get_or ns axis 0
          → All (λ is. (0 < columns) × All (InBox ns) (row_from is axis columns)) (row_order (set ns axis (one_if_some columns)))
      of [] axis columns some last many = absurd (omega (arith, some))
      of (n ∷ ms) axis columns some last many =
          let P : List (List ℕ) → Type 0 = λ row. (0 < length row) × All (InBox (n ∷ ms)) row in
          let fast : fast_axis RowMajor (n ∷ ms) ≡ axis = omega (arith, last) in
          let rows : All P (map (λ is. row_from is axis (get_or (n ∷ ms) axis 0)) (row_order (set (n ∷ ms) axis (one_if_some (get_or (n ∷ ms) axis 0))))) =
          subst (λ k. All P (map (λ is. row_from is k (get_or (n ∷ ms) k 0)) (row_order (set (n ∷ ms) k (one_if_some (get_or (n ∷ ms) k 0)))))) fast (rows-within RowMajor (n ∷ ms)) in
          let each = All-from_recursion (λ is. P (row_from is axis (get_or (n ∷ ms) axis 0))) _ (unmapped P (λ is. row_from is axis (get_or (n ∷ ms) axis 0)) _ (All-to_recursion P _ rows)) in
          rw many (λ k d lt. (let l = length-row_from (get_or (row_order (set (n ∷ ms) axis (one_if_some (get_or (n ∷ ms) axis 0)))) k d) axis (get_or (n ∷ ms) axis 0) in let e = each k d lt in (omega (arith, l, e.0), e.1)))
