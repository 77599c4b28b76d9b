-- A kernel's mirrored index lists, along its box, are the box backwards.
use Rattle.std.proofs.Common.{◌≡◌, ℕ, zero, suc, ◌+◌, ◌-◌, ◌<◌, ◌≤◌, List, [], ◌∷◌, ◌++◌, map, reverse, Option, Some, refl, sym, ap, ◌∙◌, arith}
use Rattle.std.specs.Prelude.{flat_map, filter_map}
use Rattle.std.specs.List.{range_with_len, cons_option}
use Rattle.std.proofs.lemmas.List.{map-append, reverse-append, append-nil}
use Rattle.std.proofs.lemmas.List.Concat.{flat_map-append}
use Rattle.std.proofs.lemmas.Simd.{map-map}
use Rattle.ndarray.specs.Algebra.{CommutativeMonoid}
use Rattle.ndarray.specs.Convolution.{mirrored, product_of_both, valid_products, single_steps}
use Rattle.ndarray.specs.Grid.{Grid, cell}
use Rattle.ndarray.specs.Index.{row_order}
use Rattle.ndarray.specs.Products.{products_of}
use Rattle.ndarray.specs.Subviews.{window}
use Rattle.ndarray.proofs.lists.Ranges.{range-later, range-last}

-- ---- lists backwards

pub reverse-map : {X Y : Type 0} (f : X → Y) (xs : List X) → reverse (map f xs) ≡ map f (reverse xs)
reverse-map f [] = refl
reverse-map f (x ∷ xs) =
    reverse-append (f x ∷ []) (map f xs)
    ∙ (ap (λ l. l ++ f x ∷ []) (reverse-map f xs)
    ∙ (sym (map-append f (reverse xs) (x ∷ []))
    ∙ ap (map f) (sym (reverse-append (x ∷ []) xs))))

reverse-flat_map : {X Y : Type 0} (f : X → List Y) (xs : List X) → reverse (flat_map f xs) ≡ flat_map (λ x. reverse (f x)) (reverse xs)
reverse-flat_map f [] = refl
reverse-flat_map f (x ∷ xs) =
    reverse-append (f x) (flat_map f xs)
    ∙ (ap (λ l. l ++ reverse (f x)) (reverse-flat_map f xs)
    ∙ (ap (λ l. flat_map (λ y. reverse (f y)) (reverse xs) ++ l) (sym (append-nil (reverse (f x))))
    ∙ (sym (flat_map-append (λ y. reverse (f y)) (reverse xs) (x ∷ []))
    ∙ ap (flat_map (λ y. reverse (f y))) (sym (reverse-append (x ∷ []) xs)))))

map-flat_map : {X Y Z : Type 0} (h : Y → Z) (f : X → List Y) (xs : List X) → map h (flat_map f xs) ≡ flat_map (λ x. map h (f x)) xs
map-flat_map h f [] = refl
map-flat_map h f (x ∷ xs) = map-append h (f x) (flat_map f xs) ∙ ap (λ l. map h (f x) ++ l) (map-flat_map h f xs)

flat_map-map : {X Y Z : Type 0} (f : X → Y) (h : Y → List Z) (xs : List X) → flat_map h (map f xs) ≡ flat_map (λ x. h (f x)) xs
flat_map-map f h [] = refl
flat_map-map f h (x ∷ xs) = ap (λ l. h (f x) ++ l) (flat_map-map f h xs)

flat_map-same : {X Y : Type 0} (f h : X → List Y) (xs : List X) → ((x : X) → f x ≡ h x) → flat_map f xs ≡ flat_map h xs
flat_map-same f h [] e = refl
flat_map-same f h (x ∷ xs) e = ap (λ l. l ++ flat_map f xs) (e x) ∙ ap (λ l. h x ++ l) (flat_map-same f h xs e)

pub map-range : {Y : Type 0} (f h : ℕ → Y) (a n : ℕ) → ((i : ℕ) → a ≤ i → i < a + n → f i ≡ h i) → map f (range_with_len a n) ≡ map h (range_with_len a n)
map-range f h a zero e = refl
map-range f h a (suc n) e =
    ap (λ t. t ∷ map f (range_with_len (a + 1) n)) (e a (omega arith) (omega arith))
    ∙ ap (λ l. h a ∷ l) (map-range f h (a + 1) n (λ i l m. e i (omega arith) (omega arith)))

-- ---- the numbers below n, and the box, backwards

pub range-mirrored : (n : ℕ) → map (λ i. n - 1 - i) (range_with_len 0 n) ≡ reverse (range_with_len 0 n)
range-mirrored zero = refl
range-mirrored (suc n) =
    let last : 0 + n ≡ n = omega arith in
    let first : suc n - 1 - 0 ≡ n = omega arith in
    ap (λ l. (suc n - 1 - 0) ∷ map (λ i. suc n - 1 - i) l) (range-later 0 n)
    ∙ (ap (λ l. (suc n - 1 - 0) ∷ l) (map-map (λ i. suc n - 1 - i) suc (range_with_len 0 n) ∙ map-range (λ i. suc n - 1 - suc i) (λ i. n - 1 - i) 0 n (λ i l m. omega arith))
    ∙ (ap (λ t. t ∷ map (λ i. n - 1 - i) (range_with_len 0 n)) first
    ∙ (ap (λ l. n ∷ l) (range-mirrored n)
    ∙ (sym (reverse-append (range_with_len 0 n) (n ∷ []))
    ∙ ap reverse (ap (λ t. range_with_len 0 n ++ t ∷ []) (sym last) ∙ sym (range-last 0 n))))))

pub row_order-mirrored : (ns : List ℕ) → map (mirrored ns) (row_order ns) ≡ reverse (row_order ns)
unfolding row_order
row_order-mirrored [] = refl
row_order-mirrored (n ∷ ns) =
    let block = λ (k : ℕ). map (λ is. k ∷ is) (row_order ns) in
    let each = λ (k : ℕ).
    map-map (mirrored (n ∷ ns)) (λ is. k ∷ is) (row_order ns)
    ∙ (sym (map-map (λ is. (n - 1 - k) ∷ is) (mirrored ns) (row_order ns))
    ∙ (ap (map (λ is. (n - 1 - k) ∷ is)) (row_order-mirrored ns)
    ∙ sym (reverse-map (λ is. (n - 1 - k) ∷ is) (row_order ns)))) in
    map-flat_map (mirrored (n ∷ ns)) block (range_with_len 0 n)
    ∙ (flat_map-same (λ k. map (mirrored (n ∷ ns)) (block k)) (λ k. reverse (block (n - 1 - k))) (range_with_len 0 n) each
    ∙ (sym (flat_map-map (λ k. n - 1 - k) (λ k. reverse (block k)) (range_with_len 0 n))
    ∙ (ap (flat_map (λ k. reverse (block k))) (range-mirrored n)
    ∙ sym (reverse-flat_map block (range_with_len 0 n)))))

-- ---- the products of a window with the mirrored kernel

-- along the box in row order, the cells are the array's list
abbrev pub HasCellsInRows : {A : Type 0} → Grid A → Type 0
HasCellsInRows g = map (cell g) (row_order g.lengths) ≡ map Some g.cells

module _ {A C : Type 0} (times : CommutativeMonoid C) (value : A → C) where
  pub products-along : {X : Type 0} (f h : X → Option A) (xs : List X) (us vs : List A) → map f xs ≡ map Some us → map h xs ≡ map Some vs
      → filter_map (λ x. product_of_both times value (f x) (h x)) xs ≡ products_of times value us vs
  products-along f h [] [] vs p q = refl
  products-along f h [] (u ∷ us) vs p q = absurd (cc)
  products-along f h (x ∷ xs) [] vs p q = absurd (cc)
  products-along f h (x ∷ xs) (u ∷ us) [] p q = absurd (cc)
  products-along f h (x ∷ xs) (u ∷ us) (v ∷ vs) p q =
      let a : f x ≡ Some u = cc in
      let b : h x ≡ Some v = cc in
      let rest : filter_map (λ y. product_of_both times value (f y) (h y)) xs ≡ products_of times value us vs = products-along f h xs us vs (cc) (cc) in
      ap (λ o. cons_option (product_of_both times value o (h x)) (filter_map (λ y. product_of_both times value (f y) (h y)) xs)) a
      ∙ (ap (λ o. cons_option (product_of_both times value (Some u) o) (filter_map (λ y. product_of_both times value (f y) (h y)) xs)) b
      ∙ ap (λ l. times.op (value u) (value v) ∷ l) rest)

  -- they are those of the window's cells with the kernel's cells backwards, place by place
  pub valid_products-reversed : (g kernel : Grid A) (ps : List ℕ) → HasCellsInRows (window g kernel.lengths (single_steps g.lengths) ps) → HasCellsInRows kernel
      → valid_products times value g kernel ps ≡ products_of times value (window g kernel.lengths (single_steps g.lengths) ps).cells (reverse kernel.cells)
  valid_products-reversed g kernel ps p q =
      products-along (cell (window g kernel.lengths (single_steps g.lengths) ps)) (λ js. cell kernel (mirrored kernel.lengths js)) (row_order kernel.lengths) _ (reverse kernel.cells) p
      (sym (map-map (cell kernel) (mirrored kernel.lengths) (row_order kernel.lengths))
      ∙ (ap (map (cell kernel)) (row_order-mirrored kernel.lengths)
      ∙ (sym (reverse-map (cell kernel) (row_order kernel.lengths))
      ∙ (ap reverse q
      ∙ reverse-map Some kernel.cells))))
