-- The valid convolution of arrays goes over the windows.
use Rattle.std.proofs.Common.{◌≡◌, ℕ, zero, suc, ◌+◌, ◌<◌, ◌≤◌, List, [], ◌∷◌, ◌++◌, map, reverse, refl, sym, ap, ◌∙◌, arith}
use Rattle.std.specs.Prelude.{flat_map}
use Rattle.std.specs.List.{range_with_len, AllByRecursion}
use Rattle.std.proofs.lemmas.Simd.{map-map}
use Rattle.ndarray.specs.Algebra.{CommutativeMonoid}
use Rattle.ndarray.specs.Convolution.{single_steps, valid_convolution_by, valid_products}
use Rattle.ndarray.specs.Grid.{Grid}
use Rattle.ndarray.specs.Index.{InBox, row_order}
use Rattle.ndarray.specs.Products.{products_of}
use Rattle.ndarray.specs.Subviews.{window, window_counts, windows_of}
use Rattle.ndarray.specs.Sums.{total}
use Rattle.ndarray.proofs.convolution.Mirrors.{HasCellsInRows, valid_products-reversed}

module _ {X : Type 0} (P : X → Type 0) where
  each-append : (xs ys : List X) → AllByRecursion P xs → AllByRecursion P ys → AllByRecursion P (xs ++ ys)
  each-append [] ys a b = b
  each-append (x ∷ xs) ys a b = (a.0, each-append xs ys a.1 b)

  map-each : {Y : Type 0} (f h : X → Y) (xs : List X) → AllByRecursion P xs → ((x : X) → P x → f x ≡ h x) → map f xs ≡ map h xs
  map-each f h [] a e = refl
  map-each f h (x ∷ xs) a e = ap (λ t. t ∷ map f xs) (e x a.0) ∙ ap (λ l. h x ∷ l) (map-each f h xs a.1 e)

block : (n k : ℕ) (ns : List ℕ) (l : List (List ℕ)) → k < n → AllByRecursion (InBox ns) l → AllByRecursion (InBox (n ∷ ns)) (map (λ is. k ∷ is) l)
block n k ns [] h a = tt
block n k ns (is ∷ l) h a = ((h, a.0), block n k ns l h a.1)

blocks : (n a m : ℕ) (ns : List ℕ) (l : List (List ℕ)) → a + m ≤ n → AllByRecursion (InBox ns) l → AllByRecursion (InBox (n ∷ ns)) (flat_map (λ k. map (λ is. k ∷ is) l) (range_with_len a m))
blocks n a zero ns l h e = tt
blocks n a (suc m) ns l h e = each-append (InBox (n ∷ ns)) (map (λ is. a ∷ is) l) (flat_map (λ k. map (λ is. k ∷ is) l) (range_with_len (a + 1) m)) (block n a ns l (omega arith) e) (blocks n (a + 1) m ns l (omega arith) e)

row_order-within : (ns : List ℕ) → AllByRecursion (InBox ns) (row_order ns)
unfolding row_order
row_order-within [] = (tt, tt)
row_order-within (n ∷ ns) = blocks n 0 n ns (row_order ns) (omega arith) (row_order-within ns)

module _ {A C : Type 0} (plus times : CommutativeMonoid C) (value : A → C) where
  -- at each window, the sum of the products of its cells with the kernel's cells backwards
  pub valid-over_windows : (g kernel : Grid A)
      → ((ps : List ℕ) → InBox (window_counts g.lengths kernel.lengths (single_steps g.lengths)) ps → HasCellsInRows (window g kernel.lengths (single_steps g.lengths) ps))
      → HasCellsInRows kernel
      → (valid_convolution_by plus times value g kernel).cells ≡ map (λ w. total plus (products_of times value w.cells (reverse kernel.cells))) (windows_of g kernel.lengths (single_steps g.lengths)).cells
  valid-over_windows g kernel whole in_rows =
      let ns : List ℕ = window_counts g.lengths kernel.lengths (single_steps g.lengths) in
      let sum = λ (w : Grid A). total plus (products_of times value w.cells (reverse kernel.cells)) in
      map-each (InBox ns) (λ ps. total plus (valid_products times value g kernel ps)) (λ ps. sum (window g kernel.lengths (single_steps g.lengths) ps)) (row_order ns) (row_order-within ns)
      (λ ps b. ap (total plus) (valid_products-reversed times value g kernel ps (whole ps b) in_rows))
      ∙ sym (map-map sum (window g kernel.lengths (single_steps g.lengths)) (row_order ns))
