-- Filters of sums and of multiples, of arrays and of kernels, and by a kernel with one value.
use Rattle.std.proofs.Common.{◌≡◌, ◌≢◌, ◌∙◌, ℕ, List, [], ◌∷◌, arith, length, map, Option, Some, None, inl, inr, ap, refl, sym, subst}
use Rattle.std.specs.Prelude.{AllPairs, Contains}
use Rattle.ndarray.specs.Algebra.{CommutativeMonoid}
use Rattle.ndarray.specs.Convolution.{mirrored, single_steps, valid_counts, valid_products}
use Rattle.ndarray.specs.FilterLaws.{FiltersByMultiples, FiltersByOneCell, FiltersBySums, FiltersOfMultiples, FiltersOfSums}
use Rattle.ndarray.specs.Grid.{Grid, IsGrid, cell}
use Rattle.ndarray.specs.Index.{InBox, IsBefore, row_order}
use Rattle.ndarray.specs.Products.{value_or}
use Rattle.ndarray.specs.Subviews.{window_index}
use Rattle.ndarray.specs.Sums.{total}
use Rattle.ndarray.proofs.algebra.AddedTotals.{at-product, at-sum, lengths-added, total-multiplied}
use Rattle.ndarray.proofs.algebra.Totals.{op_unit, total-plus, total-same, value_of}
use Rattle.ndarray.proofs.boxes.Orders.{IsBefore-not_itself, row_order-is}
use Rattle.ndarray.proofs.cells.Cells.{cell-inside}
use Rattle.ndarray.proofs.convolution.KernelSums.{products-total}
use Rattle.ndarray.proofs.lists.Pairs.{AllPairs-head, AllPairs-tail, Contains-cases, Contains-first, Contains-later}

-- of index lists in rising order, the total of values that are neutral but at one of them
all-neutral : {C : Type 0} (M : CommutativeMonoid C) (f : List ℕ → C) (ys : List (List ℕ)) → ((z : List ℕ) → Contains ys z → f z ≡ M.unit) → total M (map f ys) ≡ M.unit
all-neutral M f [] each = refl
all-neutral M f (y ∷ ys) each =
    ap (λ t. M.op t (total M (map f ys))) (each y (Contains-first y ys))
    ∙ (M.unit_op (total M (map f ys)) ∙ all-neutral M f ys (λ z found. each z (Contains-later y ys z found)))

pub total-one_place : {C : Type 0} (M : CommutativeMonoid C) (f : List ℕ → C) (xs : List (List ℕ)) (js : List ℕ) → AllPairs IsBefore xs → Contains xs js
    → ((is : List ℕ) → Contains xs is → is ≢ js → f is ≡ M.unit) → total M (map f xs) ≡ f js
total-one_place M f [] js up found others = absurd (let lt = found.1 in omega (arith, lt))
total-one_place M f (x ∷ xs) js up found others = elim (Contains-cases x xs js found) [
  | inl same ↦
      ap (M.op (f x)) (all-neutral M f xs (λ z later. others z (Contains-later x xs z later)
      (λ e. IsBefore-not_itself js (subst (λ w. IsBefore w js) same (subst (IsBefore x) e (AllPairs-head IsBefore x xs z up later))))))
      ∙ (op_unit M (f x) ∙ ap f same)
  | inr later ↦
      ap (λ t. M.op t (total M (map f xs))) (others x (Contains-first x xs) (λ e. IsBefore-not_itself js (subst (λ w. IsBefore w js) e (AllPairs-head IsBefore x xs js up later))))
      ∙ (M.unit_op (total M (map f xs)) ∙ total-one_place M f xs js (AllPairs-tail IsBefore x xs up) later (λ z found other. others z (Contains-later x xs z found) other))
]

module _ {A C : Type 0} (plus times : CommutativeMonoid C) (value : A → C) where
  -- the value at an index list, by the name of totals and by that of products
  same-value : (o : Option A) → value_or value plus.unit o ≡ value_of plus value o
  same-value None = refl
  same-value (Some x) = refl

  abbrev at : Grid A → List ℕ → C
  at g is = value_of plus value (cell g is)

  -- the product of the kernel's value at an index list and the array's value that meets it
  abbrev meeting : Grid A → List ℕ → List ℕ → List ℕ → List ℕ
  meeting g ms ps js = window_index (single_steps g.lengths) ps (mirrored ms js)

  pub filtered-sum : (g kernel : Grid A) → IsGrid g → IsGrid kernel → length kernel.lengths ≡ length g.lengths → (ps : List ℕ) → InBox (valid_counts g.lengths kernel.lengths) ps
      → total plus (valid_products times value g kernel ps) ≡ total plus (map (λ js. times.op (at kernel js) (at g (meeting g kernel.lengths ps js))) (row_order kernel.lengths))
  filtered-sum g kernel whole whole_kernel axes ps b =
      products-total plus times value g kernel whole whole_kernel axes ps b
      ∙ total-same plus _ _ (row_order kernel.lengths) (λ js.
      ap (λ t. times.op t (value_or value plus.unit (cell g (meeting g kernel.lengths ps js)))) (same-value (cell kernel js))
      ∙ ap (times.op (at kernel js)) (same-value (cell g (meeting g kernel.lengths ps js))))

  module _ (distributes : (x y z : C) → times.op x (plus.op y z) ≡ plus.op (times.op x y) (times.op x z)) (absorbs : (x : C) → times.op plus.unit x ≡ plus.unit) where
    pub filters-of_sums : FiltersOfSums plus times value
    filters-of_sums g h r kernel adds whole axes ps b =
        let own : r.lengths ≡ g.lengths = lengths-added plus value g h r adds in
        let same : h.lengths ≡ g.lengths = sym adds.same in
        let ms : List ℕ = kernel.lengths in
        let left : List ℕ → C = λ js. times.op (at kernel js) (at g (meeting g ms ps js)) in
        let right : List ℕ → C = λ js. times.op (at kernel js) (at h (meeting g ms ps js)) in
        filtered-sum r kernel adds.sums.whole whole (axes ∙ sym (ap length own)) ps (subst (λ ns. InBox (valid_counts ns ms) ps) (sym own) b)
        ∙ (ap (λ ns. total plus (map (λ js. times.op (at kernel js) (at r (window_index (single_steps ns) ps (mirrored ms js)))) (row_order ms))) own
        ∙ (total-same plus _ (λ js. plus.op (left js) (right js)) (row_order ms) (λ js.
        ap (times.op (at kernel js)) (at-sum plus value g h r adds (meeting g ms ps js)) ∙ distributes (at kernel js) (at g (meeting g ms ps js)) (at h (meeting g ms ps js)))
        ∙ (total-plus plus left right (row_order ms)
        ∙ (ap (λ t. plus.op t (total plus (map right (row_order ms)))) (sym (filtered-sum g kernel adds.left whole axes ps b))
        ∙ ap (plus.op (total plus (valid_products times value g kernel ps)))
        (ap (λ ns. total plus (map (λ js. times.op (at kernel js) (at h (window_index (single_steps ns) ps (mirrored ms js)))) (row_order ms))) (sym same)
        ∙ sym (filtered-sum h kernel adds.right whole (axes ∙ sym (ap length same)) ps (subst (λ ns. InBox (valid_counts ns ms) ps) (sym same) b)))))))

    pub filters-by_sums : FiltersBySums plus times value
    filters-by_sums g k l m whole adds axes ps b =
        let own : m.lengths ≡ k.lengths = lengths-added plus value k l m adds in
        let same : l.lengths ≡ k.lengths = sym adds.same in
        let seen : List ℕ → C = λ js. at g (meeting g k.lengths ps js) in
        let left : List ℕ → C = λ js. times.op (at k js) (seen js) in
        let right : List ℕ → C = λ js. times.op (at l js) (seen js) in
        filtered-sum g m whole adds.sums.whole (ap length own ∙ axes) ps (subst (λ ms. InBox (valid_counts g.lengths ms) ps) (sym own) b)
        ∙ (ap (λ ms. total plus (map (λ js. times.op (at m js) (at g (meeting g ms ps js))) (row_order ms))) own
        ∙ (total-same plus _ (λ js. plus.op (left js) (right js)) (row_order k.lengths) (λ js.
        times.commutes (at m js) (seen js)
        ∙ (ap (times.op (seen js)) (at-sum plus value k l m adds js)
        ∙ (distributes (seen js) (at k js) (at l js)
        ∙ (ap (λ t. plus.op t (times.op (seen js) (at l js))) (times.commutes (seen js) (at k js)) ∙ ap (plus.op (left js)) (times.commutes (seen js) (at l js))))))
        ∙ (total-plus plus left right (row_order k.lengths)
        ∙ (ap (λ t. plus.op t (total plus (map right (row_order k.lengths)))) (sym (filtered-sum g k whole adds.left axes ps b))
        ∙ ap (plus.op (total plus (valid_products times value g k ps)))
        (ap (λ ms. total plus (map (λ js. times.op (at l js) (at g (meeting g ms ps js))) (row_order ms))) (sym same)
        ∙ sym (filtered-sum g l whole adds.right (ap length same ∙ axes) ps (subst (λ ms. InBox (valid_counts g.lengths ms) ps) (sym same) b)))))))

    pub filters-of_multiples : FiltersOfMultiples plus times value
    filters-of_multiples factor g r kernel by whole axes ps b =
        let own : r.lengths ≡ g.lengths = by.products.lengths in
        let ms : List ℕ = kernel.lengths in
        let one : List ℕ → C = λ js. times.op (at kernel js) (at g (meeting g ms ps js)) in
        filtered-sum r kernel by.products.whole whole (axes ∙ sym (ap length own)) ps (subst (λ ns. InBox (valid_counts ns ms) ps) (sym own) b)
        ∙ (ap (λ ns. total plus (map (λ js. times.op (at kernel js) (at r (window_index (single_steps ns) ps (mirrored ms js)))) (row_order ms))) own
        ∙ (total-same plus _ (λ js. times.op (one js) factor) (row_order ms) (λ js.
        ap (times.op (at kernel js)) (at-product plus value times distributes absorbs factor g r by (meeting g ms ps js)) ∙ sym (times.associates (at kernel js) (at g (meeting g ms ps js)) factor))
        ∙ (total-multiplied plus value times distributes absorbs factor one (row_order ms)
        ∙ ap (λ t. times.op t factor) (sym (filtered-sum g kernel by.whole whole axes ps b)))))

    pub filters-by_multiples : FiltersByMultiples plus times value
    filters-by_multiples factor g k m whole by axes ps b =
        let own : m.lengths ≡ k.lengths = by.products.lengths in
        let seen : List ℕ → C = λ js. at g (meeting g k.lengths ps js) in
        let one : List ℕ → C = λ js. times.op (at k js) (seen js) in
        filtered-sum g m whole by.products.whole (ap length own ∙ axes) ps (subst (λ ms. InBox (valid_counts g.lengths ms) ps) (sym own) b)
        ∙ (ap (λ ms. total plus (map (λ js. times.op (at m js) (at g (meeting g ms ps js))) (row_order ms))) own
        ∙ (total-same plus _ (λ js. times.op (one js) factor) (row_order k.lengths) (λ js.
        ap (λ t. times.op t (seen js)) (at-product plus value times distributes absorbs factor k m by js)
        ∙ (times.associates (at k js) factor (seen js) ∙ (ap (times.op (at k js)) (times.commutes factor (seen js)) ∙ sym (times.associates (at k js) (seen js) factor))))
        ∙ (total-multiplied plus value times distributes absorbs factor one (row_order k.lengths)
        ∙ ap (λ t. times.op t factor) (sym (filtered-sum g k whole by.whole axes ps b)))))

    pub filters-by_one_cell : FiltersByOneCell plus times value
    filters-by_one_cell g kernel whole whole_kernel axes js k here others ps b =
        filtered-sum g kernel whole whole_kernel axes ps b
        ∙ (total-one_place plus (λ is. times.op (at kernel is) (at g (meeting g kernel.lengths ps is))) (row_order kernel.lengths) js (row_order-is kernel.lengths).rising ((row_order-is kernel.lengths).whole js (cell-inside kernel js k here))
        (λ is found other. each is other (cell kernel is) refl)
        ∙ (ap (λ o. times.op (value_of plus value o) (at g (meeting g kernel.lengths ps js))) here
        ∙ ap (times.op (value k)) (sym (same-value (cell g (meeting g kernel.lengths ps js))))))
      where
        each : (is : List ℕ) → is ≢ js → (o : Option A) → cell kernel is ≡ o → times.op (at kernel is) (at g (meeting g kernel.lengths ps is)) ≡ plus.unit
        each is other None none = ap (λ o. times.op (value_of plus value o) (at g (meeting g kernel.lengths ps is))) none ∙ absorbs (at g (meeting g kernel.lengths ps is))
        each is other (Some x) some =
            ap (λ o. times.op (value_of plus value o) (at g (meeting g kernel.lengths ps is))) some
            ∙ (ap (λ t. times.op t (at g (meeting g kernel.lengths ps is))) (others is x other some) ∙ absorbs (at g (meeting g kernel.lengths ps is)))
