-- Arrays that convolutions made: as lists of values, and two filters one after another.
use Rattle.std.proofs.Common.{◌≡◌, ℕ, ◌≤◌, List, [], ◌∷◌, Option, None, Some, length, map, refl, rules, sym, ap, ◌∙◌, arith, subst}
use Rattle.std.specs.Prelude.{All, slice_index}
use Rattle.std.specs.List.{range_with_len}
use Rattle.std.proofs.lemmas.List.{length-map}
use Rattle.std.proofs.lemmas.Simd.{map-map}
use Rattle.ndarray.specs.Algebra.{CommutativeMonoid}
use Rattle.ndarray.specs.Convolution.{convolution_products, filtered, full_convolution, full_length, valid_convolution_by, valid_counts, valid_products}
use Rattle.ndarray.specs.ConvolutionLaws.{FiltersCompose}
use Rattle.ndarray.specs.Grid.{Grid, IsGrid, cell, one_axis}
use Rattle.ndarray.specs.Index.{InBox, row_order}
use Rattle.ndarray.specs.Products.{HasValues}
use Rattle.ndarray.specs.Subviews.{ArePositive}
use Rattle.ndarray.specs.Sums.{total}
use Rattle.ndarray.specs.declared.elements.Valued.{Ghosts as ValuedGhosts}
use Rattle.ndarray.proofs.boxes.Orders.{row_order-is}
use Rattle.ndarray.proofs.callers.Elementwise.{array_by-follows}
use Rattle.ndarray.proofs.callers.Joining.{one_axis-is}
use Rattle.ndarray.proofs.cells.Cells.{cell-Some}
use Rattle.ndarray.proofs.convolution.Mapped.{filtered-map, full_convolution-map}
use Rattle.ndarray.proofs.convolution.OneAxis.{array_by-one, filtered-valid, row_order-one}
use Rattle.ndarray.proofs.convolution.WholeWindows.{in_rows}
use Rattle.ndarray.proofs.lists.Elements.{map-same}
use Rattle.ndarray.proofs.sums.RowSums.{map-range-below}
-- The sum of the products over a kernel's own indices, along one axis and two.
pub use Rattle.ndarray.proofs.convolution.KernelSums.{double-sum, single-sum}

-- a kernel of one axis that has cells, and an array of one axis
pub positive-one : {A B : Type 0} (g : Grid A) (kernel : Grid B) → length g.lengths ≡ 1 → length kernel.lengths ≡ 1 → IsGrid kernel → 1 ≤ length kernel.cells → ArePositive g.lengths kernel.lengths
positive-one g kernel one_g one_k whole some = record {
  as_many = one_k ∙ sym one_g;
  positive = subst (λ w. All (λ c. 1 ≤ c) w.lengths) (sym (one_axis-is kernel one_k whole)) (search (rules, some));
}

strip : {X : Type 0} (xs ys : List X) → map Some xs ≡ map Some ys → xs ≡ ys
strip [] [] e = refl
strip [] (y ∷ ys) e = absurd (cc)
strip (x ∷ xs) [] e = absurd (cc)
strip (x ∷ xs) (y ∷ ys) e =
    let a : x ≡ y = cc in
    let rest : xs ≡ ys = strip xs ys (cc) in
    ap (λ t. t ∷ xs) a ∙ ap (λ l. y ∷ l) rest

-- what an element becomes where there is one
value_of : {X Y : Type 0} → (X → Y) → Option X → Option Y
value_of f None = None
value_of f (Some x) = Some (f x)

-- arrays of elements that are their own values
module _ {C : Type 0} (plus times : CommutativeMonoid C) where
  -- a valid convolution along one axis
  pub valid-made : (g kernel r : Grid C) → length g.lengths ≡ 1 → IsGrid g → length kernel.lengths ≡ 1 → IsGrid kernel
      → r.lengths ≡ valid_counts g.lengths kernel.lengths → IsGrid r → ((is : List ℕ) (z : C) → cell r is ≡ Some z → z ≡ total plus (valid_products times (λ x. x) g kernel is))
      → r ≡ one_axis (filtered plus times g.cells kernel.cells)
  valid-made g kernel r one_g whole_g one_k whole_k lengths whole cells =
      array_by-follows r (valid_counts g.lengths kernel.lengths) (λ ps. total plus (valid_products times (λ x. x) g kernel ps)) whole lengths cells
      ∙ (ap (λ w. valid_convolution_by plus times (λ x. x) w kernel) (one_axis-is g one_g whole_g)
      ∙ (ap (valid_convolution_by plus times (λ x. x) (one_axis g.cells)) (one_axis-is kernel one_k whole_k)
      ∙ filtered-valid plus times (λ x. x) g.cells kernel.cells))

  -- a full convolution
  pub full-made : (xs ys : List C) (r : Grid C) → r.lengths ≡ full_length (length xs) (length ys) ∷ [] → IsGrid r
      → ((is : List ℕ) (z : C) → cell r is ≡ Some z → z ≡ total plus (convolution_products times (λ x. x) xs ys (slice_index is 0)))
      → r ≡ one_axis (full_convolution plus times xs ys)
  full-made xs ys r lengths whole cells =
      let n = full_length (length xs) (length ys) in
      let at = λ (s : ℕ). total plus (convolution_products times (λ x. x) xs ys s) in
      array_by-follows r (n ∷ []) (λ is. at (slice_index is 0)) whole lengths cells ∙ array_by-one at n

module _ {A : Type 0} (e : ValuedGhosts A) where
  -- the values of an array's cells, in row order
  pub values-list : (ns : List ℕ) (f : List ℕ → e.Carrier) (r : Grid A) → HasValues e ns f r → map e.meaning r.cells ≡ map f (row_order ns)
  unfolding value_of
  values-list ns f r h =
      let each : map (λ is. value_of e.meaning (cell r is)) (row_order r.lengths) ≡ map (λ is. Some (f is)) (row_order r.lengths) =
      map-same (λ is. value_of e.meaning (cell r is)) (λ is. Some (f is)) (InBox r.lengths) (row_order r.lengths)
      (λ is b. let (x, at) = cell-Some r h.whole is b in ap (value_of e.meaning) at ∙ ap Some (h.cells is x at)) (row_order-is r.lengths).within in
      let both : map Some (map e.meaning r.cells) ≡ map Some (map f (row_order r.lengths)) =
      map-map Some e.meaning r.cells
      ∙ (sym (map-map (value_of e.meaning) Some r.cells)
      ∙ (ap (map (value_of e.meaning)) (sym (in_rows r h.whole))
      ∙ (map-map (value_of e.meaning) (cell r) (row_order r.lengths)
      ∙ (each ∙ sym (map-map Some f (row_order r.lengths)))))) in
      strip (map e.meaning r.cells) (map f (row_order r.lengths)) both ∙ ap (λ ms. map f (row_order ms)) h.lengths

  -- of a valid convolution along one axis
  pub valid-list : (g kernel r : Grid A) → length g.lengths ≡ 1 → IsGrid g → length kernel.lengths ≡ 1 → IsGrid kernel
      → HasValues e (valid_counts g.lengths kernel.lengths) (λ ps. total e.addition (valid_products e.multiplication e.meaning g kernel ps)) r
      → map e.meaning r.cells ≡ filtered e.addition e.multiplication (map e.meaning g.cells) (map e.meaning kernel.cells)
  valid-list g kernel r one_g whole_g one_k whole_k h =
      values-list (valid_counts g.lengths kernel.lengths) _ r h
      ∙ (ap (λ w. (valid_convolution_by e.addition e.multiplication e.meaning w kernel).cells) (one_axis-is g one_g whole_g)
      ∙ (ap (λ w. (valid_convolution_by e.addition e.multiplication e.meaning (one_axis g.cells) w).cells) (one_axis-is kernel one_k whole_k)
      ∙ (ap (λ w. w.cells) (filtered-valid e.addition e.multiplication e.meaning g.cells kernel.cells)
      ∙ sym (filtered-map e.addition e.multiplication e.meaning g.cells kernel.cells))))

  -- of a full convolution
  pub full-list : (xs ys : List A) (r : Grid A)
      → HasValues e (full_length (length xs) (length ys) ∷ []) (λ is. total e.addition (convolution_products e.multiplication e.meaning xs ys (slice_index is 0))) r
      → map e.meaning r.cells ≡ full_convolution e.addition e.multiplication (map e.meaning xs) (map e.meaning ys)
  full-list xs ys r h =
      let n : ℕ = full_length (length xs) (length ys) in
      let at = λ (is : List ℕ). total e.addition (convolution_products e.multiplication e.meaning xs ys (slice_index is 0)) in
      values-list (n ∷ []) at r h
      ∙ (ap (map at) (row_order-one n)
      ∙ (map-map at (λ k. k ∷ []) (range_with_len 0 n)
      ∙ (map-range-below (λ k. at (k ∷ [])) n
      ∙ sym (full_convolution-map e.addition e.multiplication e.meaning xs ys))))

  same-values : ((a b : A) → e.meaning a ≡ e.meaning b → a ≡ b) → (xs ys : List A) → map e.meaning xs ≡ map e.meaning ys → xs ≡ ys
  same-values same [] [] h = refl
  same-values same [] (y ∷ ys) h = absurd (cc)
  same-values same (x ∷ xs) [] h = absurd (cc)
  same-values same (x ∷ xs) (y ∷ ys) h =
      let a : x ≡ y = same x y (cc) in
      let rest : xs ≡ ys = same-values same xs ys (cc) in
      ap (λ t. t ∷ xs) a ∙ ap (λ l. y ∷ l) rest

  -- a valid convolution along one axis has one axis
  pub valid-one : (g kernel r : Grid A) (f : List ℕ → e.Carrier) → length g.lengths ≡ 1 → IsGrid g → length kernel.lengths ≡ 1 → IsGrid kernel
      → HasValues e (valid_counts g.lengths kernel.lengths) f r → length r.lengths ≡ 1
  valid-one g kernel r f one_g whole_g one_k whole_k h =
      ap length (h.lengths
      ∙ (ap (λ w. valid_counts w.lengths kernel.lengths) (one_axis-is g one_g whole_g)
      ∙ ap (λ w. valid_counts (length g.cells ∷ []) w.lengths) (one_axis-is kernel one_k whole_k)))

  -- a signal that two filters filtered one after another, and one that their convolved kernel filtered
  pub filters-same : FiltersCompose e.addition e.multiplication → ((a b : A) → e.meaning a ≡ e.meaning b → a ≡ b) → (signal first second once twice kernel direct : Grid A)
      → length signal.lengths ≡ 1 → IsGrid signal → length first.lengths ≡ 1 → IsGrid first → length second.lengths ≡ 1 → IsGrid second → 1 ≤ length first.cells → 1 ≤ length second.cells
      → HasValues e (valid_counts signal.lengths first.lengths) (λ ps. total e.addition (valid_products e.multiplication e.meaning signal first ps)) once
      → HasValues e (valid_counts once.lengths second.lengths) (λ ps. total e.addition (valid_products e.multiplication e.meaning once second ps)) twice
      → HasValues e (full_length (length first.cells) (length second.cells) ∷ []) (λ is. total e.addition (convolution_products e.multiplication e.meaning first.cells second.cells (slice_index is 0))) kernel
      → HasValues e (valid_counts signal.lengths kernel.lengths) (λ ps. total e.addition (valid_products e.multiplication e.meaning signal kernel ps)) direct
      → twice ≡ direct
  filters-same compose same signal first second once twice kernel direct one_s whole_s one_f whole_f one_k whole_k some_f some_k h_once h_twice h_kernel h_direct =
      let values = map e.meaning in
      let one_once = valid-one signal first once _ one_s whole_s one_f whole_f h_once in
      let one_kernel : length kernel.lengths ≡ 1 = ap length h_kernel.lengths in
      let lists : values twice.cells ≡ values direct.cells =
      valid-list once second twice one_once h_once.whole one_k whole_k h_twice
      ∙ (ap (λ l. filtered e.addition e.multiplication l (values second.cells)) (valid-list signal first once one_s whole_s one_f whole_f h_once)
      ∙ (compose (values signal.cells) (values first.cells) (values second.cells) (let l = length-map first.cells e.meaning in omega arith) (let l = length-map second.cells e.meaning in omega arith)
      ∙ (ap (filtered e.addition e.multiplication (values signal.cells)) (sym (full-list first.cells second.cells kernel h_kernel))
      ∙ sym (valid-list signal kernel direct one_s whole_s one_kernel h_kernel.whole h_direct)))) in
      one_axis-is twice (valid-one once second twice _ one_once h_once.whole one_k whole_k h_twice) h_twice.whole
      ∙ (ap one_axis (same-values same twice.cells direct.cells lists)
      ∙ sym (one_axis-is direct (valid-one signal kernel direct _ one_s whole_s one_kernel h_kernel.whole h_direct) h_direct.whole))
