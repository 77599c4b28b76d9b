-- The product of arrays of one or two axes, by their lanes, is that of matrices.
use Rattle.std.proofs.Common.{◌≡◌, ◌∙◌, ◌+◌, ◌-◌, ◌<◌, ◌≤◌, ◌⊎◌, ℕ, List, [], ◌∷◌, ◌++◌, ap, arith, drop, get_or, inl, inr, insert, length, map, refl, remove, subst, sym, take}
use Rattle.std.specs.Prelude.{◌↔◌, ◌==◌, if◌then◌else◌}
use Rattle.std.proofs.lemmas.List.{get_or-drop}
use Rattle.std.proofs.lemmas.List.Edits.{length-remove}
use Rattle.ndarray.specs.DotLaws.{DefinitionsOfDotAgree, DotAgrees, DotIsMatrixProduct, HasOneOrTwoAxes, LaneSumsAreMatrixSums, MeetAsMatrices, MultiplyAsMatrices, ShapesMultiplyAsMatrices, left_matrix, product_entries, right_matrix}
use Rattle.ndarray.specs.Grid.{Grid, IsGrid}
use Rattle.ndarray.specs.Index.{InBox}
use Rattle.ndarray.specs.Matrices.{Matrix, inner_products, values_below}
use Rattle.ndarray.specs.Products.{HasLaneSumsInRange, HasSumsInRange, HasValues, ShapesMultiply, column_of, dot_entries, lane_products, matrix_of, product_lengths, product_of, row_of, value_at}
use Rattle.ndarray.specs.Subviews.{lane}
use Rattle.ndarray.specs.Sums.{IsSummable, total}
use Rattle.ndarray.specs.declared.elements.Valued.{Ghosts as ValuedGhosts}
use Rattle.ndarray.proofs.boxes.ProductShapes.{lengths-one_one, lengths-one_two, lengths-two_one, lengths-two_two, matrix-shapes}
use Rattle.ndarray.proofs.callers.SameMatrices.{two-indices}
use Rattle.ndarray.proofs.cells.Cells.{cell-inside}
use Rattle.ndarray.proofs.boxes.JoinedBoxes.{InBox-cut}
use Rattle.ndarray.proofs.cells.LaneSums.{lane-values}
use Rattle.ndarray.proofs.cells.Matrices.{below-same, one-length, two-lengths}
use Rattle.ndarray.proofs.sums.InnerSums.{lists-meet}

some-axes : (ks : List ℕ) → HasOneOrTwoAxes ks → 1 ≤ length ks
some-axes ks (inl one) = omega (arith, one)
some-axes ks (inr two) = omega (arith, two)

few-axes : (ks : List ℕ) → HasOneOrTwoAxes ks → length ks ≤ 2
few-axes ks (inl one) = omega (arith, one)
few-axes ks (inr two) = omega (arith, two)

-- the axis that meets the left's last is the first
first-meets : (ks : List ℕ) → HasOneOrTwoAxes ks → length ks - 2 ≡ 0
first-meets ks h = let f = few-axes ks h in omega (arith, f)

pub shapes-as_matrices : ShapesMultiplyAsMatrices
shapes-as_matrices ns ms left right = (
  λ s. record { inner = s.inner ∙ ap (λ k. get_or ms k 0) (first-meets ms right); limit = s.limit },
  λ s. matrix-shapes ns ms (some-axes ns left) (few-axes ns left) (some-axes ms right) (few-axes ms right) s.inner s.limit,
)

single : (n : ℕ) (js : List ℕ) → InBox (n ∷ []) js → (js ≡ get_or js 0 0 ∷ []) × (get_or js 0 0 < n)
single n [] b = absurd b
single n (j ∷ []) b = (refl, b.0)
single n (j ∷ i ∷ js) b = absurd b.1

none : (js : List ℕ) → InBox [] js → js ≡ []
none [] b = refl
none (j ∷ js) b = absurd b

zero-below : (i : ℕ) → i < 1 → 0 ≡ i
zero-below i lt = omega arith

take-one : (is : List ℕ) (n : ℕ) → InBox (n ∷ []) (take 1 is) → take 1 is ≡ get_or is 0 0 ∷ []
take-one [] n b = absurd b
take-one (i ∷ is) n b = refl

module _ {A : Type 0} (e : ValuedGhosts A) (a b : Grid A) where
  -- by the numbers of axes
  abbrev pub left-by : ℕ → Matrix e.Carrier
  left-by n = if n == 1 then row_of e a else matrix_of e a

  abbrev pub right-by : ℕ → Matrix e.Carrier
  right-by m = if m == 1 then column_of e b else matrix_of e b

  abbrev pub row-by : ℕ → List ℕ → ℕ
  row-by n is = if n == 1 then 0 else get_or is 0 0

  abbrev pub column-by : ℕ → ℕ → List ℕ → ℕ
  column-by n m is = if m == 1 then 0 else get_or is (n - 1) 0

  -- a row of the left, and its cells
  abbrev LeftValues : ℕ → Type 0
  LeftValues n = length a.lengths ≡ n → (is : List ℕ) → InBox (remove a.lengths (n - 1)) (take (n - 1) is)
      → map e.meaning (lane a (n - 1) (take (n - 1) is)).cells ≡ values_below (left-by n).columns ((left-by n).cell (row-by n is))

  left-values : IsGrid a → (n : ℕ) → (n ≡ 1) ⊎ (n ≡ 2) → LeftValues n
  left-values whole n few = elim few [ inl x ↦ subst LeftValues (sym x) one | inr x ↦ subst LeftValues (sym x) two ]
    where
      one : LeftValues 1
      one p is inside = lane-values e.meaning e.addition.unit a whole 0 (omega (arith, p)) [] inside

      two : LeftValues 2
      two p is inside =
          let t = take-one is (get_or a.lengths 0 0) (subst (λ ns. InBox (remove ns 1) (take 1 is)) (two-lengths a.lengths p) inside) in
          lane-values e.meaning e.addition.unit a whole 1 (omega (arith, p)) (take 1 is) inside
          ∙ below-same (get_or a.lengths 1 0) _ _ (λ q lt. ap (λ js. value_at e a (insert js 1 q)) t)

  -- a column of the right, and its cells
  abbrev RightValues : ℕ → Type 0
  RightValues m = length b.lengths ≡ m → (js : List ℕ) → InBox (remove b.lengths (m - 2)) js
      → map e.meaning (lane b (m - 2) js).cells ≡ values_below (right-by m).rows (λ k. (right-by m).cell k (if m == 1 then 0 else get_or js 0 0))

  right-values : IsGrid b → (m : ℕ) → (m ≡ 1) ⊎ (m ≡ 2) → RightValues m
  right-values whole m few = elim few [ inl x ↦ subst RightValues (sym x) one | inr x ↦ subst RightValues (sym x) two ]
    where
      one : RightValues 1
      one p js inside =
          let t = none js (subst (λ ns. InBox (remove ns 0) js) (one-length b.lengths p) inside) in
          lane-values e.meaning e.addition.unit b whole 0 (omega (arith, p)) js inside
          ∙ below-same (get_or b.lengths 0 0) _ _ (λ q lt. ap (λ is. value_at e b (insert is 0 q)) t)

      two : RightValues 2
      two p js inside =
          let t = (single (get_or b.lengths 1 0) js (subst (λ ns. InBox (remove ns 0) js) (two-lengths b.lengths p) inside)).0 in
          lane-values e.meaning e.addition.unit b whole 0 (omega (arith, p)) js inside
          ∙ below-same (get_or b.lengths 0 0) _ _ (λ q lt. ap (λ is. value_at e b (insert is 0 q)) t)

  abbrev LeftColumns : ℕ → Type 0
  LeftColumns n = (left-by n).columns ≡ get_or a.lengths (n - 1) 0

  left-columns : (n : ℕ) → (n ≡ 1) ⊎ (n ≡ 2) → LeftColumns n
  left-columns n few = elim few [ inl x ↦ subst LeftColumns (sym x) refl | inr x ↦ subst LeftColumns (sym x) refl ]

  abbrev RightRows : ℕ → Type 0
  RightRows m = (right-by m).rows ≡ get_or b.lengths (m - 2) 0

  right-rows : (m : ℕ) → (m ≡ 1) ⊎ (m ≡ 2) → RightRows m
  right-rows m few = elim few [ inl x ↦ subst RightRows (sym x) refl | inr x ↦ subst RightRows (sym x) refl ]

  -- the sums in range, by lanes and by rows and columns
  abbrev products-by : ℕ → ℕ → ℕ → ℕ → List e.Carrier
  products-by n m i j = inner_products e.multiplication (left-by n) (right-by m) i j

  abbrev Ranges : ℕ → ℕ → Type 0
  Ranges n m = length a.lengths ≡ n → length b.lengths ≡ m
      → ((is : List ℕ) → InBox (product_lengths a.lengths b.lengths) is → IsSummable e.addition e.InRange (products-by n m (row-by n is) (column-by n m is))) ↔ HasSumsInRange e (left-by n) (right-by m)

  ranges-one_one : Ranges 1 1
  ranges-one_one p q =
      let lens = lengths-one_one a.lengths b.lengths p q in (
        λ h i j li lj. subst (λ k. IsSummable e.addition e.InRange (products-by 1 1 k j)) (zero-below i li) (subst (λ k. IsSummable e.addition e.InRange (products-by 1 1 0 k)) (zero-below j lj) (h [] (subst (λ l. InBox l []) (sym lens) tt))),
        λ h is inside. h 0 0 (omega arith) (omega arith),
      )

  ranges-one_two : Ranges 1 2
  ranges-one_two p q =
      let lens = lengths-one_two a.lengths b.lengths p q in (
        λ h i j li lj. subst (λ k. IsSummable e.addition e.InRange (products-by 1 2 k j)) (zero-below i li) (h (j ∷ []) (subst (λ l. InBox l (j ∷ [])) (sym lens) (lj, tt))),
        λ h is inside. h 0 (get_or is 0 0) (omega arith) (single (get_or b.lengths 1 0) is (subst (λ l. InBox l is) lens inside)).1,
      )

  ranges-two_one : Ranges 2 1
  ranges-two_one p q =
      let lens = lengths-two_one a.lengths b.lengths p q in (
        λ h i j li lj. subst (λ k. IsSummable e.addition e.InRange (products-by 2 1 i k)) (zero-below j lj) (h (i ∷ []) (subst (λ l. InBox l (i ∷ [])) (sym lens) (li, tt))),
        λ h is inside. h (get_or is 0 0) 0 (single (get_or a.lengths 0 0) is (subst (λ l. InBox l is) lens inside)).1 (omega arith),
      )

  ranges-two_two : Ranges 2 2
  ranges-two_two p q =
      let lens = lengths-two_two a.lengths b.lengths p q in (
        λ h i j li lj. h (i ∷ j ∷ []) (subst (λ l. InBox l (i ∷ j ∷ [])) (sym lens) (li, (lj, tt))),
        λ h is inside.
            let (i, j, same, li, lj) = two-indices (get_or a.lengths 0 0) (get_or b.lengths 1 0) is (subst (λ l. InBox l is) lens inside) in
            subst (λ js. IsSummable e.addition e.InRange (products-by 2 2 (get_or js 0 0) (get_or js 1 0))) (sym same) (h i j li lj),
      )

  ranges : (n m : ℕ) → (n ≡ 1) ⊎ (n ≡ 2) → (m ≡ 1) ⊎ (m ≡ 2) → Ranges n m
  ranges n m left right = elim left [
    | inl x ↦ elim right [ inl y ↦ subst (λ k. Ranges k m) (sym x) (subst (Ranges 1) (sym y) ranges-one_one) | inr y ↦ subst (λ k. Ranges k m) (sym x) (subst (Ranges 1) (sym y) ranges-one_two) ]
    | inr x ↦ elim right [ inl y ↦ subst (λ k. Ranges k m) (sym x) (subst (Ranges 2) (sym y) ranges-two_one) | inr y ↦ subst (λ k. Ranges k m) (sym x) (subst (Ranges 2) (sym y) ranges-two_two) ]
  ]

  pub meets : MultiplyAsMatrices e a b → MeetAsMatrices e a b
  meets both = record {
    left = both.left;
    right = both.right;
    left_whole = both.left_whole;
    right_whole = both.right_whole;
    inner = both.shapes.inner ∙ ap (λ k. get_or b.lengths k 0) (first-meets b.lengths both.right);
  }

  -- the lengths, by the numbers of axes
  abbrev pub lengths-by : ℕ → ℕ → List ℕ
  lengths-by n m = (if n == 1 then [] else get_or a.lengths 0 0 ∷ []) ++ (if m == 1 then [] else get_or b.lengths 1 0 ∷ [])

  lengths-as : (n m : ℕ) → (n ≡ 1) ⊎ (n ≡ 2) → (m ≡ 1) ⊎ (m ≡ 2) → length a.lengths ≡ n → length b.lengths ≡ m → product_lengths a.lengths b.lengths ≡ lengths-by n m
  lengths-as n m left right = elim left [
    | inl x ↦ elim right [
      | inl y ↦ λ p q. lengths-one_one a.lengths b.lengths (p ∙ x) (q ∙ y) ∙ (ap (λ k. lengths-by k 1) (sym x) ∙ ap (lengths-by n) (sym y))
      | inr y ↦ λ p q. lengths-one_two a.lengths b.lengths (p ∙ x) (q ∙ y) ∙ (ap (λ k. lengths-by k 2) (sym x) ∙ ap (lengths-by n) (sym y))
    ]
    | inr x ↦ elim right [
      | inl y ↦ λ p q. lengths-two_one a.lengths b.lengths (p ∙ x) (q ∙ y) ∙ (ap (λ k. lengths-by k 1) (sym x) ∙ ap (lengths-by n) (sym y))
      | inr y ↦ λ p q. lengths-two_two a.lengths b.lengths (p ∙ x) (q ∙ y) ∙ (ap (λ k. lengths-by k 2) (sym x) ∙ ap (lengths-by n) (sym y))
    ]
  ]

  module _ (both : MeetAsMatrices e a b) where
    -- the products at an index list are those of a row and a column
    products-agree : (is : List ℕ) → InBox (product_lengths a.lengths b.lengths) is
        → lane_products e a b is ≡ products-by (length a.lengths) (length b.lengths) (row-by (length a.lengths) is) (column-by (length a.lengths) (length b.lengths) is)
    products-agree is inside =
        let n = length a.lengths in
        let m = length b.lengths in
        let cut = InBox-cut (remove a.lengths (n - 1)) (remove b.lengths (m - 2)) is inside in
        let some = some-axes a.lengths both.left in
        let short : length (remove a.lengths (n - 1)) ≡ n - 1 = (let l = length-remove a.lengths (n - 1) (omega (arith, some)) in omega (arith, l)) in
        let row = subst (λ k. InBox (remove a.lengths (n - 1)) (take k is)) short cut.0 in
        let column = subst (λ k. InBox (remove b.lengths (m - 2)) (drop k is)) short cut.1 in
        let meet = lists-meet e.multiplication e.meaning (lane a (n - 1) (take (n - 1) is)).cells (lane b (m - 2) (drop (n - 1) is)).cells _ _ _ _
        (left-values both.left_whole n both.left refl is row) (right-values both.right_whole m both.right refl (drop (n - 1) is) column)
        (left-columns n both.left ∙ (both.inner ∙ (ap (λ k. get_or b.lengths k 0) (sym (first-meets b.lengths both.right)) ∙ sym (right-rows m both.right)))) in
        let at : get_or (drop (n - 1) is) 0 0 ≡ get_or is (n - 1) 0 = get_or-drop (n - 1) is 0 0 ∙ (let z : n - 1 + 0 ≡ n - 1 = omega arith in ap (λ k. get_or is k 0) z) in
        meet.0 ∙ ap (λ j. products-by n m (row-by n is) (if m == 1 then 0 else j)) at

    entries-agree : (is : List ℕ) → InBox (product_lengths a.lengths b.lengths) is → dot_entries e a b is ≡ product_entries e a b is
    entries-agree is inside = ap (total e.addition) (products-agree is inside)

    pub lane_sums-agree : HasLaneSumsInRange e a b ↔ HasSumsInRange e (left_matrix e a) (right_matrix e b)
    lane_sums-agree =
        let r = ranges (length a.lengths) (length b.lengths) both.left both.right refl refl in (
          λ h. r.0 (λ is inside. subst (IsSummable e.addition e.InRange) (products-agree is inside) (h is inside)),
          λ h is inside. subst (IsSummable e.addition e.InRange) (sym (products-agree is inside)) (r.1 h is inside),
        )

    pub dot-agrees : DotAgrees e a b
    dot-agrees =
        let lens = lengths-as (length a.lengths) (length b.lengths) both.left both.right refl refl in
        record {
          lengths = lens;
          entries = entries-agree;
          ranges = lane_sums-agree;
          arrays = λ r. (
            λ h. record { lengths = h.lengths ∙ lens; whole = h.whole; cells = λ is z at. h.cells is z at ∙ entries-agree is (subst (λ l. InBox l is) h.lengths (cell-inside r is z at)) },
            λ h. record { lengths = h.lengths ∙ sym lens; whole = h.whole; cells = λ is z at. h.cells is z at ∙ sym (entries-agree is (subst (λ l. InBox l is) (h.lengths ∙ sym lens) (cell-inside r is z at))) },
          );
        }

pub definitions-agree : {A : Type 0} (e : ValuedGhosts A) → DefinitionsOfDotAgree e
definitions-agree e a b both = dot-agrees e a b both

pub lane_sums-are : {A : Type 0} (e : ValuedGhosts A) → LaneSumsAreMatrixSums e
lane_sums-are e a b both = lane_sums-agree e a b (meets e a b both)

pub dot-is : {A : Type 0} (e : ValuedGhosts A) → DotIsMatrixProduct e
dot-is e a b r both has =
    let agrees = dot-agrees e a b (meets e a b both) in
    subst (λ ns. HasValues e ns (product_entries e a b) r) (sym agrees.lengths) ((agrees.arrays r).0 has)

-- of arrays of n and m axes
module _ {A : Type 0} (e : ValuedGhosts A) (a b : Grid A) (n m : ℕ) (left_axes : length a.lengths ≡ n) (right_axes : length b.lengths ≡ m) (few_left : (n ≡ 1) ⊎ (n ≡ 2)) (few_right : (m ≡ 1) ⊎ (m ≡ 2))
    (whole_a : IsGrid a) (whole_b : IsGrid b) (shapes : ShapesMultiply a.lengths b.lengths) where
  both : MeetAsMatrices e a b
  both = meets e a b record {
    left = subst (λ k. (k ≡ 1) ⊎ (k ≡ 2)) (sym left_axes) few_left;
    right = subst (λ k. (k ≡ 1) ⊎ (k ≡ 2)) (sym right_axes) few_right;
    left_whole = whole_a;
    right_whole = whole_b;
    shapes = shapes;
  }

  pub lane_sums-by : HasLaneSumsInRange e a b → HasSumsInRange e (left-by e a b n) (right-by e a b m)
  lane_sums-by sums =
      subst (λ k. HasSumsInRange e (left-by e a b k) (right-by e a b m)) left_axes
      (subst (λ k. HasSumsInRange e (left_matrix e a) (right-by e a b k)) right_axes ((lane_sums-agree e a b both).0 sums))

  -- what has the values of the product of the matrices has the sums of their lanes
  pub dot-by : (r : Grid A) → HasValues e (lengths-by e a b n m) (λ is. (product_of e (left-by e a b n) (right-by e a b m)).cell (row-by e a b n is) (column-by e a b n m is)) r
      → HasValues e (product_lengths a.lengths b.lengths) (dot_entries e a b) r
  dot-by r made =
      let lengths : r.lengths ≡ product_lengths a.lengths b.lengths = made.lengths ∙ sym (lengths-as e a b n m few_left few_right left_axes right_axes) in
      record {
        lengths = lengths;
        whole = made.whole;
        cells = λ is z at.
            let inside : InBox (product_lengths a.lengths b.lengths) is = subst (λ ns. InBox ns is) lengths (cell-inside r is z at) in
            made.cells is z at
            ∙ sym (entries-agree e a b both is inside
            ∙ (ap (λ k. (product_of e (left-by e a b k) (right_matrix e b)).cell (row-by e a b k is) (column-by e a b k (length b.lengths) is)) left_axes
            ∙ ap (λ k. (product_of e (left-by e a b n) (right-by e a b k)).cell (row-by e a b n is) (column-by e a b n k is)) right_axes));
      }
