-- Convolutions of lists and of arrays, in the values of their elements.
use Rattle.std.specs.Prelude.{Bool, IsTrue, ◌↔◌, ◌^◌, ◌<◌, ◌≤◌, ◌*◌, ℤ, pos, ℕ, ◌+◌, ◌-◌, ◌==◌, ◌||◌, if◌then◌else◌, List, [], ◌∷◌, ◌++◌, length, replicate, reverse, drop, take, filter_map, Option, Some, None, Result, slice_get, slice_index}
use Rattle.std.specs.List.{range_with_len}
use Rattle.ndarray.specs.Algebra.{CommutativeMonoid}
use Rattle.ndarray.specs.Grid.{Grid, cell, array_by}
use Rattle.ndarray.specs.Index.{InBox, row_order}
use Rattle.ndarray.specs.Integers.{int_products, int_sums}
use Rattle.ndarray.specs.Matrices.{values_below}
use Rattle.ndarray.specs.Products.{MakesValues, magnitude_sum, products_of}
use Rattle.ndarray.specs.Subviews.{window, window_counts}
use Rattle.ndarray.specs.Sums.{IsSummable, total}
use Rattle.ndarray.specs.declared.elements.Valued.{Ghosts as ValuedGhosts}

-- the length of the full convolution of lists of lengths n and m
abbrev pub full_length : ℕ → ℕ → ℕ
full_length n m = if n == 0 || m == 0 then 0 else n + m - 1

-- the number of windows of length m on a list of length n, one step apart
abbrev pub valid_length : ℕ → ℕ → ℕ
valid_length n m = n + 1 - m

-- the index list counted from the other end on each axis of a box
abbrev pub mirrored : List ℕ → List ℕ → List ℕ
mirrored [] is = []
mirrored (n ∷ ns) [] = []
mirrored (n ∷ ns) (i ∷ is) = (n - 1 - i) ∷ mirrored ns is

-- a step of 1 on each axis
abbrev pub single_steps : List ℕ → List ℕ
single_steps ns = replicate (length ns) 1

-- the number of windows of the kernel's lengths on each axis, one step apart
abbrev pub valid_counts : List ℕ → List ℕ → List ℕ
valid_counts ns ms = window_counts ns ms (single_steps ns)

module _ {A C : Type 0} (times : CommutativeMonoid C) (value : A → C) where
  -- the product of the values of two elements, where there are both
  abbrev pub product_of_both : Option A → Option A → Option C
  product_of_both None y = None
  product_of_both (Some x) None = None
  product_of_both (Some x) (Some y) = Some (times.op (value x) (value y))

  -- for i = 0, 1, .. up to s, the product of element i of xs with element s - i of ys, where there are both
  abbrev pub convolution_products : List A → List A → ℕ → List C
  convolution_products xs ys s = filter_map (λ i. product_of_both (slice_get xs i) (slice_get ys (s - i))) (range_with_len 0 (s + 1))

  -- along the box of the kernel, the product of the cell of the window at a position with the kernel's cell at the mirrored index list
  abbrev pub valid_products : Grid A → Grid A → List ℕ → List C
  valid_products g kernel ps = filter_map (λ js. product_of_both (cell (window g kernel.lengths (single_steps g.lengths) ps) js) (cell kernel (mirrored kernel.lengths js))) (row_order kernel.lengths)

  -- the products of the cells of the window at a position with those of an array of its lengths, one after another
  abbrev pub window_products : Grid A → Grid A → List ℕ → List C
  window_products g h ps = products_of times value (window g h.lengths (single_steps g.lengths) ps).cells h.cells

  -- the products of the window of a list at a position with the kernel reversed, place by place
  abbrev pub filter_products : List A → List A → ℕ → List C
  filter_products xs kernel p = products_of times value (take (length kernel) (drop p xs)) (reverse kernel)

-- a list between k copies of an element on each side
abbrev pub padded : {A : Type 0} → A → ℕ → List A → List A
padded z k xs = replicate k z ++ (xs ++ replicate k z)

module _ {A C : Type 0} (plus times : CommutativeMonoid C) (value : A → C) where
  -- the full convolution: at s, the sum of the products of element i of xs and element j of ys over all i and j with i + j = s
  abbrev pub full_convolution_by : List A → List A → List C
  full_convolution_by xs ys = values_below (full_length (length xs) (length ys)) (λ s. total plus (convolution_products times value xs ys s))

  -- the valid convolution of arrays: at each position of a window, the sum of the products
  abbrev pub valid_convolution_by : Grid A → Grid A → Grid C
  valid_convolution_by g kernel = array_by (valid_counts g.lengths kernel.lengths) (λ ps. total plus (valid_products times value g kernel ps))

  -- the valid convolution of lists
  abbrev pub filtered_by : List A → List A → List C
  filtered_by xs kernel = values_below (valid_length (length xs) (length kernel)) (λ p. total plus (filter_products times value xs kernel p))

module _ {C : Type 0} (plus times : CommutativeMonoid C) where
  -- the full convolution of lists of values
  abbrev pub full_convolution : List C → List C → List C
  full_convolution xs ys = full_convolution_by plus times (λ x. x) xs ys

  -- the valid convolution of lists of values
  abbrev pub filtered : List C → List C → List C
  filtered xs kernel = filtered_by plus times (λ x. x) xs kernel

module _ {A : Type 0} (e : ValuedGhosts A) where
  -- of the products at each position of a window, every selection has its sum in range
  abbrev pub HasValidSumsInRange : Grid A → Grid A → Type 0
  HasValidSumsInRange g kernel = (ps : List ℕ) → InBox (valid_counts g.lengths kernel.lengths) ps → IsSummable e.addition e.InRange (valid_products e.multiplication e.meaning g kernel ps)

  -- the answer is the valid convolution of two arrays: at each position of a window, the sum of the products
  abbrev pub MakesValidConvolution : {E : Type 0} → Grid A → Grid A → Result (Grid A) E → Type 0
  MakesValidConvolution g kernel r = MakesValues e (valid_counts g.lengths kernel.lengths) (λ ps. total e.addition (valid_products e.multiplication e.meaning g kernel ps)) r

  -- of the products at each place of the full convolution, every selection has its sum in range
  abbrev pub HasFullSumsInRange : List A → List A → Type 0
  HasFullSumsInRange xs ys = (s : ℕ) → s < full_length (length xs) (length ys) → IsSummable e.addition e.InRange (convolution_products e.multiplication e.meaning xs ys s)

  -- the answer is the full convolution of two lists of cells: at s, the sum of the products of x(i) and y(j) over all i + j = s
  abbrev pub MakesFullConvolution : {E : Type 0} → List A → List A → Result (Grid A) E → Type 0
  MakesFullConvolution xs ys r = MakesValues e (full_length (length xs) (length ys) ∷ []) (λ is. total e.addition (convolution_products e.multiplication e.meaning xs ys (slice_index is 0))) r

-- the first list between zeros, one fewer on each side than the second list has elements, has at most `isize::MAX` elements, where both lists have some
abbrev pub CanPad : ℕ → ℕ → Type 0
CanPad n m = 1 ≤ n → 1 ≤ m → n + 2 * (m - 1) < 2 ^ 63

module _ {A : Type 0} (value : A → ℤ) (fits : ℤ → Type 0) where
  -- at each position of a window, the absolute values of the products add up to a number that fits
  abbrev pub HasValidMagnitudesInRange : Grid A → Grid A → Type 0
  HasValidMagnitudesInRange g kernel = (ps : List ℕ) → InBox (valid_counts g.lengths kernel.lengths) ps → fits (pos (magnitude_sum (valid_products int_products value g kernel ps)))

  -- the same of the products of each window with an array of its lengths
  abbrev pub HasWindowMagnitudesInRange : Grid A → Grid A → Type 0
  HasWindowMagnitudesInRange g h = (ps : List ℕ) → InBox (valid_counts g.lengths h.lengths) ps → fits (pos (magnitude_sum (window_products int_products value g h ps)))

  -- a test says whether the absolute values of the products of two lists add up to a number that fits; a yes says that every selection has its sum there
  abbrev pub TestsProducts : List A → List A → Bool → Type 0
  TestsProducts xs ys r = (IsTrue r ↔ fits (pos (magnitude_sum (products_of int_products value xs ys)))) × (IsTrue r → IsSummable int_sums fits (products_of int_products value xs ys))

  -- at each place of the full convolution, the absolute values of the products add up to a number that fits
  abbrev pub HasFullMagnitudesInRange : List A → List A → Type 0
  HasFullMagnitudesInRange xs ys = (s : ℕ) → s < full_length (length xs) (length ys) → fits (pos (magnitude_sum (convolution_products int_products value xs ys s)))

  -- of the products at each place of the full convolution, every selection has its sum in the whole numbers that fit
  abbrev pub HasFullSelectionsInRange : List A → List A → Type 0
  HasFullSelectionsInRange xs ys = (s : ℕ) → s < full_length (length xs) (length ys) → IsSummable int_sums fits (convolution_products int_products value xs ys s)
