-- Sums of the products of a vector with each column of a matrix: the values below a number, one row more, and one place more of a row.
use Rattle.std.proofs.Common.{◌≡◌, ◌∙◌, ℕ, zero, suc, ◌+◌, ◌-◌, ◌<◌, ◌≤◌, List, [], ◌∷◌, ◌++◌, add-one, ap, append_assoc, arith, drop, get_or, get_or-set_other, inl, inr, length, map, refl, replicate, set, subst, sym, take}
use Rattle.std.proofs.lemmas.Bool.{cases_lt}
use Rattle.std.specs.List.{range_with_len}
use Rattle.std.proofs.Math.Seq.{drop-append_seam, take-length}
use Rattle.std.proofs.lemmas.Grind.{get_or-set_at}
use Rattle.std.proofs.lemmas.List.{get_or_default, length-append, length-map, length-set}
use Rattle.ndarray.specs.Algebra.{CommutativeMonoid}
use Rattle.ndarray.specs.Matrices.{values_below}
use Rattle.ndarray.specs.Products.{AddsProduct, CanAddProduct}
use Rattle.ndarray.specs.linalg.RowSums.{AddsScaledRow, CanAddScaledRow}
use Rattle.ndarray.specs.Sums.{IsSummable, total}
use Rattle.ndarray.specs.declared.elements.Valued.{Ghosts as ValuedGhosts}
use Rattle.ndarray.proofs.cells.Matrices.{below-same}
use Rattle.ndarray.proofs.sums.Fronts.{element-in-range, front-in-range, total-more}
use Rattle.ndarray.proofs.sums.InnerSums.{length-below}

-- ---- the values below a number

pub below-more : {C : Type 0} (n : ℕ) (f : ℕ → C) → values_below (suc n) f ≡ values_below n f ++ f n ∷ []
below-more zero f = refl
below-more (suc n) f = ap (λ l. f 0 ∷ l) (below-more n (λ k. f (suc k)))

below-from : {C : Type 0} (f : ℕ → C) (a n : ℕ) → map f (range_with_len a n) ≡ values_below n (λ k. f (a + k))
below-from f a zero = refl
below-from f a (suc n) =
    ap (λ m. f m ∷ map f (range_with_len (a + 1) n)) (omega arith)
    ∙ ap (λ l. f (a + 0) ∷ l) (below-from f (a + 1) n ∙ below-same n _ _ (λ k lt. ap f (omega arith)))

pub map-range-below : {C : Type 0} (f : ℕ → C) (n : ℕ) → map f (range_with_len 0 n) ≡ values_below n f
map-range-below f n = below-from f 0 n ∙ below-same n _ _ (λ k lt. ap f (omega arith))

below-split : {C : Type 0} (i n : ℕ) (f : ℕ → C) → i < n → (rest : List C) × (values_below n f ≡ values_below i f ++ f i ∷ rest)
below-split i zero f lt = absurd (omega arith)
below-split zero (suc n) f lt = (values_below n (λ k. f (suc k)), refl)
below-split (suc i) (suc n) f lt = let (rest, is) = below-split i n (λ k. f (suc k)) (omega arith) in (rest, ap (λ l. f 0 ∷ l) is)

module _ {C : Type 0} (M : CommutativeMonoid C) (P : C → Type 0) (i n : ℕ) (f : ℕ → C) (lt : i < n) (h : IsSummable M P (values_below n f)) where
  -- of a list of which every selection has its sum in range, each value is in range
  pub below-in_range : P (f i)
  below-in_range = let (rest, is) = below-split i n f lt in element-in-range M P (values_below i f) (f i) rest (subst (IsSummable M P) is h)

  -- and so is the sum of those before it and it
  pub below-added : P (M.op (total M (values_below i f)) (f i))
  below-added =
      let (rest, is) = below-split i n f lt in
      subst P (total-more M (values_below i f) (f i))
      (front-in-range M P (values_below i f ++ f i ∷ []) rest (subst (IsSummable M P) (is ∙ sym (append_assoc (values_below i f) (f i ∷ []) rest)) h))

module _ {A C : Type 0} (v : A → C) where
  -- an element of a list of known values
  pub value-at : (xs : List A) (n : ℕ) (f : ℕ → C) (j : ℕ) (d : A) → map v xs ≡ values_below n f → j < n → v (get_or xs j d) ≡ f j
  value-at xs zero f j d p lt = absurd (omega arith)
  value-at [] (suc n) f j d p lt = absurd (cc)
  value-at (x ∷ xs) (suc n) f zero d p lt = cc
  value-at (x ∷ xs) (suc n) f (suc j) d p lt = value-at xs n (λ k. f (suc k)) j d (cc) (omega arith)

  pub values-length : (xs : List A) (n : ℕ) (f : ℕ → C) → map v xs ≡ values_below n f → length xs ≡ n
  values-length xs n f p = sym (length-map xs v) ∙ (ap length p ∙ length-below n f)

  -- a list with a known value at each place
  pub values-are : (xs : List A) (n : ℕ) (f : ℕ → C) → length xs ≡ n → ((j : ℕ) (d : A) → j < n → v (get_or xs j d) ≡ f j) → map v xs ≡ values_below n f
  values-are [] zero f e each = refl
  values-are [] (suc n) f e each = absurd (omega (arith, e))
  values-are (x ∷ xs) zero f e each = absurd (omega (arith, e))
  values-are (x ∷ xs) (suc n) f e each =
      ap (λ c. c ∷ map v xs) (each 0 x (omega arith))
      ∙ ap (λ l. f 0 ∷ l) (values-are xs n (λ k. f (suc k)) (omega (arith, e)) (λ j d lt. each (suc j) d (omega arith)))

-- elements of one value
pub values-alike : {A C : Type 0} (v : A → C) (x : A) (c : C) (n : ℕ) → v x ≡ c → map v (replicate n x) ≡ values_below n (λ _. c)
values-alike v x c zero e = refl
values-alike v x c (suc n) e = ap (λ d. d ∷ map v (replicate n x)) e ∙ ap (λ l. c ∷ l) (values-alike v x c n e)

-- what was pushed behind others
pub pushed-last : {A : Type 0} (old more all : List A) (before : ℕ) → before ≡ length old → all ≡ old ++ more → take (length all - before) (drop before all) ≡ more
pushed-last old more all before b e =
    let long : length all - before ≡ length more = let l = ap length e ∙ length-append old more in omega (arith, l, b) in
    ap (λ n. take n (drop before all)) long
    ∙ (ap (λ n. take (length more) (drop n all)) b
    ∙ (ap (λ l. take (length more) (drop (length old) l)) e
    ∙ (ap (take (length more)) (drop-append_seam old more) ∙ take-length more)))

-- the first of the elements that are left behind i
pub first-left : {A : Type 0} (xs : List A) (i : ℕ) (y : A) (rest : List A) → drop i xs ≡ y ∷ rest → (i < length xs) × (get_or xs i y ≡ y) × (drop (i + 1) xs ≡ rest)
first-left [] zero y rest e = absurd (cc)
first-left [] (suc i) y rest e = absurd (cc)
first-left (x ∷ xs) zero y rest e = ((omega arith), (cc), (cc))
first-left (x ∷ xs) (suc i) y rest e = let (lt, here, left) = first-left xs i y rest e in ((omega (arith, lt)), here, rw add-one (rw add-one at left))

-- ---- one row more

module _ {A : Type 0} (e : ValuedGhosts A) (x : A) where
  -- a sum of the first i values, and the next one as a product of x
  module _ (i : ℕ) (f : ℕ → e.Carrier) (sum y : A) (so_far : e.meaning sum ≡ total e.addition (values_below i f)) (product : e.multiplication.op (e.meaning x) (e.meaning y) ≡ f i) where
    pub next-can_add : (k : ℕ) → i < k → IsSummable e.addition e.InRange (values_below k f) → CanAddProduct e x sum y
    next-can_add k lt can = (
      subst e.InRange (sym product) (below-in_range e.addition e.InRange i k f lt can),
      subst e.InRange (sym (ap (λ s. e.addition.op s (e.multiplication.op (e.meaning x) (e.meaning y))) so_far ∙ ap (e.addition.op (total e.addition (values_below i f))) product))
          (below-added e.addition e.InRange i k f lt can),
    )

    pub next-added : (z : A) → AddsProduct e x sum y z → e.meaning z ≡ total e.addition (values_below (i + 1) f)
    next-added z added =
        let all : total e.addition (values_below (i + 1) f) ≡ e.addition.op (total e.addition (values_below i f)) (f i) = rw add-one (ap (total e.addition) (below-more i f) ∙ total-more e.addition (values_below i f) (f i)) in
        added
        ∙ (ap (λ s. e.addition.op s (e.multiplication.op (e.meaning x) (e.meaning y))) so_far
        ∙ (ap (e.addition.op (total e.addition (values_below i f))) product ∙ sym all))

  -- the sums of n columns over the first i rows, where x and row i have their products there
  module _ (n i : ℕ) (f : ℕ → ℕ → e.Carrier) (h : ℕ → e.Carrier) (sums ys : List A)
      (so_far : map e.meaning sums ≡ values_below n (λ j. total e.addition (values_below i (f j))))
      (row : map e.meaning ys ≡ values_below n h)
      (products : (j : ℕ) → j < n → e.multiplication.op (e.meaning x) (h j) ≡ f j i) where
    pub sum-at : (j : ℕ) (d : A) → j < n → e.meaning (get_or sums j d) ≡ total e.addition (values_below i (f j))
    sum-at j d b = value-at e.meaning sums n (λ m. total e.addition (values_below i (f m))) j d so_far b

    pub product-at : (j : ℕ) (d : A) → j < n → e.multiplication.op (e.meaning x) (e.meaning (get_or ys j d)) ≡ f j i
    product-at j d b = ap (e.multiplication.op (e.meaning x)) (value-at e.meaning ys n h j d row b) ∙ products j b

    pub row-can_add : (k : ℕ) → i < k → ((j : ℕ) → j < n → IsSummable e.addition e.InRange (values_below k (f j))) → CanAddScaledRow e x sums ys
    row-can_add k lt can =
        let long = values-length e.meaning ys n h row in
        record {
          same = values-length e.meaning sums n _ so_far ∙ sym long;
          each = λ j d below. let b : j < n = subst (λ m. j < m) long below in next-can_add i (f j) (get_or sums j d) (get_or ys j d) (sum-at j d b) (product-at j d b) k lt (can j b);
        }

    pub row-added : (new : List A) → AddsScaledRow e x ys sums new → map e.meaning new ≡ values_below n (λ j. total e.addition (values_below (i + 1) (f j)))
    row-added new added =
        let long = values-length e.meaning ys n h row in
        values-are e.meaning new n _ (added.same ∙ values-length e.meaning sums n _ so_far)
        (λ j d b. next-added i (f j) (get_or sums j d) (get_or ys j d) (sum-at j d b) (product-at j d b) (get_or new j d) (added.each j d (subst (λ m. j < m) (sym long) b)))

  -- ---- one place more of a row

  -- the products of x with the first j elements of ys were added to the sums at their places
  pub record AddedTo (ys old : List A) (j : ℕ) (now : List A) : Type 0 where
    pub same : length now ≡ length old
    pub done : (k : ℕ) (d : A) → k < j → AddsProduct e x (get_or old k d) (get_or ys k d) (get_or now k d)
    pub left : (k : ℕ) (d : A) → j ≤ k → get_or now k d ≡ get_or old k d

  pub AddedTo-none : (ys old now : List A) → now ≡ old → AddedTo ys old 0 now
  AddedTo-none ys old now e = record { same = ap length e; done = λ k d lt. absurd (omega arith); left = λ k d le. ap (λ l. get_or l k d) e }

  module _ (ys old now : List A) (j : ℕ) (h : AddedTo ys old j now) (can : CanAddScaledRow e x old ys) (lt : j < length ys) (s y : A) (sum : s ≡ get_or now j s) (cell : y ≡ get_or ys j y) where
    summed : s ≡ get_or old j s
    summed = sum ∙ h.left j s (omega arith)

    inside : j < length old
    inside = let same = can.same in omega (arith, same, lt)

    pub AddedTo-can : CanAddProduct e x s y
    AddedTo-can =
        let p = can.each j s lt in
        subst (λ z. CanAddProduct e x z y) (sym summed) (subst (λ z. CanAddProduct e x (get_or old j s) z) (get_or_default ys j s y lt ∙ sym cell) p)

    pub AddedTo-more : (z : A) (next : List A) → AddsProduct e x s y z → next ≡ set now j z → AddedTo ys old (j + 1) next
    AddedTo-more z next added written = record {
      same = ap length written ∙ (length-set now j z ∙ h.same);
      done = λ k d below.
          elim (cases_lt k j) [
            | inl before ↦
                subst (AddsProduct e x (get_or old k d) (get_or ys k d)) (sym (ap (λ l. get_or l k d) written ∙ get_or-set_other now j k z d (omega arith))) (h.done k d before)
            | inr behind ↦
                (let here : k ≡ j = omega arith in
                let t : get_or next k d ≡ z = ap (λ l. get_or l k d) written ∙ get_or-set_at now j k z d here (let same = h.same in omega (arith, inside, same)) in
                let o : s ≡ get_or old k d = summed ∙ (get_or_default old j s d inside ∙ ap (λ m. get_or old m d) (sym here)) in
                let c : y ≡ get_or ys k d = cell ∙ (get_or_default ys j y d lt ∙ ap (λ m. get_or ys m d) (sym here)) in
                ap e.meaning t ∙ (added ∙ (ap (λ w. e.addition.op (e.meaning w) (e.multiplication.op (e.meaning x) (e.meaning y))) o
                ∙ ap (λ w. e.addition.op (e.meaning (get_or old k d)) (e.multiplication.op (e.meaning x) (e.meaning w))) c)))
          ];
      left = λ k d above. ap (λ l. get_or l k d) written ∙ (get_or-set_other now j k z d (omega arith) ∙ h.left k d (omega arith));
    }

  pub AddedTo-all : (ys old now : List A) (j : ℕ) → AddedTo ys old j now → length ys ≤ j → AddsScaledRow e x ys old now
  AddedTo-all ys old now j h end = record { same = h.same; each = λ k d lt. h.done k d (omega arith) }
