-- What does not depend on the order of a walk, as said of the cells in row order.
use Rattle.std.proofs.Common.{◌≡◌, ℕ, zero, suc, ◌<◌, Bool, true, false, ◌&&◌, ◌||◌, List, [], ◌∷◌, length, map, set, get_or, Option, Some, None, refl, sym, ap, ◌∙◌, arith}
use Rattle.std.specs.Prelude.{IsPermutation}
use Rattle.std.specs.List.{FoldsTo, swap, fold, list_all, list_any}
use Rattle.std.proofs.lemmas.List.Sorted.{IsPermutation-keeps, list_any-IsPermutation}
use Rattle.ndarray.specs.Index.{row_order}
use Rattle.ndarray.specs.Grid.{Grid, IsGrid, cell}
use Rattle.ndarray.specs.Orders.{box_in, cells_in}
use Rattle.ndarray.specs.declared.base.shape.Order.{Order}
use Rattle.ndarray.specs.declared.base.shape.Order.TheVariants.{RowMajor}
use Rattle.ndarray.proofs.boxes.Orders.{row_order-is, box_in-is}
use Rattle.ndarray.proofs.callers.Folding.{fold-follows}
use Rattle.ndarray.proofs.cells.Cells.{cells_in-HasInOrder}
use Rattle.ndarray.proofs.lists.Permutations.{IsBoxIn-rearranges}
use Rattle.ndarray.proofs.strides.ContiguousCells.{row-cells}

-- the index lists of a box in any order are those in row order, rearranged
pub box_in-rearranges : (o : Order) (ns : List ℕ) → IsPermutation (row_order ns) (box_in o ns)
box_in-rearranges o ns = IsBoxIn-rearranges o ns (row_order ns) (box_in o ns) (row_order-is ns) (box_in-is o ns)

-- a function that takes two elements in either order with one answer
module _ {B X : Type 0} (h : B → X → B) (commutes : (b : B) (x y : X) → h (h b x) y ≡ h (h b y) x) where
  fold-moved : (b : B) (x d : X) (xs : List X) (k : ℕ) → k < length xs → fold h (h b (get_or xs k d)) (set xs k x) ≡ fold h (h b x) xs
  fold-moved b x d [] k p = absurd (omega arith)
  fold-moved b x d (y ∷ ys) zero p = ap (λ c. fold h c ys) (commutes b y x)
  fold-moved b x d (y ∷ ys) (suc k) p =
      ap (λ c. fold h c (set ys k x)) (commutes b (get_or ys k d) y)
      ∙ (fold-moved (h b y) x d ys k (omega arith)
      ∙ ap (λ c. fold h c ys) (commutes b y x))

  fold-exchanged : (b : B) (d : X) (l : List X) (i j : ℕ) → i < length l → j < length l → fold h b (set (set l i (get_or l j d)) j (get_or l i d)) ≡ fold h b l
  fold-exchanged b d [] i j p q = absurd (omega arith)
  fold-exchanged b d (x ∷ xs) zero zero p q = refl
  fold-exchanged b d (x ∷ xs) zero (suc j) p q = fold-moved b x d xs j (omega arith)
  fold-exchanged b d (x ∷ xs) (suc i) zero p q = fold-moved b x d xs i (omega arith)
  fold-exchanged b d (x ∷ xs) (suc i) (suc j) p q = fold-exchanged (h b x) d xs i j (omega arith) (omega arith)

  pub fold-rearranged : (b : B) (xs ys : List X) → IsPermutation xs ys → fold h b ys ≡ fold h b xs
  fold-rearranged b xs ys r = IsPermutation-keeps xs (λ l. fold h b l ≡ fold h b xs) refl (λ l i j p q e. step l i j p q ∙ e) ys r
    where
      step : (l : List X) (i j : ℕ) → i < length l → j < length l → fold h b (swap l i j) ≡ fold h b l
      step [] i j p q = refl
      step (d ∷ l) i j p q = fold-exchanged b d (d ∷ l) i j p q

-- the fold over a box in any order is that in row order
pub fold-in_row_order : {B : Type 0} (h : B → List ℕ → B) → ((b : B) (i j : List ℕ) → h (h b i) j ≡ h (h b j) i)
    → (o : Order) (ns : List ℕ) (b : B) → fold h b (box_in o ns) ≡ fold h b (row_order ns)
fold-in_row_order h commutes o ns b = fold-rearranged h commutes b (row_order ns) (box_in o ns) (box_in-rearranges o ns)

all-as_fold : {X : Type 0} (t : X → Bool) (xs : List X) (b : Bool) → b && list_all t xs ≡ fold (λ c x. c && t x) b xs
all-as_fold t [] true = refl
all-as_fold t [] false = refl
all-as_fold t (x ∷ xs) true = all-as_fold t xs (t x)
all-as_fold t (x ∷ xs) false = all-as_fold t xs false

both-commute : (b c d : Bool) → (b && c) && d ≡ (b && d) && c
both-commute true true true = refl
both-commute true true false = refl
both-commute true false true = refl
both-commute true false false = refl
both-commute false c d = refl

-- a test of all index lists, or of any, answers as it does in row order
pub list_all-in_row_order : (t : List ℕ → Bool) (o : Order) (ns : List ℕ) → list_all t (box_in o ns) ≡ list_all t (row_order ns)
list_all-in_row_order t o ns =
    all-as_fold t (box_in o ns) true
    ∙ (fold-in_row_order (λ c x. c && t x) (λ b i j. both-commute b (t i) (t j)) o ns true
    ∙ sym (all-as_fold t (row_order ns) true))

pub list_any-in_row_order : (t : List ℕ → Bool) (o : Order) (ns : List ℕ) → list_any t (box_in o ns) ≡ list_any t (row_order ns)
list_any-in_row_order t o ns = sym (list_any-IsPermutation t (row_order ns) (box_in o ns) (box_in-rearranges o ns))

-- Index lists beside what is at them: what is computed of one is computed of the other.
module _ {A : Type 0} (at : List ℕ → Option A) where
  fold-along : {B : Type 0} (h : B → List ℕ → B) (k : B → A → B) (same : (b : B) (i : List ℕ) (x : A) → at i ≡ Some x → h b i ≡ k b x)
      → (is : List (List ℕ)) (xs : List A) (b : B) → map at is ≡ map Some xs → fold h b is ≡ fold k b xs
  fold-along h k same [] [] b e = refl
  fold-along h k same [] (x ∷ xs) b e = absurd (cc)
  fold-along h k same (i ∷ is) [] b e = absurd (cc)
  fold-along h k same (i ∷ is) (x ∷ xs) b e =
      let first : at i ≡ Some x = cc in
      ap (λ c. fold h c is) (same b i x first) ∙ fold-along h k same is xs (k b x) (cc)

  all-along : (t : List ℕ → Bool) (p : A → Bool) (same : (i : List ℕ) (x : A) → at i ≡ Some x → t i ≡ p x)
      → (is : List (List ℕ)) (xs : List A) → map at is ≡ map Some xs → list_all t is ≡ list_all p xs
  all-along t p same [] [] e = refl
  all-along t p same [] (x ∷ xs) e = absurd (cc)
  all-along t p same (i ∷ is) [] e = absurd (cc)
  all-along t p same (i ∷ is) (x ∷ xs) e =
      let first : at i ≡ Some x = cc in
      let rest : list_all t is ≡ list_all p xs = all-along t p same is xs (cc) in
      ap (λ c. c && list_all t is) (same i x first) ∙ ap (λ l. p x && l) rest

  any-along : (t : List ℕ → Bool) (p : A → Bool) (same : (i : List ℕ) (x : A) → at i ≡ Some x → t i ≡ p x)
      → (is : List (List ℕ)) (xs : List A) → map at is ≡ map Some xs → list_any t is ≡ list_any p xs
  any-along t p same [] [] e = refl
  any-along t p same [] (x ∷ xs) e = absurd (cc)
  any-along t p same (i ∷ is) [] e = absurd (cc)
  any-along t p same (i ∷ is) (x ∷ xs) e =
      let first : at i ≡ Some x = cc in
      let rest : list_any t is ≡ list_any p xs = any-along t p same is xs (cc) in
      ap (λ c. c || list_any t is) (same i x first) ∙ ap (λ l. p x || l) rest

-- a step at what may be there
abbrev stepped : {A B : Type 0} → (B → A → B) → B → Option A → B
stepped k b None = b
stepped k b (Some x) = k b x

stepped-commutes : {A B : Type 0} (k : B → A → B) → ((b : B) (x y : A) → k (k b x) y ≡ k (k b y) x) → (b : B) (o p : Option A) → stepped k (stepped k b o) p ≡ stepped k (stepped k b p) o
stepped-commutes k commutes b None None = refl
stepped-commutes k commutes b None (Some y) = refl
stepped-commutes k commutes b (Some x) None = refl
stepped-commutes k commutes b (Some x) (Some y) = commutes b x y

-- An array's cells are what is at its index lists in row order.
module _ {A : Type 0} (g : Grid A) (whole : IsGrid g) where
  pub in_row : map (cell g) (row_order g.lengths) ≡ map Some g.cells
  in_row = cells_in-HasInOrder RowMajor g whole (row_order g.lengths) (box_in-is RowMajor g.lengths) ∙ ap (map Some) (row-cells g whole)

  pub fold-cells : {B : Type 0} (h : B → List ℕ → B) (k : B → A → B) → ((b : B) (i : List ℕ) (x : A) → cell g i ≡ Some x → h b i ≡ k b x)
      → (b : B) → fold h b (row_order g.lengths) ≡ fold k b g.cells
  fold-cells h k same b = fold-along (cell g) h k same (row_order g.lengths) g.cells b in_row

  -- the fold over the box in any order is that over the cells, where two cells may be taken in either order
  pub fold-over-cells : {B : Type 0} (h : B → List ℕ → B) (k : B → A → B) → ((b : B) (x y : A) → k (k b x) y ≡ k (k b y) x) → ((b : B) (i : List ℕ) (x : A) → cell g i ≡ Some x → h b i ≡ k b x)
      → (o : Order) (b : B) → fold h b (box_in o g.lengths) ≡ fold k b g.cells
  fold-over-cells {B} h k commutes same o b =
      let step = λ (c : B) (i : List ℕ). stepped k c (cell g i) in
      let at = λ (c : B) (i : List ℕ) (x : A) (there : cell g i ≡ Some x). ap (stepped k c) there in
      let along = cells_in-HasInOrder o g whole (box_in o g.lengths) (box_in-is o g.lengths) in
      fold-along (cell g) h k same (box_in o g.lengths) (cells_in o g) b along
      ∙ (sym (fold-along (cell g) step k at (box_in o g.lengths) (cells_in o g) b along)
      ∙ (fold-in_row_order step (λ c i j. stepped-commutes k commutes c (cell g i) (cell g j)) o g.lengths b
      ∙ fold-cells step k at b))

  -- so turns over the box in any order, each of which takes the total by the cell that is there, give the fold over the cells
  pub turns-over-cells : {F B : Type 0} (turn : F × B → List ℕ → F × B → Type 0) (f : F) (k : B → A → B) → ((b : B) (x y : A) → k (k b x) y ≡ k (k b y) x)
      → ((b : B) (i : List ℕ) (q : F × B) → turn (f, b) i q → (x : A) × (cell g i ≡ Some x) × (q.0 ≡ f) × (q.1 ≡ k b x))
      → (o : Order) (init : B) (ns : List ℕ) (q : F × B) → ns ≡ g.lengths → FoldsTo turn (f, init) (box_in o ns) q → q.1 ≡ fold k init g.cells
  turns-over-cells {F} {B} turn f k commutes each o init ns q own turns =
      let step = λ (b : B) (i : List ℕ). stepped k b (cell g i) in
      fold-follows turn f step
      (λ b i r t.
      let (x, there, same, gives) = each b i r t in
      (same, gives ∙ sym (ap (stepped k b) there)))
      init (box_in o ns) q turns
      ∙ (ap (λ ms. fold step init (box_in o ms)) own
      ∙ fold-over-cells step k commutes (λ b i x there. ap (stepped k b) there) o init)

  pub list_all-cells : (t : List ℕ → Bool) (p : A → Bool) → ((i : List ℕ) (x : A) → cell g i ≡ Some x → t i ≡ p x) → list_all t (row_order g.lengths) ≡ list_all p g.cells
  list_all-cells t p same = all-along (cell g) t p same (row_order g.lengths) g.cells in_row

  pub list_any-cells : (t : List ℕ → Bool) (p : A → Bool) → ((i : List ℕ) (x : A) → cell g i ≡ Some x → t i ≡ p x) → list_any t (row_order g.lengths) ≡ list_any p g.cells
  list_any-cells t p same = any-along (cell g) t p same (row_order g.lengths) g.cells in_row
