-- Lists of blocks, and what stands at each place of them.
use Rattle.std.proofs.Common.{◌≡◌, ℕ, ◌+◌, ◌*◌, ◌<◌, ◌≤◌, suc, zero, List, [], ◌∷◌, ◌++◌, length, take, drop, get_or, Some, refl, sym, ◌∙◌, ap, arith, append_assoc}
use Rattle.std.specs.Prelude.{flat_map, slice_get, sum_by, All}
use Rattle.std.proofs.Math.Seq.{drop-cons, take-append_seam, take-length}
use Rattle.std.proofs.lemmas.List.{length-append, length-drop, length-take-le, take-append-le, take-take}
use Rattle.std.proofs.lemmas.List.Elements.{All-head, All-tail}
use Rattle.std.proofs.lemmas.List.Sums.{sum_by-cons}
use Rattle.ndarray.specs.Grid.{Grid, IsGrid, cell}
use Rattle.ndarray.specs.Index.{InBox, size}
use Rattle.ndarray.specs.base.Builder.{BuilderState, pushed_all, pushed_to}
use Rattle.ndarray.specs.base.Ranks.{rank}
use Rattle.ndarray.specs.stacking.Blocks.{HasBlockAt, block_at, blocks_at}
use Rattle.ndarray.proofs.cells.Cells.{cell-within}

module _ {X : Type 0} where
  pub slice_get-first : (xs ys : List X) (k : ℕ) → k < length xs → slice_get (xs ++ ys) k ≡ slice_get xs k
  slice_get-first [] ys k lt = absurd (omega arith)
  slice_get-first (x ∷ xs) ys zero lt = refl
  slice_get-first (x ∷ xs) ys (suc k) lt = slice_get-first xs ys k (omega arith)

  pub slice_get-rest : (xs ys : List X) (k : ℕ) → slice_get (xs ++ ys) (length xs + k) ≡ slice_get ys k
  slice_get-rest [] ys k = let e : 0 + k ≡ k = omega arith in ap (slice_get ys) e
  slice_get-rest (x ∷ xs) ys k = let e : suc (length xs) + k ≡ suc (length xs + k) = omega arith in ap (slice_get (x ∷ (xs ++ ys))) e ∙ slice_get-rest xs ys k

  pub length-part : (xs : List X) (from n : ℕ) → from + n ≤ length xs → length (take n (drop from xs)) ≡ n
  length-part xs from n le = let l = length-drop from xs in length-take-le n (drop from xs) (omega arith)

  pub part-same : (n m from to : ℕ) (xs ys : List X) → n ≡ m → from ≡ to → xs ≡ ys → take n (drop from xs) ≡ take m (drop to ys)
  part-same n m from to xs ys e f c = ap (λ k. take k (drop from xs)) e ∙ (ap (λ k. take m (drop k xs)) f ∙ ap (λ zs. take m (drop to zs)) c)

module _ {X Y : Type 0} (f : X → List Y) (m : ℕ) where
  -- blocks of one length
  pub length-same_blocks : (xs : List X) → All (λ x. length (f x) ≡ m) xs → length (flat_map f xs) ≡ length xs * m
  length-same_blocks [] each = omega arith
  length-same_blocks (x ∷ xs) each =
      let e = All-head (λ y. length (f y) ≡ m) x xs each in
      let h = length-same_blocks xs (All-tail (λ y. length (f y) ≡ m) x xs each) in
      let s = length-append (f x) (flat_map f xs) in
      omega arith

  -- place r of block k
  pub slice_get-same_blocks : (xs : List X) (k r : ℕ) (d : X) → All (λ x. length (f x) ≡ m) xs → k < length xs → r < m → slice_get (flat_map f xs) (k * m + r) ≡ slice_get (f (get_or xs k d)) r
  slice_get-same_blocks [] k r d each lt below = absurd (omega arith)
  slice_get-same_blocks (x ∷ xs) zero r d each lt below =
      let e = All-head (λ y. length (f y) ≡ m) x xs each in
      let there : 0 * m + r ≡ r = omega arith in
      ap (slice_get (f x ++ flat_map f xs)) there ∙ slice_get-first (f x) (flat_map f xs) r (omega arith)
  slice_get-same_blocks (x ∷ xs) (suc k) r d each lt below =
      let e = All-head (λ y. length (f y) ≡ m) x xs each in
      let there : suc k * m + r ≡ length (f x) + (k * m + r) = omega arith in
      ap (slice_get (f x ++ flat_map f xs)) there
      ∙ (slice_get-rest (f x) (flat_map f xs) (k * m + r) ∙ slice_get-same_blocks xs k r d (All-tail (λ y. length (f y) ≡ m) x xs each) (omega arith) below)

-- blocks of several lengths, each a multiple of one number
pub length-blocks : {X Y : Type 0} (f : X → List Y) (v : X → ℕ) (s : ℕ) (xs : List X) → All (λ x. length (f x) ≡ v x * s) xs → length (flat_map f xs) ≡ sum_by v xs * s
length-blocks f v s [] each = omega arith
length-blocks f v s (x ∷ xs) each =
    let e = All-head (λ y. length (f y) ≡ v y * s) x xs each in
    let h = length-blocks f v s xs (All-tail (λ y. length (f y) ≡ v y * s) x xs each) in
    let c = ap (λ n. n * s) (sum_by-cons v x xs) in
    let l = length-append (f x) (flat_map f xs) in
    omega arith

module _ {A : Type 0} where
  -- ---- the blocks of a list of arrays

  pub block-is : (a : ℕ) (is js ns : List ℕ) (g view : Grid A) (count : ℕ) (cells : List A) → cells ≡ take count (drop (rank view.lengths js) view.cells) → count ≡ size (drop a ns) → ns ≡ g.lengths → view ≡ g → js ≡ is → cells ≡ block_at a is g
  block-is a is js ns g view count cells e many lengths seen index =
      e
      ∙ part-same count (size (drop a g.lengths)) (rank view.lengths js) (rank g.lengths is) view.cells g.cells (many ∙ ap (λ ms. size (drop a ms)) lengths)
      (ap (λ h. rank h.lengths js) seen ∙ ap (rank g.lengths) index) (ap (λ h. h.cells) seen)

  part-all : (xs : List A) (n r : ℕ) → length xs ≡ n → (0 < n → r + n ≤ n) → take n (drop r xs) ≡ xs
  part-all [] n r e within = let none : n ≡ 0 = omega (arith, e) in ap (λ k. take k (drop r [])) none
  part-all (x ∷ xs) n r e within =
      let first : r ≡ 0 = let le = within (omega (arith, e)) in omega (arith, le) in
      ap (λ k. take k (drop r (x ∷ xs))) (sym e) ∙ (ap (λ k. take (length (x ∷ xs)) (drop k (x ∷ xs))) first ∙ take-length (x ∷ xs))

  -- that of the first axis on is the whole array
  pub block-whole : (is : List ℕ) (g : Grid A) → IsGrid g → HasBlockAt 0 is g → block_at 0 is g ≡ g.cells
  block-whole is g whole has = part-all g.cells (size g.lengths) (rank g.lengths is) whole has.fits

  one-at : (xs : List A) (n : ℕ) (x : A) → slice_get xs n ≡ Some x → take 1 (drop n xs) ≡ x ∷ []
  one-at [] zero x e = cc
  one-at [] (suc n) x e = cc
  one-at (y ∷ ys) zero x e = let same : y ≡ x = cc in ap (λ z. z ∷ []) same
  one-at (y ∷ ys) (suc n) x e = one-at ys n x e

  -- a block of one cell
  pub block-one : (a : ℕ) (is : List ℕ) (g : Grid A) (x : A) → IsGrid g → size (drop a g.lengths) ≡ 1 → InBox g.lengths is → cell g is ≡ Some x → block_at a is g ≡ x ∷ []
  block-one a is g x whole one inside here =
      ap (λ n. take n (drop (rank g.lengths is) g.cells)) one ∙ one-at g.cells (rank g.lengths is) x (sym (cell-within g whole is inside) ∙ here)

  pub blocks-to_come : (a : ℕ) (is : List ℕ) (gs : List (Grid A)) (i : ℕ) (g : Grid A) (cells : List A) → i < length gs → g ≡ get_or gs i g → cells ≡ block_at a is g → blocks_at a is (drop i gs) ≡ cells ++ blocks_at a is (drop (i + 1) gs)
  blocks-to_come a is gs i g cells lt here e =
      let next : suc i ≡ i + 1 = omega arith in
      ap (blocks_at a is) (drop-cons gs i g lt ∙ (ap (λ x. x ∷ drop (suc i) gs) (sym here) ∙ ap (λ n. g ∷ drop n gs) next))
      ∙ ap (λ xs. xs ++ blocks_at a is (drop (i + 1) gs)) (sym e)

  -- ---- an array that is filled with cells

  pub pushed-one : (p : BuilderState A) (x : A) (xs : List A) → pushed_all (pushed_to p x) xs ≡ pushed_all p (x ∷ xs)
  pushed-one p x xs = ap (λ ys. record { lengths = p.lengths; order = p.order; cells = ys }) (append_assoc p.cells (x ∷ []) xs)

  pub pushed-more : (p : BuilderState A) (xs ys : List A) → pushed_all (pushed_all p xs) ys ≡ pushed_all p (xs ++ ys)
  pushed-more p xs ys = ap (λ zs. record { lengths = p.lengths; order = p.order; cells = zs }) (append_assoc p.cells xs ys)

  -- of two that end alike, as many cells are to come
  pub pushed-length : (p q : BuilderState A) (xs ys : List A) → pushed_all p xs ≡ pushed_all q ys → length p.cells + length xs ≡ length q.cells + length ys
  pushed-length p q xs ys e = sym (length-append p.cells xs) ∙ (ap (λ s. length s.cells) e ∙ length-append q.cells ys)

  -- the cells that were there come first
  pub pushed-front : (p q : BuilderState A) (xs ys : List A) → pushed_all p xs ≡ pushed_all q ys → length q.cells ≤ length p.cells → take (length q.cells) p.cells ≡ q.cells
  pushed-front p q xs ys e le = sym (take-append-le (length q.cells) p.cells xs le) ∙ (ap (λ s. take (length q.cells) s.cells) e ∙ take-append_seam q.cells ys)

  -- also behind more
  pub front-stays : (xs ys zs : List A) → take (length ys) zs ≡ ys → take (length xs) ys ≡ xs → length xs ≤ length ys → take (length xs) zs ≡ xs
  front-stays xs ys zs e f le = sym (take-take (length xs) (length ys) zs le) ∙ (ap (take (length xs)) e ∙ f)
