-- Where the cells of an array lie, and which cells these are.
use Rattle.std.proofs.Common.{◌≡◌, ℕ, ◌+◌, ◌*◌, ◌%◌, ◌<◌, ◌^◌, suc, zero, List, [], ◌∷◌, length, take, set, get_or, Option, Some, None, sym, ◌∙◌, ap, arith, subst}
use Rattle.std.specs.Prelude.{slice_get, All, IsTrue}
use Rattle.std.specs.Option.{is_some}
use Rattle.std.proofs.lemmas.List.{take_all}
use Rattle.std.proofs.Math.Nat.{mod-add-mod, add-mod-mod}
use Rattle.ndarray.specs.Index.{InBox, size, row_order}
use Rattle.ndarray.specs.Grid.{Grid, grid, cell}
use Rattle.ndarray.specs.base.Places.{dot, place, Reaches, cells_at, grid_at}
use Rattle.ndarray.specs.base.Ranks.{rank}
use Rattle.ndarray.proofs.lists.Elements.{length-filter_map_all, slice_get-filter_map_all, some-of, filter_map-same}
use Rattle.ndarray.proofs.boxes.Orders.{length-row_order, row_order-is, row_order-at, rank-lt}
use Rattle.ndarray.proofs.cells.Cells.{cell-within, cell-outside}

dot-take_more : (bs is : List ℕ) (k : ℕ) → k < length bs → k < length is → dot (take (suc k) bs) (take (suc k) is) ≡ dot (take k bs) (take k is) + get_or is k 0 * get_or bs k 0
unfolding dot
dot-take_more [] is k h g = absurd (omega arith)
dot-take_more (b ∷ bs) [] k h g = absurd (omega arith)
dot-take_more (b ∷ bs) (i ∷ is) zero h g = omega arith
dot-take_more (b ∷ bs) (i ∷ is) (suc k) h g = let ih = dot-take_more bs is k (omega arith) (omega arith) in omega arith

-- an axis with another index and another stride
pub dot-set : (bs is : List ℕ) (k b i : ℕ) → length bs ≡ length is → k < length is → dot (set bs k b) (set is k i) + get_or is k 0 * get_or bs k 0 ≡ dot bs is + i * b
unfolding dot
dot-set [] is k b i l h = absurd (omega arith)
dot-set (c ∷ bs) [] k b i l h = absurd (omega arith)
dot-set (c ∷ bs) (j ∷ is) zero b i l h = omega arith
dot-set (c ∷ bs) (j ∷ is) (suc k) b i l h = let ih = dot-set bs is k b i (omega arith) (omega arith) in omega arith

mod_step : (m a b : ℕ) → (a % m + b % m) % m ≡ (a + b) % m
mod_step m a b = mod-add-mod a m (b % m) ∙ add-mod-mod a b m

pub mod_twice : (m a b c : ℕ) → ((a + b % m) % m + c) % m ≡ (a + b + c) % m
mod_twice m a b c =
    mod-add-mod (a + b % m) m c
    ∙ (ap (λ x. x % m) (let e : a + b % m + c ≡ a + c + b % m = omega arith in e)
    ∙ (add-mod-mod (a + c) b m ∙ ap (λ x. x % m) (let e : a + c + b ≡ a + b + c = omega arith in e)))

pub place-start : (start : ℕ) (bs is : List ℕ) → start < 2 ^ 64 → place start (take 0 bs) (take 0 is) ≡ start
unfolding place dot
place-start start bs is h = omega arith

pub place-take_more : (start : ℕ) (bs is : List ℕ) (k : ℕ) → k < length bs → k < length is → (place start (take k bs) (take k is) + (get_or is k 0 * get_or bs k 0) % 2 ^ 64) % 2 ^ 64 ≡ place start (take (k + 1) bs) (take (k + 1) is)
unfolding place
place-take_more start bs is k h g =
    let e : k + 1 ≡ suc k = omega arith in
    let d = dot-take_more bs is k h g in
    mod_step (2 ^ 64) (start + dot (take k bs) (take k is)) (get_or is k 0 * get_or bs k 0)
    ∙ (ap (λ x. x % 2 ^ 64) (let q : start + dot (take k bs) (take k is) + get_or is k 0 * get_or bs k 0 ≡ start + dot (take (suc k) bs) (take (suc k) is) = omega arith in q)
    ∙ ap (λ x. (start + dot (take x bs) (take x is)) % 2 ^ 64) (sym e))

pub place-take_all : (start : ℕ) (bs is : List ℕ) (k : ℕ) → length bs ≡ k → length is ≡ k → place start (take k bs) (take k is) ≡ place start bs is
place-take_all start bs is k h g = ap (λ x. place start x (take k is)) (take_all k bs (omega arith)) ∙ ap (λ x. place start bs x) (take_all k is (omega arith))

pub place-step : (start : ℕ) (bs is : List ℕ) (k at x y : ℕ) → k < length bs → k < length is → at ≡ place start (take k bs) (take k is) → x ≡ get_or is k 0 → y ≡ get_or bs k 0 → (at + (x * y) % 2 ^ 64) % 2 ^ 64 ≡ place start (take (k + 1) bs) (take (k + 1) is)
place-step start bs is k at x y hb hi ea ex ey =
    rw (ea, ex, ey) (place-take_more start bs is k hb hi)

pub grid_at-same : {A : Type 0} (at at' : ℕ → Option A) (ns : List ℕ) (start : ℕ) (bs : List ℕ) → ((p : ℕ) → at p ≡ at' p) → grid_at at ns start bs ≡ grid_at at' ns start bs
unfolding cells_at
grid_at-same at at' ns start bs e = ap (grid ns) (filter_map-same (λ is. at (place start bs is)) (λ is. at' (place start bs is)) (λ _. Unit {0}) (row_order ns) (λ is _. e (place start bs is)) (λ k d lt. tt))

pub Reaches-same : {A one two : Type 0} (at at' : ℕ → Option A) (ns : List ℕ) (start : ℕ) (bs : List ℕ) → (two → one) → ((p : ℕ) → at p ≡ at' p) → Reaches one at ns start bs → Reaches two at' ns start bs
Reaches-same at at' ns start bs to e h = record {
  as_many = h.as_many;
  limit = h.limit;
  inside = λ is b. subst (λ o. IsTrue (is_some o)) (e (place start bs is)) (h.inside is b);
  nested = λ t. h.nested (to t);
}

module _ {A one : Type 0} (at : ℕ → Option A) (ns : List ℕ) (start : ℕ) (bs : List ℕ) (h : Reaches one at ns start bs) where
  pub all-some : All (λ is. (x : A) × (at (place start bs is) ≡ Some x)) (row_order ns)
  all-some k d lt = some-of (at (place start bs (get_or (row_order ns) k d))) (h.inside _ ((row_order-is ns).within k d lt))

  pub length-cells_at : length (cells_at at ns start bs) ≡ size ns
  unfolding cells_at
  length-cells_at = length-filter_map_all (λ is. at (place start bs is)) (row_order ns) all-some ∙ length-row_order ns

  pub slice_get-cells_at : (k : ℕ) → k < size ns → slice_get (cells_at at ns start bs) k ≡ at (place start bs (get_or (row_order ns) k []))
  unfolding cells_at
  slice_get-cells_at k lt =
      let l = length-row_order ns in
      slice_get-filter_map_all (λ js. at (place start bs js)) (row_order ns) k [] all-some (omega arith)

  -- the cell at an index list of the box lies at its place
  pub cell-at : (is : List ℕ) → InBox ns is → cell (grid_at at ns start bs) is ≡ at (place start bs is)
  cell-at is b = cell-within (grid_at at ns start bs) length-cells_at is b ∙ (slice_get-cells_at (rank ns is) (rank-lt ns is b) ∙ ap (λ js. at (place start bs js)) (row_order-at ns is [] b))

-- what a view has at a place that was found
pub cell_found : {A one : Type 0} (at : ℕ → Option A) (ns : List ℕ) (start : ℕ) (bs : List ℕ) (g : Grid A) (is : List ℕ) (p : ℕ) (x : A) → Reaches one at ns start bs → grid_at at ns start bs ≡ g → InBox ns is → p ≡ place start bs is → at p ≡ Some x → cell g is ≡ Some x
cell_found at ns start bs g is p x h v b e s =
    ap (λ y. cell y is) (sym v) ∙ (cell-at at ns start bs h is b ∙ (ap at (sym e) ∙ s))

pub cell_not_found : {A : Type 0} (at : ℕ → Option A) (ns : List ℕ) (start : ℕ) (bs : List ℕ) (g : Grid A) (is : List ℕ) → grid_at at ns start bs ≡ g → (InBox ns is → ⊥) → cell g is ≡ None
cell_not_found at ns start bs g is v h = ap (λ y. cell y is) (sym v) ∙ cell-outside (grid_at at ns start bs) is h
