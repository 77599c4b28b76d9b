-- A walk that adds to the cell which each item names, as a histogram does: what it keeps, from one item to the next.
use Rattle.std.proofs.Common.{◌≡◌, ◌∙◌, ◌+◌, ◌≤◌, ℕ, Bool, true, false, List, Some, [], ◌∷◌, ◌++◌, ap, append_assoc, append-nil, arith, if◌then◌else◌, inl, inr, length, map, refl, replicate, subst, sum_by, sym}
use Rattle.std.proofs.lemmas.Bool.{cases_Bool}
use Rattle.std.proofs.lemmas.List.Sums.{sum_by-append, sum_by-cons, sum_by-le-sum_by, sum_by_push}
use Rattle.std.proofs.lemmas.Simd.{splat_is_map}
use Rattle.ndarray.specs.NamedSums.{named_sums}
use Rattle.ndarray.specs.Grid.{Grid, cell, grid, same_index}
use Rattle.ndarray.specs.Index.{InBox, row_order, size}
use Rattle.ndarray.specs.Writes.{with_cell}
use Rattle.ndarray.proofs.boxes.Orders.{length-row_order}
use Rattle.ndarray.proofs.cells.Cells.{array_by-cell, array_by-whole, cell-inside, same_grid}
use Rattle.ndarray.proofs.cells.Writes.{with_cell-elsewhere, with_cell-here, with_cell-whole}
use Rattle.ndarray.proofs.lists.CellLookup.{same_index-refl, same_index-true}

-- an array has the sums of the items of a list up to those that are still to come
pub record HasNamedSums {X : Type 0} (ns : List ℕ) (name : X → List ℕ) (weight : X → ℕ) (all : List X) (g : Grid ℕ) (rest : List X) : Type 0 where
  pub done : List X
  pub parts : done ++ rest ≡ all
  pub sums : g ≡ named_sums ns name weight done

-- each item counts once
pub sum-of_ones : {X : Type 0} (xs : List X) → sum_by (λ _. 1) xs ≡ length xs
sum-of_ones [] = refl
sum-of_ones (x ∷ xs) = let one = sum_by-cons (λ _. 1) x xs in let rest = sum-of_ones xs in omega (arith, one, rest)

module _ {X : Type 0} (ns : List ℕ) (name : X → List ℕ) (weight : X → ℕ) where
  -- what an item counts at an index list
  abbrev part : List ℕ → X → ℕ
  part is x = if same_index (name x) is then weight x else 0

  chosen : (b : Bool) (w : ℕ) → (if b then w else 0) ≤ w
  chosen true w = omega arith
  chosen false w = omega arith

  differs : (x : X) (is : List ℕ) → is ≡ name x → same_index (name x) is ≡ false → ⊥
  differs x is e apart = let same = ap (same_index (name x)) e ∙ same_index-refl (name x) in absurd (let c : true ≡ false = sym same ∙ apart in cc)

  -- the cell that an item names has the sum of those before
  sum-there : (xs : List X) (x : X) (v : ℕ) → InBox ns (name x) → cell (named_sums ns name weight xs) (name x) ≡ Some v → v ≡ sum_by (part (name x)) xs
  sum-there xs x v inside there = let at = array_by-cell ns (λ is. sum_by (part is) xs) (name x) inside in cc

  -- one item more
  one-more : (xs : List X) (x : X) (v : ℕ) → InBox ns (name x) → cell (named_sums ns name weight xs) (name x) ≡ Some v → with_cell (named_sums ns name weight xs) (name x) (v + weight x) ≡ named_sums ns name weight (xs ++ x ∷ [])
  one-more xs x v inside there =
      let before : Grid ℕ = named_sums ns name weight xs in
      let after : Grid ℕ = named_sums ns name weight (xs ++ x ∷ []) in
      let whole = array_by-whole ns (λ is. sum_by (part is) xs) in
      same_grid (with_cell before (name x) (v + weight x)) after (with_cell-whole before (name x) (v + weight x) whole) (array_by-whole ns (λ is. sum_by (part is) (xs ++ x ∷ []))) refl
      (λ is b. elim (cases_Bool (same_index (name x) is)) [
        | inl here ↦
            let e : name x ≡ is = same_index-true (name x) is here in
            ap (cell (with_cell before (name x) (v + weight x))) (sym e)
            ∙ (with_cell-here before (name x) (v + weight x) whole inside
            ∙ (ap Some (ap (λ n. n + weight x) (sum-there xs x v inside there) ∙ sym (sum_by_push (part (name x)) xs x ∙ ap (λ t. sum_by (part (name x)) xs + (if t then weight x else 0)) (same_index-refl (name x))))
            ∙ (sym (array_by-cell ns (λ is. sum_by (part is) (xs ++ x ∷ [])) (name x) inside) ∙ ap (cell after) e)))
        | inr other ↦
            with_cell-elsewhere before (name x) is (v + weight x) (λ e. differs x is e other)
            ∙ (array_by-cell ns (λ js. sum_by (part js) xs) is b
            ∙ (ap Some (sym (sum_by_push (part is) xs x ∙ (ap (λ t. sum_by (part is) xs + (if t then weight x else 0)) other ∙ (let n = sum_by (part is) xs in let z : n + 0 ≡ n = omega arith in z))))
            ∙ sym (array_by-cell ns (λ js. sum_by (part js) (xs ++ x ∷ [])) is b)))
      ])

  -- zeros, before the first item
  pub named-none : (all : List X) (g : Grid ℕ) (rest : List X) → rest ≡ all → g.lengths ≡ ns → g.cells ≡ replicate (size g.lengths) 0 → HasNamedSums ns name weight all g rest
  named-none all g rest own lengths cells = record {
    done = [];
    parts = own;
    sums = ap (λ ys. grid g.lengths ys) (cells ∙ splat_is_map (row_order g.lengths) (size g.lengths) 0 (length-row_order g.lengths)) ∙ ap (λ ms. grid ms (map (λ _. 0) (row_order ms))) lengths;
  }

-- The next item is x, and the cell that it names is v.
module _ {X : Type 0} {ns : List ℕ} {name : X → List ℕ} {weight : X → ℕ} {all : List X} {g : Grid ℕ} {rest : List X} {x : X} {next : List X} {v : ℕ} (so_far : HasNamedSums ns name weight all g rest) (comes : rest ≡ x ∷ next) (there : cell g (name x) ≡ Some v) where
  inside : InBox ns (name x)
  inside = subst (λ w. InBox w.lengths (name x)) so_far.sums (cell-inside g (name x) v there)

  before : cell (named_sums ns name weight so_far.done) (name x) ≡ Some v
  before = ap (λ w. cell w (name x)) (sym so_far.sums) ∙ there

  -- its weight is added
  pub named-more : HasNamedSums ns name weight all (with_cell g (name x) (v + weight x)) next
  named-more = record {
    done = so_far.done ++ x ∷ [];
    parts = append_assoc so_far.done (x ∷ []) next ∙ (ap (λ xs. so_far.done ++ xs) (sym comes) ∙ so_far.parts);
    sums = ap (λ w. with_cell w (name x) (v + weight x)) so_far.sums ∙ one-more ns name weight so_far.done x v inside before;
  }

  -- there is room for it where there is room for the sum of all weights
  pub named-room : v + weight x ≤ sum_by weight all
  named-room =
      let here = sum-there ns name weight so_far.done x v inside before in
      let most = sum_by-le-sum_by (part ns name weight (name x)) weight so_far.done (λ y. chosen ns name weight (same_index (name y) (name x)) (weight y)) in
      let whole = ap (sum_by weight) (ap (λ xs. so_far.done ++ xs) (sym comes) ∙ so_far.parts) in
      let parts = sum_by-append weight so_far.done (x ∷ next) in
      let first = sum_by-cons weight x next in
      omega (arith, here, most, whole, parts, first)

-- the sums of all items, where none is to come
pub named-all : {X : Type 0} {ns : List ℕ} {name : X → List ℕ} {weight : X → ℕ} {all : List X} {g : Grid ℕ} {rest : List X} → HasNamedSums ns name weight all g rest → rest ≡ [] → g ≡ named_sums ns name weight all
named-all {ns = ns} {name} {weight} so_far none = so_far.sums ∙ ap (named_sums ns name weight) (sym (append-nil so_far.done) ∙ (ap (λ xs. so_far.done ++ xs) (sym none) ∙ so_far.parts))
