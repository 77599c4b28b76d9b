use Rattle.ndarray.proofs.Common.{◌≡◌, ◌≤◌, ℕ, List, [], ◌∷◌, Some, ap, arith, length, subst, sym, Grid, IsGrid, array_by, cell, InBox, window_counts, array_by-at, at-each-cell, some-cell, window-whole, array_by-whole, cell-inside, greatest-bounds, greatest-reached}
use Rattle.ndarray_examples.specs.Callers.{greatest_in_square}
use Rattle.ndarray_examples.specs.Filters.{AreLocalMaxima, square}
use Rattle.ndarray_examples.proofs.filters.local_maxima.Goals as goal

abbrev counts : Grid ℕ → List ℕ
counts g = window_counts g.lengths (3 ∷ 3 ∷ []) (1 ∷ 1 ∷ [])

-- the greatest cells of the squares of a whole table
are-maxima : (g : Grid ℕ) → length g.lengths ≡ 2 → IsGrid g → (r : Grid ℕ) → r ≡ array_by (counts g) (greatest_in_square g) → AreLocalMaxima g r
are-maxima g two whole r made =
    let lengths : r.lengths ≡ counts g = ap (λ w. w.lengths) made in
    let whole-square : (is : List ℕ) (x : ℕ) → cell r is ≡ Some x → IsGrid (square g is) =
    λ is x at. window-whole g whole (3 ∷ 3 ∷ []) (1 ∷ 1 ∷ []) is (sym two) (sym two) (subst (λ ns. InBox ns is) lengths (cell-inside r is x at)) in
    let greatest : (is : List ℕ) (x : ℕ) → cell r is ≡ Some x → x ≡ greatest_in_square g is = λ is x at. array_by-at (counts g) (greatest_in_square g) r is x made (cell-inside r is x at) at in
    record {
      lengths = lengths;
      whole = subst IsGrid (sym made) (array_by-whole (counts g) (greatest_in_square g));
      bounds = λ is js x y at there. at-each-cell (square g is) (whole-square is x at) (λ z. z ≤ x) (greatest-bounds (square g is).cells 0 x (greatest is x at)).1 js y there;
      reached = λ is x at. some-cell (square g is) (whole-square is x at) x (let some : IsGrid (square g is) = whole-square is x at in greatest-reached (square g is).cells (omega (arith, some)) x (greatest is x at));
    }

pub returns-clause-maxima : goal.returns-clause-maxima
returns-clause-maxima g c = are-maxima c.args.table.now c.raw_dim.ensures.axes c.raw_dim.ensures.whole c.in_ok-maxima.maxima c.in_ok-maxima.ensures.greatest
