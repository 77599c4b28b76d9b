-- The lanes of a table that is seen as a view.
use Rattle.ndarray.proofs.Common.{◌≡◌, ◌∙◌, ◌<◌, ℕ, ℤ, ap, arith, length, remove, subst, sym, IsTotalOf, Maps, Grid, array_by, int_sums, lane, lanes_of, total, lanes-follow}

module _ (v table : Grid ℤ) (same : v ≡ table) (two : length table.lengths ≡ 2) (k : ℕ) (lt : k < 2) where
  pub is-axis : k < length v.lengths
  is-axis = subst (λ n. k < n) (sym (ap (λ w. length w.lengths) same ∙ two)) lt

  -- their totals, as `sum_axis` makes them
  pub lane-sums : (r : Grid ℤ) → Maps (IsTotalOf int_sums (λ x. x)) (lanes_of v k) r → r ≡ array_by (remove table.lengths k) (λ js. total int_sums (lane table k js).cells)
  lane-sums r maps =
      lanes-follow v k (let lt = is-axis in omega arith) (IsTotalOf int_sums (λ x. x)) (λ l. total int_sums l.cells) (λ l z e. e) r maps
      ∙ ap (λ w. array_by (remove w.lengths k) (λ js. total int_sums (lane w k js).cells)) same
