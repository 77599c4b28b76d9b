-- The sum fits, and it times what is left is as much as the number times the count.
use Rattle.std.proofs.Common.{◌≡◌, ◌*◌, ◌≤◌, ℕ, pos}
use Rattle.ndarray.proofs.reduce.small_products.times.Given as goal

abbrev pub invariant-halves : goal.invariant-halves
invariant-halves g l = record {
  sum_fits : g.A.Number.fits (g.A.Number.value l.sum);
  enough : (n : ℕ) → g.A.Number.value l.fn.number ≡ pos n → (s : ℕ) × (g.A.Number.value l.sum ≡ pos s) × (l.count * n ≤ s * l.left);
}

abbrev pub decreases-halves : goal.decreases-halves
decreases-halves g l = l.left
