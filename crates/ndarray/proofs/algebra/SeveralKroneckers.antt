-- Products of Kronecker products of several matrices.
use Rattle.std.proofs.Common.{◌≡◌, ◌∙◌, ◌*◌, List, [], ◌∷◌, map, ap}
use Rattle.std.specs.Prelude.{All}
use Rattle.std.proofs.lemmas.List.Elements.{All-head, All-tail}
use Rattle.ndarray.specs.KroneckerLaws.{KroneckersOfAllMultiply, kronecker_of_all}
use Rattle.ndarray.specs.Matrices.{IsSameMatrix, Matrix, kronecker_product, matrix_product}
use Rattle.ndarray.specs.declared.elements.Valued.{Ghosts as ValuedGhosts}
use Rattle.ndarray.proofs.callers.SameMatrices.{kronecker-same, same-self, same-then}

module _ {A : Type 0} (e : ValuedGhosts A) where
  abbrev product : Matrix e.Carrier → Matrix e.Carrier → Matrix e.Carrier
  product = matrix_product e.addition e.multiplication

  -- the inner lengths of the Kronecker products are equal
  inner : (a c : Matrix e.Carrier) (ps : List (Matrix e.Carrier × Matrix e.Carrier)) → a.columns ≡ c.rows → All (λ p. p.0.columns ≡ p.1.rows) ps
      → (kronecker_of_all e.multiplication a (map (λ p. p.0) ps)).columns ≡ (kronecker_of_all e.multiplication c (map (λ p. p.1) ps)).rows
  inner a c [] same all = same
  inner a c (q ∷ ps) same all =
      let rest = inner q.0 q.1 ps (All-head (λ p. p.0.columns ≡ p.1.rows) q ps all) (All-tail (λ p. p.0.columns ≡ p.1.rows) q ps all) in
      ap (λ n. n * (kronecker_of_all e.multiplication q.0 (map (λ p. p.0) ps)).columns) same ∙ ap (λ n. c.rows * n) rest

  -- of two Kronecker products of two, where the second inner lengths are equal
  abbrev TwoMultiply : Type 0
  TwoMultiply = (a b c d : Matrix e.Carrier) → b.columns ≡ d.rows
      → IsSameMatrix (product (kronecker_product e.multiplication a b) (kronecker_product e.multiplication c d)) (kronecker_product e.multiplication (product a c) (product b d))

  pub kroneckers-of_all : TwoMultiply → KroneckersOfAllMultiply e.addition e.multiplication
  kroneckers-of_all mixed a c [] all = same-self (product a c)
  kroneckers-of_all mixed a c (q ∷ ps) all =
      let here = All-head (λ p. p.0.columns ≡ p.1.rows) q ps all in
      let later = All-tail (λ p. p.0.columns ≡ p.1.rows) q ps all in
      let left : Matrix e.Carrier = kronecker_of_all e.multiplication q.0 (map (λ p. p.0) ps) in
      let right : Matrix e.Carrier = kronecker_of_all e.multiplication q.1 (map (λ p. p.1) ps) in
      let both : Matrix e.Carrier = kronecker_of_all e.multiplication (product q.0 q.1) (map (λ p. product p.0 p.1) ps) in
      same-then _ _ _ (mixed a left c right (inner q.0 q.1 ps here later))
      (kronecker-same e (product a c) (product left right) (product a c) both (same-self (product a c)) (kroneckers-of_all mixed q.0 q.1 ps later))
