-- What products of three matrices in both orders require.
use Rattle.std.specs.Prelude.{List, ℕ}
use Rattle.ndarray.specs.Limits.{IsWithinLimit}
use Rattle.ndarray.specs.Matrices.{Matrix}
use Rattle.ndarray.specs.Products.{HasSumsInRange, ShapesMultiply, product_lengths, product_of}
use Rattle.ndarray.specs.declared.elements.Valued.{Ghosts as ValuedGhosts}

-- A and B multiply, B and C multiply, and the product of all three is within the limit
pub record ShapesMultiplyInTurn (ns ms ks : List ℕ) : Type 0 where
  pub left : ShapesMultiply ns ms
  pub right : ShapesMultiply ms ks
  pub limit : IsWithinLimit (product_lengths ns ks)

-- the inner sums of AB, of (AB)C, of BC and of A(BC) are in range
pub record HasBothChainsInRange {A : Type 0} (e : ValuedGhosts A) (a b c : Matrix e.Carrier) : Type 0 where
  pub left : HasSumsInRange e a b
  pub left_first : HasSumsInRange e (product_of e a b) c
  pub right : HasSumsInRange e b c
  pub right_first : HasSumsInRange e a (product_of e b c)
