use Rattle.std.proofs.Common.{◌≡◌, ◌-◌, ◌*◌, ◌<◌, ◌≤◌, ◌^◌, ◌↔◌, ℕ, List, arith, length, nat_le, rules}
use Rattle.std.specs.Prelude.{IsTrue}
use Rattle.std.proofs.lemmas.Bool.{le-leb, leb-true}
use Rattle.ndarray.specs.Convolution.{CanPad}
use Rattle.ndarray.specs.Index.{size}
use Rattle.ndarray.specs.Limits.{IsWithinLimit}
use Rattle.ndarray.proofs.boxes.Sizes.{size-le}
use Rattle.ndarray.proofs.conv.conv_full_ok.Goals as goal

within : (ns : List ℕ) (n : ℕ) → n ≡ size ns → IsWithinLimit ns → n < 2 ^ 63
within ns n e limit = let l = size-le ns in omega arith

pub overflow_mul-result : goal.overflow_mul-result
overflow_mul-result g c = let m = within c.args.y.now.lengths c.len-m.result c.len-m.ensures.size c.raw_dim-2.ensures.limit in omega (arith, m)

pub overflow_sub-result-else-m-eq0 : goal.overflow_sub-result-else-m-eq0
overflow_sub-result-else-m-eq0 g c = let n = within c.args.x.now.lengths c.len-n.result c.len-n.ensures.size c.raw_dim.ensures.limit in omega (arith, n)

to_le : (a b : ℕ) → IsTrue (nat_le a b) → a ≤ b
to_le a b t = leb-true a b (search rules)

from_le : (a b : ℕ) → a ≤ b → IsTrue (nat_le a b)
from_le a b h = rw (le-leb a b h) (search rules)

decides : (a b n m : ℕ) → a ≡ n → b ≡ m → a < 2 ^ 63 → 1 ≤ n → 1 ≤ m → IsTrue (nat_le (2 * (b - 1)) (2 ^ 63 - 1 - a)) ↔ CanPad n m
decides a b n m e f lt one_n one_m = (λ t p q. let h = to_le (2 * (b - 1)) (2 ^ 63 - 1 - a) t in omega arith, λ can. from_le (2 * (b - 1)) (2 ^ 63 - 1 - a) (let h = can one_n one_m in omega arith))

pub returns-else-m-eq0 : goal.returns-else-m-eq0
returns-else-m-eq0 g c =
    let n = within c.args.x.now.lengths c.len-n.result c.len-n.ensures.size c.raw_dim.ensures.limit in
    decides c.len-n.result c.len-m.result (length c.args.x.now.cells) (length c.args.y.now.cells) c.len-n.ensures.cells c.len-m.ensures.cells n
    (omega (arith, c.len-n.ensures.cells, c.if-m-eq0.false.0)) (omega (arith, c.len-m.ensures.cells, c.if-m-eq0.false.1))
