-- The sum so far grows by the next length, and what is to come shrinks by it.
use Rattle.std.proofs.Common.{◌≡◌, ◌∙◌, ◌+◌, ◌<◌, ◌≤◌, ◌^◌, ℕ, List, ap, arith, drop, get_or, length, subst, sym}
use Rattle.std.specs.Prelude.{slice_index, sum_by}
use Rattle.std.proofs.lemmas.List.{drop_all}
use Rattle.std.proofs.lemmas.List.Elements.{All-get_or}
use Rattle.std.proofs.lemmas.List.Sums.{sum_by-cons}
use Rattle.ndarray.specs.Grid.{Grid}
use Rattle.ndarray.specs.Joining.{shapes_of}
use Rattle.ndarray.proofs.sums.InnerSums.{drop-next}
use Rattle.ndarray.proofs.stacking.shapes.total_len.Goals as goal

next-length : {A : Type 0} (f : List ℕ → ℕ) (gs : List (Grid A)) (k : ℕ) (x : Grid A) (n : ℕ) → k < length gs → x ≡ get_or gs k x → n ≡ f x.lengths → sum_by f (shapes_of (drop k gs)) ≡ n + sum_by f (shapes_of (drop (k + 1) gs))
next-length f gs k x n lt is here =
    ap (λ l. sum_by f (shapes_of l)) (drop-next gs k x lt is) ∙ (sum_by-cons f x.lengths (shapes_of (drop (k + 1) gs)) ∙ ap (λ m. m + sum_by f (shapes_of (drop (k + 1) gs))) (sym here))

added : (total n next rest come all : ℕ) → next ≡ total + n → total + come ≡ all → come ≡ n + rest → next + rest ≡ all
added total n next rest come all more whole one = omega arith

excess : (total n rest come all : ℕ) → (total + n < 2 ^ 64 → ⊥) → total + come ≡ all → come ≡ n + rest → 2 ^ 64 ≤ all
excess total n rest come all much whole one = omega (arith, much)

ended : (total come all : ℕ) → total + come ≡ all → come ≡ 0 → total ≡ all
ended total come all whole none = omega arith

pub len_of-requires : goal.len_of-requires
len_of-requires g c =
    let P = λ (a : Grid g.row.A.Denot). c.args.axis.0 < length a.lengths in
    subst P (sym c.array-item.is) (All-get_or P c.args.arrays.now c.loop-array.array-index c.array-item.result c.loop-array-test.true c.requires)

pub loop-array-preserved : goal.loop-array-preserved
loop-array-preserved g c =
    let one = next-length (λ ns. slice_index ns c.args.axis.0) c.args.arrays.now c.loop-array.array-index c.array-item.result c.len_of.result c.loop-array-test.true c.array-item.is c.len_of.ensures.value in
    added c.loop-array.total c.len_of.result c.in_ok-total.total _ _ _ c.in_ok-total.ensures.1 c.loop-array.invariant one

pub returns-in_err-total : goal.returns-in_err-total
returns-in_err-total g c =
    let one = next-length (λ ns. slice_index ns c.args.axis.0) c.args.arrays.now c.loop-array.array-index c.array-item.result c.len_of.result c.loop-array-test.true c.array-item.is c.len_of.ensures.value in
    rw c.from_residual.ensures (excess c.loop-array.total c.len_of.result _ _ _ c.in_err-total.ensures c.loop-array.invariant one)

pub returns : goal.returns
returns g c =
    let none = ap (λ l. sum_by (λ ns. slice_index ns c.args.axis.0) (shapes_of l)) (drop_all c.loop-array.array-index c.args.arrays.now c.loop-array-test.false) in
    ended c.loop-array.total _ _ c.loop-array.invariant none
