use Rattle.std.proofs.Common.{◌≡◌, ◌∙◌, ◌+◌, ◌-◌, ◌<◌, ◌≤◌, ◌⊎◌, ℕ, inl, inr, refl, rules, arith, ap, get_or, set, subst, sym}
use Rattle.std.proofs.lemmas.Bool.{false≢true}
use Rattle.std.proofs.lemmas.Result.{IfOk-weaker}
use Rattle.ndarray.specs.AlongAxis.{IsDifferenceOf}
use Rattle.ndarray.specs.Grid.{IsGrid}
use Rattle.ndarray.specs.Index.{size}
use Rattle.ndarray.proofs.boxes.Sizes.{size-set_none}
use Rattle.ndarray.proofs.cells.Differences.{difference-length, difference-without_cells, order-at_most, part-lengths, next-difference}
use Rattle.ndarray.proofs.reduce.diff.differences.Goals as goal

-- an order that is not 0 is below the length
order-below : (n len : ℕ) → (n ≡ 0 → ⊥) → (n ≡ 0) ⊎ (n < len) → n < len
order-below n len some h = elim h [ inl e ↦ absurd (some e) | inr lt ↦ lt ]

some-below : (n len : ℕ) → n < len → 0 < len
some-below n len lt = omega arith

positive : (n : ℕ) → (n ≡ 0 → ⊥) → 0 < n
positive n some = omega arith

fewer-within : (k n len : ℕ) → k < n → n < len → k ≤ len
fewer-within k n len lt below = omega arith

still-some : (h k n len : ℕ) → h + k ≡ len → k < n → n < len → 0 < h
still-some h k n len left lt below = omega arith

-- what is left of the axis, in the view of the array
rest-within : (l n m k : ℕ) → l ≡ m → m ≡ k → 0 + (l - n) ≤ k
rest-within l n m k e f = omega arith

rest-at_most : (l n m : ℕ) → l ≡ m → l - n ≤ m
rest-at_most l n m e = omega arith

pub returns-then-len-eq0 : goal.returns-then-len-eq0
returns-then-len-eq0 g c =
    let same = c.view.ensures.same in
    let axis = c.args.axis.0 in
    let rest : c.len_of.result - c.args.n ≡ get_or c.args.array.now.lengths axis 0 - c.args.n = ap (λ n. n - c.args.n) c.len_of.ensures.value in
    let whole = IsDifferenceOf g.A.Sub.sub_gives axis c.args.n c.args.array.now in
    let fewer = rest-at_most c.len_of.result c.args.n _ c.len_of.ensures.value in
    let lengths = part-lengths c.args.array.now c.view.result _ axis 0 (c.len_of.result - c.args.n) same c.part-then-len-eq0.ensures.value in
    record {
      differences = IfOk-weaker c.copy_of-then-len-eq0-2.result _ whole
          (λ r copy. subst whole (sym copy)
          (difference-without_cells g.A.Sub.sub_gives axis c.args.array.now c.args.n _ (subst IsGrid same c.view.ensures.whole) (sym c.len.ensures.size ∙ c.if-len-eq0.true) c.requires.axis (order-at_most _ _ c.requires.order)
          c.part-then-len-eq0.ensures.whole
          (lengths ∙ ap (set c.args.array.now.lengths axis) rest)))
          c.copy_of-then-len-eq0-2.ensures.same;
      axes = c.copy_of-then-len-eq0-2.ensures.axes;
      empty = λ none. c.copy_of-then-len-eq0-2.ensures.empty (ap size lengths ∙ size-set_none c.args.array.now.lengths axis (c.len_of.result - c.args.n) fewer none);
    }

pub difference-requires-clause-defined : goal.difference-requires-clause-defined
difference-requires-clause-defined g c = λ is y x p q. c.requires.defined 0 c.args.array.now is y x (positive c.args.n c.if-n-eq0.false) refl p q

pub difference-requires-clause-some : goal.difference-requires-clause-some
difference-requires-clause-some g c = some-below c.args.n _ (order-below c.args.n _ c.if-n-eq0.false c.requires.order)

pub part-requires-clause-within : goal.part-requires-clause-within
part-requires-clause-within g c = rest-within c.len_of.result c.args.n _ _ c.len_of.ensures.value (ap (λ v. get_or v.lengths c.args.axis.0 0) (sym c.view.ensures.same))

pub loop-init : goal.loop-init
loop-init g c = record { so_far = (c.args.array.now, refl, c.in_ok-cells.ensures.made); axes = c.in_ok-cells.ensures.axes }

pub loop-preserved : goal.loop-preserved
loop-preserved g c = record {
  so_far = next-difference g.A.Sub.sub_gives c.args.axis.0 c.args.array.now c.loop.counter c.loop.cells c.in_ok-cells-2.cells c.loop.invariant.so_far c.in_ok-cells-2.ensures.made;
  axes = c.in_ok-cells-2.ensures.axes;
}

pub difference-requires-in-loop-clause-axis : goal.difference-requires-in-loop-clause-axis
difference-requires-in-loop-clause-axis g c =
    let below = order-below c.args.n _ c.if-n-eq0.false c.requires.order in
    let l = difference-length g.A.Sub.sub_gives c.args.axis.0 c.args.array.now c.loop.counter c.loop.cells c.requires.axis (fewer-within c.loop.counter c.args.n _ c.loop-test.true below) c.loop.invariant.so_far in
    subst (λ n. c.args.axis.0 < n) (sym l.0) c.requires.axis

pub difference-requires-in-loop-clause-some : goal.difference-requires-in-loop-clause-some
difference-requires-in-loop-clause-some g c =
    let below = order-below c.args.n _ c.if-n-eq0.false c.requires.order in
    let l = difference-length g.A.Sub.sub_gives c.args.axis.0 c.args.array.now c.loop.counter c.loop.cells c.requires.axis (fewer-within c.loop.counter c.args.n _ c.loop-test.true below) c.loop.invariant.so_far in
    still-some _ c.loop.counter c.args.n _ l.1 c.loop-test.true below

pub difference-requires-in-loop-clause-defined : goal.difference-requires-in-loop-clause-defined
difference-requires-in-loop-clause-defined g c = λ is y x p q. c.requires.defined c.loop.counter c.loop.cells is y x c.loop-test.true c.loop.invariant.so_far p q

pub returns-in_err-cells-2 : goal.returns-in_err-cells-2
returns-in_err-cells-2 g c =
    let below = order-below c.args.n _ c.if-n-eq0.false c.requires.order in
    let l = difference-length g.A.Sub.sub_gives c.args.axis.0 c.args.array.now c.loop.counter c.loop.cells c.requires.axis (fewer-within c.loop.counter c.args.n _ c.loop-test.true below) c.loop.invariant.so_far in
    record {
      differences = search rules;
      axes = search rules;
      empty = λ none. absurd (false≢true (c.in_err-cells-2.ensures.empty (l.2 none)));
    }
