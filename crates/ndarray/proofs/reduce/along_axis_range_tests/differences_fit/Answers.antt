use Rattle.std.proofs.Common.{◌≡◌, ◌∙◌, ◌+◌, ◌-◌, ◌<◌, ◌≤◌, ◌⊎◌, ℕ, inl, inr, refl, arith, get_or, length, subst, sym}
use Rattle.ndarray.specs.AlongAxis.{IsDifferenceOf}
use Rattle.ndarray.specs.AlongAxisRanges.{HasDifferencesInRange}
use Rattle.ndarray.specs.Grid.{Grid}
use Rattle.ndarray.proofs.cells.DifferenceRanges.{no-differences, of-numbers, range-needed, range-next, range-without_cells}
use Rattle.ndarray.proofs.cells.Differences.{difference-length, next-difference}
use Rattle.ndarray.proofs.lists.Decisions.{says_no, says_yes}
use Rattle.ndarray.proofs.reduce.along_axis_range_tests.differences_fit.Goals as goal

-- an order that is not 0 is below the length
order-below : (n len : ℕ) → (n ≡ 0 → ⊥) → (n ≡ 0) ⊎ (n < len) → n < len
order-below n len some h = elim h [ inl e ↦ absurd (some e) | inr lt ↦ lt ]

-- what is left of the axis
left-some : (h m n len : ℕ) → h + m ≡ len → m ≤ n - 1 → n < len → 0 < h
left-some h m n len left most below = omega arith

order-within : (m n len : ℕ) → m ≤ n - 1 → n < len → m ≤ len
order-within m n len most below = omega arith

still-there : {A : Type 0} (gives : A → A → A → Type 0) (k : ℕ) (a h : Grid A) (m n : ℕ) → k < length a.lengths → n < get_or a.lengths k 0 → m ≤ n - 1 → IsDifferenceOf gives k m a h
    → (k < length h.lengths) × (0 < get_or h.lengths k 0)
still-there gives k a h m n axis below most d =
    let l = difference-length gives k a m h axis (order-within m n _ most below) d in
    (subst (λ j. k < j) (sym l.0) axis, left-some _ m n _ l.1 most below)

-- how far the loop is
below-last : (m n : ℕ) → m < n - 1 → m ≤ n - 1
below-last m n lt = omega arith

at-last : (n m : ℕ) → (n ≡ 0 → ⊥) → (n ≡ 1 → ⊥) → (1 ≤ n - 1 → m ≤ n - 1) → m ≤ n - 1
at-last n m none one end = end (omega arith)

last-order : (n m : ℕ) → (n ≡ 0 → ⊥) → (n ≡ 1 → ⊥) → (1 ≤ n - 1 → m ≤ n - 1) → n - 1 ≤ m → m + 1 ≡ n
last-order n m none one end least = let most = at-last n m none one end in omega arith

pub returns-then-n-eq0-clause-exact : goal.returns-then-n-eq0-clause-exact
returns-then-n-eq0-clause-exact g c =
    let v = g.A.Number.value in
    let fits = g.A.Number.fits in
    says_yes _ (subst (λ m. HasDifferencesInRange v fits c.args.axis.0 m c.args.array.now) (sym c.if-n-eq0.true) (no-differences v fits c.args.axis.0 c.args.array.now))

pub returns-then-len-eq0-clause-exact : goal.returns-then-len-eq0-clause-exact
returns-then-len-eq0-clause-exact g c =
    says_yes _ (range-without_cells g.A.Number.value g.A.Number.fits c.args.axis.0 c.args.array.now c.args.n (sym c.len.ensures.size ∙ c.if-len-eq0.true) c.requires.axis c.requires.order)

pub returns-then-not-neighbours_fit-clause-exact : goal.returns-then-not-neighbours_fit-clause-exact
returns-then-not-neighbours_fit-clause-exact g c =
    let off = c.if-not-neighbours_fit.true in
    let some : 0 < c.args.n = let no = c.if-n-eq0.false in omega arith in
    says_no _ (λ range. let on = c.neighbours_fit.ensures.1 (range-needed g.A.Number.value g.A.Number.fits c.args.axis.0 c.args.array.now c.args.n 0 c.args.array.now range some refl) in absurd (cc))

pub returns-then-n-eq1-clause-exact : goal.returns-then-n-eq1-clause-exact
returns-then-n-eq1-clause-exact g c =
    let v = g.A.Number.value in
    let fits = g.A.Number.fits in
    let a = c.args.array.now in
    let k = c.args.axis.0 in
    says_yes _ (subst (λ m. HasDifferencesInRange v fits k m a) (sym c.if-n-eq1.true)
    (range-next v fits k a c.raw_dim-lengths.ensures.whole 0 a (no-differences v fits k a) refl (c.neighbours_fit.ensures.0 c.if-not-neighbours_fit.false)))

-- the difference so far, in numbers
pub loop-init : goal.loop-init
loop-init g c =
    let v = g.A.Number.value in
    let fits = g.A.Number.fits in
    let a = c.args.array.now in
    let k = c.args.axis.0 in
    record {
      so_far = (a, refl, c.in_ok-cells.ensures.made);
      range = range-next v fits k a c.raw_dim-lengths.ensures.whole 0 a (no-differences v fits k a) refl (c.neighbours_fit.ensures.0 c.if-not-neighbours_fit.false);
    }

pub loop-preserved : goal.loop-preserved
loop-preserved g c =
    let numbers = of-numbers g.A.Number.value g.A.Number.fits c.args.axis.0 c.args.array.now g.A.Sub.sub_gives (λ y x r given fit. g.met.A.Num.sub_law y x r given g.met.A.Integral.exact_law fit) c.loop.counter c.loop.cells c.loop.invariant.range c.loop.invariant.so_far in
    record {
      so_far = next-difference g.A.Sub.sub_gives c.args.axis.0 c.args.array.now c.loop.counter c.loop.cells c.in_ok-cells-2.cells c.loop.invariant.so_far c.in_ok-cells-2.ensures.made;
      range = range-next g.A.Number.value g.A.Number.fits c.args.axis.0 c.args.array.now c.raw_dim-lengths.ensures.whole c.loop.counter c.loop.cells c.loop.invariant.range numbers (c.neighbours_fit-in-loop.ensures.0 c.if-not-neighbours_fit-2.false);
    }

pub neighbours_fit-requires-in-loop-clause-axis : goal.neighbours_fit-requires-in-loop-clause-axis
neighbours_fit-requires-in-loop-clause-axis g c = (still-there g.A.Sub.sub_gives c.args.axis.0 c.args.array.now c.loop.cells c.loop.counter c.args.n c.requires.axis (order-below c.args.n _ c.if-n-eq0.false c.requires.order) (below-last _ _ c.loop-test.true) c.loop.invariant.so_far).0

pub neighbours_fit-requires-in-loop-clause-some : goal.neighbours_fit-requires-in-loop-clause-some
neighbours_fit-requires-in-loop-clause-some g c = (still-there g.A.Sub.sub_gives c.args.axis.0 c.args.array.now c.loop.cells c.loop.counter c.args.n c.requires.axis (order-below c.args.n _ c.if-n-eq0.false c.requires.order) (below-last _ _ c.loop-test.true) c.loop.invariant.so_far).1

pub difference-requires-in-loop-clause-axis : goal.difference-requires-in-loop-clause-axis
difference-requires-in-loop-clause-axis g c = (still-there g.A.Sub.sub_gives c.args.axis.0 c.args.array.now c.loop.cells c.loop.counter c.args.n c.requires.axis (order-below c.args.n _ c.if-n-eq0.false c.requires.order) (below-last _ _ c.loop-test.true) c.loop.invariant.so_far).0

pub difference-requires-in-loop-clause-some : goal.difference-requires-in-loop-clause-some
difference-requires-in-loop-clause-some g c = (still-there g.A.Sub.sub_gives c.args.axis.0 c.args.array.now c.loop.cells c.loop.counter c.args.n c.requires.axis (order-below c.args.n _ c.if-n-eq0.false c.requires.order) (below-last _ _ c.loop-test.true) c.loop.invariant.so_far).1

pub difference-requires-in-loop-clause-defined : goal.difference-requires-in-loop-clause-defined
difference-requires-in-loop-clause-defined g c = λ is y x p q. g.met.A.Num.can_sub_law y x (λ _. c.neighbours_fit-in-loop.ensures.0 c.if-not-neighbours_fit-2.false is y x p q)

pub returns-then-not-neighbours_fit-2-clause-exact : goal.returns-then-not-neighbours_fit-2-clause-exact
returns-then-not-neighbours_fit-2-clause-exact g c =
    let off = c.if-not-neighbours_fit-2.true in
    let numbers = of-numbers g.A.Number.value g.A.Number.fits c.args.axis.0 c.args.array.now g.A.Sub.sub_gives (λ y x r given fit. g.met.A.Num.sub_law y x r given g.met.A.Integral.exact_law fit) c.loop.counter c.loop.cells c.loop.invariant.range c.loop.invariant.so_far in
    let before : c.loop.counter < c.args.n = let lt = c.loop-test.true in omega arith in
    says_no _ (λ range. let on = c.neighbours_fit-in-loop.ensures.1 (range-needed g.A.Number.value g.A.Number.fits c.args.axis.0 c.args.array.now c.args.n c.loop.counter c.loop.cells range before numbers) in absurd (cc))

pub neighbours_fit-requires-2-clause-axis : goal.neighbours_fit-requires-2-clause-axis
neighbours_fit-requires-2-clause-axis g c = (still-there g.A.Sub.sub_gives c.args.axis.0 c.args.array.now c.loop.cells c.loop.counter c.args.n c.requires.axis (order-below c.args.n _ c.if-n-eq0.false c.requires.order) (at-last c.args.n _ c.if-n-eq0.false c.if-n-eq1.false c.loop.auto.counter-end) c.loop.invariant.so_far).0

pub neighbours_fit-requires-2-clause-some : goal.neighbours_fit-requires-2-clause-some
neighbours_fit-requires-2-clause-some g c = (still-there g.A.Sub.sub_gives c.args.axis.0 c.args.array.now c.loop.cells c.loop.counter c.args.n c.requires.axis (order-below c.args.n _ c.if-n-eq0.false c.requires.order) (at-last c.args.n _ c.if-n-eq0.false c.if-n-eq1.false c.loop.auto.counter-end) c.loop.invariant.so_far).1

pub returns-clause-exact : goal.returns-clause-exact
returns-clause-exact g c =
    let numbers = of-numbers g.A.Number.value g.A.Number.fits c.args.axis.0 c.args.array.now g.A.Sub.sub_gives (λ y x r given fit. g.met.A.Num.sub_law y x r given g.met.A.Integral.exact_law fit) c.loop.counter c.loop.cells c.loop.invariant.range c.loop.invariant.so_far in
    let last : c.loop.counter + 1 ≡ c.args.n = last-order c.args.n c.loop.counter c.if-n-eq0.false c.if-n-eq1.false c.loop.auto.counter-end c.loop-test.false in (
      λ on. subst (λ m. HasDifferencesInRange g.A.Number.value g.A.Number.fits c.args.axis.0 m c.args.array.now) last (range-next g.A.Number.value g.A.Number.fits c.args.axis.0 c.args.array.now c.raw_dim-lengths.ensures.whole c.loop.counter c.loop.cells c.loop.invariant.range numbers (c.neighbours_fit-2.ensures.0 on)),
      λ all. c.neighbours_fit-2.ensures.1 (range-needed g.A.Number.value g.A.Number.fits c.args.axis.0 c.args.array.now c.args.n c.loop.counter c.loop.cells all (omega (arith, last)) numbers),
    )
