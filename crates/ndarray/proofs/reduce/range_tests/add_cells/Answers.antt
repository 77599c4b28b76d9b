use Rattle.std.proofs.Common.{◌≡◌, ◌+◌, ◌++◌, ℕ, List, [], arith, drop, map, subst}
use Rattle.std.specs.Prelude.{ℤ}
use Rattle.std.proofs.lemmas.List.{drop_all}
use Rattle.ndarray.specs.reduce.SignedSums.{AddedApart}
use Rattle.ndarray.proofs.reduce.range_tests.add_cells.Goals as goal

-- n cells from i on and the next one are n + 1
next-cell : {T : Type 0} (fits : ℤ → Type 0) (v : T → ℤ) (cells : List T) (whole rest : List ℤ) (i n : ℕ) (up down : ℤ)
    → AddedApart fits whole (map v (drop (i + n + 1) cells) ++ rest) up down → AddedApart fits whole (map v (drop (i + (n + 1)) cells) ++ rest) up down
next-cell fits v cells whole rest i n up down h =
    let e : i + n + 1 ≡ i + (n + 1) = omega arith in
    subst (λ k. AddedApart fits whole (map v (drop k cells) ++ rest) up down) e h

pub returns-in_err-sums : goal.returns-in_err-sums
returns-in_err-sums g c = λ whole rest h. rw c.from_residual.ensures (c.in_err-sums.ensures whole rest (c.fours.invariant.added whole rest h))

pub returns-in_err-sums-2 : goal.returns-in_err-sums-2
returns-in_err-sums-2 g c = λ whole rest h. rw c.from_residual-in_err-sums-2.ensures (c.in_err-sums-2.ensures whole rest (c.in_ok-sums.ensures whole rest (c.fours.invariant.added whole rest h)))

pub returns-in_err-sums-3 : goal.returns-in_err-sums-3
returns-in_err-sums-3 g c = λ whole rest h.
    let on = next-cell g.A.Number.fits g.A.Number.value c.args.cells.now whole rest c.fours.i in
    let one = c.in_ok-sums.ensures whole rest (c.fours.invariant.added whole rest h) in
    let two = on 1 _ _ (c.in_ok-sums-2.ensures whole rest one) in
    rw c.from_residual-in_err-sums-3.ensures (c.in_err-sums-3.ensures whole rest two)

pub returns-in_err-sums-4 : goal.returns-in_err-sums-4
returns-in_err-sums-4 g c = λ whole rest h.
    let on = next-cell g.A.Number.fits g.A.Number.value c.args.cells.now whole rest c.fours.i in
    let one = c.in_ok-sums.ensures whole rest (c.fours.invariant.added whole rest h) in
    let two = on 1 _ _ (c.in_ok-sums-2.ensures whole rest one) in
    let three = on 2 _ _ (c.in_ok-sums-3.ensures whole rest two) in
    rw c.from_residual-in_err-sums-4.ensures (c.in_err-sums-4.ensures whole rest three)

pub fours-preserved : goal.fours-preserved
fours-preserved g c = record {
  in_range = (let four = c.fours-test.true in omega (arith, four));
  added = λ whole rest h.
      let on = next-cell g.A.Number.fits g.A.Number.value c.args.cells.now whole rest c.fours.i in
      let one = c.in_ok-sums.ensures whole rest (c.fours.invariant.added whole rest h) in
      let two = on 1 _ _ (c.in_ok-sums-2.ensures whole rest one) in
      let three = on 2 _ _ (c.in_ok-sums-3.ensures whole rest two) in
      on 3 _ _ (c.in_ok-sums-4.ensures whole rest three);
}

pub returns-in_err-sums-5 : goal.returns-in_err-sums-5
returns-in_err-sums-5 g c = λ whole rest h. rw c.from_residual-in_err-sums-5.ensures (c.in_err-sums-5.ensures whole rest (c.others.invariant.added whole rest h))

pub others-preserved : goal.others-preserved
others-preserved g c = record {
  in_range = (let one = c.others-test.true in omega (arith, one));
  added = λ whole rest h. c.in_ok-sums-5.ensures whole rest (c.others.invariant.added whole rest h);
}

pub returns : goal.returns
returns g c =
    let v = g.A.Number.value in
    let cells = c.args.cells.now in
    let none : drop c.others.i cells ≡ [] = drop_all c.others.i cells (omega (arith, c.others-test.false)) in
    λ whole rest h. subst (λ l. AddedApart g.A.Number.fits whole (map v l ++ rest) (v c.others.sums.up) (v c.others.sums.down)) none (c.others.invariant.added whole rest h)
