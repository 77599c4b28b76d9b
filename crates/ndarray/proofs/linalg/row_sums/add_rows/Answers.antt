use Rattle.std.proofs.Common.{◌≡◌, ◌∙◌, ◌+◌, List, [], ◌∷◌, ap, arith, get_or, length, map, refl, subst}
use Rattle.ndarray.specs.linalg.RowSums.{CanAddRows, row_sums_to}
use Rattle.ndarray.proofs.cells.RowProducts.{NextRows, as_many-left, rows-next, sums-added, sums-can_add}
use Rattle.ndarray.proofs.sums.SeveralRows.{AddsRows-none, first-can_add, others-added}
use Rattle.ndarray.proofs.linalg.row_sums.add_rows.Goals.{After-next_row-a-in-others, After-next_row-d}
use Rattle.ndarray.proofs.linalg.row_sums.add_rows.Goals as goal

pub next_row-b-requires-clause-number : goal.next_row-b-requires-clause-number
next_row-b-requires-clause-number g c κs within =
    let many = as_many-left g.A.Valued c.args.x.now c.args.right.now c.raw_dim.ensures.axes c.requires.can c.fours.i c.fours.numbers c.fours.invariant.left in
    let rows = ap (λ k. get_or k 0 0) (c.into_pattern-rows.ensures ∙ c.raw_dim.ensures.lengths) in
    let four = c.fours-test.true in
    let a = ap length c.next_row-a.ensures.number in
    omega (arith, many, rows, four, a)

pub next_row-c-requires-clause-number : goal.next_row-c-requires-clause-number
next_row-c-requires-clause-number g c κs within =
    let many = as_many-left g.A.Valued c.args.x.now c.args.right.now c.raw_dim.ensures.axes c.requires.can c.fours.i c.fours.numbers c.fours.invariant.left in
    let rows = ap (λ k. get_or k 0 0) (c.into_pattern-rows.ensures ∙ c.raw_dim.ensures.lengths) in
    let four = c.fours-test.true in
    let a = ap length c.next_row-a.ensures.number in
    let b = ap length c.next_row-b.ensures.number in
    omega (arith, many, rows, four, a, b)

pub next_row-d-requires-clause-number : goal.next_row-d-requires-clause-number
next_row-d-requires-clause-number g c κs within =
    let many = as_many-left g.A.Valued c.args.x.now c.args.right.now c.raw_dim.ensures.axes c.requires.can c.fours.i c.fours.numbers c.fours.invariant.left in
    let rows = ap (λ k. get_or k 0 0) (c.into_pattern-rows.ensures ∙ c.raw_dim.ensures.lengths) in
    let four = c.fours-test.true in
    let a = ap length c.next_row-a.ensures.number in
    let b = ap length c.next_row-b.ensures.number in
    let c = ap length c.next_row-c.ensures.number in
    omega (arith, many, rows, four, a, b, c)

-- the four rows, and their numbers
abbrev four_rows : (g : _) → After-next_row-d g → List (g.row.A.Denot × List g.row.A.Denot)
four_rows g c =
    (c.next_row-a.result.number, c.next_row-a.result.cells) ∷ (c.next_row-b.result.number, c.next_row-b.result.cells) ∷ (c.next_row-c.result.number, c.next_row-c.result.cells) ∷ (c.next_row-d.result.number, c.next_row-d.result.cells) ∷ []

four : (g : _) (c : After-next_row-d g) → NextRows g.A.Valued c.args.x.now c.args.right.now c.raw_dim.ensures.axes c.requires.can c.fours.i (four_rows g c) c.fours.numbers c.next_row-d.new.numbers
four g c =
    let i = c.fours.i in
    let a = c.next_row-a in
    let b = c.next_row-b in
    let d = c.next_row-c in
    let e = c.next_row-d in (
      i,
      a.new.numbers,
      refl,
      a.ensures.number,
      a.ensures.cells,
      a.ensures.whole,
      (
        i + 1,
        b.new.numbers,
        refl,
        b.ensures.number,
        b.ensures.cells,
        b.ensures.whole,
        (
          i + 2,
          d.new.numbers,
          omega arith,
          d.ensures.number,
          d.ensures.cells,
          d.ensures.whole,
          (i + 3, e.new.numbers, omega arith, e.ensures.number, e.ensures.cells, e.ensures.whole, refl),
        ),
      ),
    )

pub add_four-requires-after_bounds : goal.add_four-requires-after_bounds
add_four-requires-after_bounds g c κs within =
    let here = (goal.at.add_four-requires-after_bounds g c).After-next_row-d in
    sums-can_add g.A.Valued c.args.x.now c.args.right.now c.raw_dim.ensures.axes c.requires.can c.fours.i (four_rows g here) c.fours.numbers c.next_row-d.new.numbers c.fours.invariant.left (four g here) c.fours.sums c.fours.invariant.sums

pub fours-preserved : goal.fours-preserved
fours-preserved g c =
    let v = g.A.Valued in
    let x = c.args.x.now in
    let b = c.args.right.now in
    let axes = c.raw_dim.ensures.axes in
    let can = c.requires.can in
    let i = c.fours in
    let here = (goal.at.fours-preserved g c).After-next_row-d in
    record {
      in_range = (let four = c.fours-test.true in omega (arith, four));
      left = (rows-next v x b axes can i.i (four_rows g here) i.numbers c.next_row-d.new.numbers i.invariant.left (four g here)).1;
      sums = sums-added v x b axes can i.i (four_rows g here) i.numbers c.next_row-d.new.numbers i.invariant.left (four g here) i.sums i.invariant.sums c.add_four.new.sums c.add_four.ensures;
    }

-- one of the others, and its number
abbrev one_row : (g : _) → After-next_row-a-in-others g → List (g.row.A.Denot × List g.row.A.Denot)
one_row g c = (c.next_row-a-in-others.result.number, c.next_row-a-in-others.result.cells) ∷ []

one : (g : _) (c : After-next_row-a-in-others g) → NextRows g.A.Valued c.args.x.now c.args.right.now c.raw_dim.ensures.axes c.requires.can c.others.i (one_row g c) c.others.numbers c.next_row-a-in-others.new.numbers
one g c = let r = c.next_row-a-in-others in (c.others.i, r.new.numbers, refl, r.ensures.number, r.ensures.cells, r.ensures.whole, refl)

one-can_add : (g : _) (c : After-next_row-a-in-others g) → CanAddRows g.A.Valued (one_row g c) c.others.sums
one-can_add g c = sums-can_add g.A.Valued c.args.x.now c.args.right.now c.raw_dim.ensures.axes c.requires.can c.others.i (one_row g c) c.others.numbers c.next_row-a-in-others.new.numbers c.others.invariant.left (one g c) c.others.sums c.others.invariant.sums

pub add_scaled-requires-after_bounds : goal.add_scaled-requires-after_bounds
add_scaled-requires-after_bounds g c κs within =
    let r = c.next_row-a-in-others.result in
    first-can_add g.A.Valued r.number r.cells [] c.others.sums (one-can_add g (goal.at.add_scaled-requires-after_bounds g c).After-next_row-a-in-others)

pub others-preserved : goal.others-preserved
others-preserved g c =
    let v = g.A.Valued in
    let x = c.args.x.now in
    let b = c.args.right.now in
    let axes = c.raw_dim.ensures.axes in
    let can = c.requires.can in
    let i = c.others in
    let r = c.next_row-a-in-others in
    let here = (goal.at.others-preserved g c).After-next_row-a-in-others in
    record {
      in_range = (let lt = c.others-test.true in omega (arith, lt));
      left = (rows-next v x b axes can i.i (one_row g here) i.numbers r.new.numbers i.invariant.left (one g here)).1;
      sums =
          sums-added v x b axes can i.i (one_row g here) i.numbers r.new.numbers i.invariant.left (one g here) i.sums i.invariant.sums c.add_scaled.new.sums
          (others-added v r.result.number r.result.cells [] i.sums (one-can_add g here) c.add_scaled.new.sums c.add_scaled.ensures c.add_scaled.new.sums (AddsRows-none v c.add_scaled.new.sums));
    }

pub returns : goal.returns
returns g c =
    let rows = ap (λ k. get_or k 0 0) (c.into_pattern-rows.ensures ∙ c.raw_dim.ensures.lengths) in
    let off = c.others-test.false in
    let le = c.others.invariant.in_range in
    let inner = c.requires.can.inner in
    let all : c.others.i ≡ get_or c.args.x.now.lengths 0 0 = omega (arith, rows, off, le, inner) in
    subst (λ k. map g.A.Valued.meaning c.others.sums ≡ row_sums_to g.A.Valued k c.args.x.now c.args.right.now) all c.others.invariant.sums
