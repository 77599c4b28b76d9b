use Rattle.std.proofs.Common.{◌≡◌, ◌-◌, ◌<◌, ◌∙◌, ℕ, ℤ, ap, sym, get_or, arith}
use Rattle.std.specs.Prelude.{FitsSigned, ◌-ℤ◌}
use Rattle.std.specs.Int.{w64}
use Rattle.ndarray.specs.Views.{axis_part}
use Rattle.ndtables.proofs.Neighbours.{each-neighbour, same-lengths}
use Rattle.ndtables.proofs.reducing.neighbours_subtract.Goals as goal
use Rattle.ndtables.proofs.reducing.neighbours_subtract.Goals.{After-split_at-earlier}

module _ (c : After-split_at-earlier) where
  abbrev k : ℕ
  k = c.args.axis.0

  abbrev n : ℕ
  n = c.len_of-len.result

  long : n ≡ get_or c.args.table.now.lengths k 0
  long = c.len_of-len.ensures.value

  more : 0 < n
  more = let h = c.requires.some in omega (arith, h, long)

  -- the cells but the first along the axis, and those but the last
  later : c.split_at-first.result.1 ≡ axis_part c.args.table.now k 1 n
  later = c.split_at-first.ensures.second ∙ (ap (λ v. axis_part v k 1 (get_or v.lengths k 0)) c.view.ensures.same ∙ ap (axis_part c.args.table.now k 1) (sym long))

  earlier : c.split_at-earlier.result.0 ≡ axis_part c.args.table.now k 0 (n - 1)
  earlier = c.split_at-earlier.ensures.first ∙ ap (λ v. axis_part v k 0 (n - 1)) c.view-2.ensures.same

pub differences_fit-requires : goal.differences_fit-requires
differences_fit-requires c =
    let p = (goal.at.differences_fit-requires c).After-split_at-earlier in
    record { same = same-lengths c.args.table.now c.split_at-first.result.1 c.split_at-earlier.result.0 (k p) (n p) (later p) (earlier p) (more p) }

pub returns : goal.returns
returns c =
    let p = (goal.at.returns c).After-split_at-earlier in
    let each =
    each-neighbour c.args.table.now c.split_at-first.result.1 c.split_at-earlier.result.0 (k p) (n p) (later p) (earlier p) (more p) c.split_at-first.ensures.second_whole c.split_at-earlier.ensures.first_whole c.requires.axis (long p)
    (λ (y x : ℤ). FitsSigned w64 (y -ℤ x)) in
    (λ on. each.0 (c.differences_fit.ensures.0 on), λ fit. c.differences_fit.ensures.1 (each.1 fit))
