use Rattle.std.proofs.Common.{◌≡◌, ◌∙◌, ◌+◌, ◌-◌, ap, arith, get_or, sym}
use Rattle.std.specs.Prelude.{◌-ℤ◌}
use Rattle.ndarray.proofs.cells.DifferenceRanges.{each-neighbours}
use Rattle.ndarray.proofs.cells.Differences.{part-lengths}
use Rattle.ndarray.proofs.reduce.along_axis_range_tests.neighbours_fit.Goals as goal

pub pairs_fit-requires : goal.pairs_fit-requires
pairs_fit-requires g c =
    let same = c.view-view.ensures.same in
    part-lengths c.args.array.now _ _ c.args.axis.0 1 _ same c.part.ensures.value ∙ sym (part-lengths c.args.array.now _ _ c.args.axis.0 0 _ same c.part-2.ensures.value)

pub returns : goal.returns
returns g c =
    let a = c.args.array.now in
    let k = c.args.axis.0 in
    let same = c.view-view.ensures.same in
    let rest : c.len_of-rest.result ≡ get_or a.lengths k 0 = c.len_of-rest.ensures.value ∙ ap (λ v. get_or v.lengths k 0) same in
    let long : c.len_of-rest.result - 1 + 1 ≡ get_or a.lengths k 0 = let some = c.requires.some in omega (arith, rest, some) in
    let both = each-neighbours a _ _ _ k (c.len_of-rest.result - 1) c.requires.axis long same c.part.ensures.value c.part-2.ensures.value c.part.ensures.whole c.part-2.ensures.whole
    (λ y x. g.A.Number.fits (g.A.Number.value y -ℤ g.A.Number.value x)) in
    (λ on. both.0 (c.pairs_fit-3.ensures.0 on), λ all. c.pairs_fit-3.ensures.1 (both.1 all))
