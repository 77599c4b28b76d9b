use Rattle.ndarray.proofs.Common.{◌≤◌, fold, max, remove, subst, array_by-at, cell-in_lane, cell-inside, greatest-bounds, lane}
use Rattle.ndarray_examples.proofs.everyday.peaks.Goals as goal

pub returns-clause-bounds : goal.returns-clause-bounds
returns-clause-bounds g c is x peak at there =
    let a = c.args.a.now in
    let k = c.args.axis.0 in
    let js = remove is k in
    let among = cell-in_lane a c.raw_dim-lengths.ensures.whole k c.requires is x at in
    let greatest = array_by-at (remove a.lengths k) (λ js. fold max 0 (lane a k js).cells) c.in_ok-peaks.peaks js peak c.in_ok-peaks.ensures.maxima (cell-inside c.in_ok-peaks.peaks js peak there) there in
    subst (λ y. y ≤ peak) among.2 ((greatest-bounds (lane a k js).cells 0 peak greatest).1 among.0 x among.1)
