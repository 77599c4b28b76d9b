use Rattle.std.proofs.Common.{ap, sym, arith, get_or, set, length}
use Rattle.std.proofs.lemmas.List.{length-set}
use Rattle.ndarray.proofs.lists.CellLookup.{same_index-false}
use Rattle.ndarray.proofs.stacking.shapes.is_same_but_along.Goals as goal

pub returns-then-axis-ndim : goal.returns-then-axis-ndim
returns-then-axis-ndim g c =
    let ns = g.D.Lengths.numbers c.args.first.now in
    let ms = g.D.Lengths.numbers c.args.other in
    let l = length-set ms c.args.axis (get_or ns c.args.axis 0) in
    let t = c.if-axis-ndim.true in
    let v = c.ndim.ensures.value in
    let r = c.requires in
    sym (same_index-false ns (set ms c.args.axis (get_or ns c.args.axis 0)) (λ e. let le = ap length e in omega arith))
