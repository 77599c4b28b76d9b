use Rattle.std.proofs.Common.{rules, refl, true}
use Rattle.std.specs.Iterator.{Drains}
use Rattle.core.proofs.iter.runs.Made.{run, to_end}
use Rattle.ndarray.proofs.iter.vectors.to_vec.Goals as goal

pub returns-clause-ran : goal.returns-clause-ran
returns-clause-ran g c = search rules

pub returns-clause-runs : goal.returns-clause-runs
returns-clause-runs g c =
    let steps = g.I.Iterator.next_gives in
    let d : Drains steps c.args.iter c.loop-item.items.items = returns-clause-ran g c in
    (run steps c.args.iter c.loop-item.items.items true (to_end steps c.args.iter c.loop-item.items.items d), refl, refl, refl)
