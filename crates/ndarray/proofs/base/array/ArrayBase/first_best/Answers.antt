use Rattle.std.proofs.Common.{rules, ◌≡◌, ◌∙◌, [], Some, ap, cond}
use Rattle.std.specs.List.{best_of, reduce}
use Rattle.ndarray.specs.every_day.Preferences.{preferred}
use Rattle.ndarray.proofs.cells.BestCells.{best-of_loop, preferred-ranks}
use Rattle.ndarray.proofs.base.array.ArrayBase.first_best.Goals as goal

pub returns : goal.returns
returns g c =
    let test = preferred g.A.Ord.cmp c.args.extreme in
    let end : c.loop-x.x-iterator ≡ [] = search rules in
    let found : reduce (λ best y. cond (test y best) y best) c.args.self.now.cells ≡ Some c.loop-x.best.now = c.loop-x.invariant ∙ ap (λ xs. Some (best_of test c.loop-x.best.now xs)) end in
    best-of_loop test c.args.self.now c.raw_dim-whole.ensures.whole (preferred-ranks g.A.Ord.cmp g.met.A.Ord.total c.args.extreme) c.loop-x.best.now found
