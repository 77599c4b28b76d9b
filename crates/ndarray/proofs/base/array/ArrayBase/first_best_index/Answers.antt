use Rattle.std.proofs.Common.{rules, ◌≡◌, ◌∙◌, ℕ, List, [], Some, ap, cond}
use Rattle.std.specs.Prelude.{zip}
use Rattle.std.specs.List.{best_of, reduce}
use Rattle.ndarray.specs.Index.{row_order}
use Rattle.ndarray.specs.every_day.Preferences.{preferred}
use Rattle.ndarray.proofs.cells.BestCells.{best-of_indexed_loop, preferred-ranks}
use Rattle.ndarray.proofs.base.array.ArrayBase.first_best_index.Goals as goal

pub returns : goal.returns
returns g c =
    let test = preferred g.A.Ord.cmp c.args.extreme in
    let a = c.args.self.now in
    let top : List ℕ × g.row.A.Denot = (g.D.Dimension.pattern_numbers c.loop-at.index, c.loop-at.best.now) in
    let end : c.loop-at.at-iterator ≡ [] = search rules in
    let found : reduce (λ best p. cond (test p.1 best.1) p best) (zip (row_order a.lengths) a.cells) ≡ Some top = c.loop-at.invariant ∙ ap (λ ps. Some (best_of (λ p q. test p.1 q.1) top ps)) end in
    (c.loop-at.best.now, best-of_indexed_loop test a c.raw_dim-whole.ensures.whole (preferred-ranks g.A.Ord.cmp g.met.A.Ord.total c.args.extreme) top.0 top.1 found)
