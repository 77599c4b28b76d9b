use Rattle.std.proofs.Common.{◌∙◌, ap, sym}
use Rattle.ndarray.specs.Grid.{cell}
use Rattle.ndarray.specs.Scans.{can_step, step_gives}
use Rattle.ndarray.specs.Writes.{with_cell}
use Rattle.ndarray.proofs.cells.Scans.{Only-asks, Only-end}
use Rattle.ndarray.proofs.subviews.scans.scan_cell.Goals as goal

pub scan_step-last-requires-clause-callable : goal.scan_step-last-requires-clause-callable
scan_step-last-requires-clause-callable g c = λ x e.
    let at = c.raw_dim-index.ensures.lengths ∙ c.requires.none in
    Only-asks (step_gives g.F.Fn c.args.f.now) c.args.init c.args.array.now c.args.axis.0 c.requires.none x (ap (cell c.args.array.now) (sym at) ∙ e) (can_step g.F.Fn c.args.f.now) c.requires.callable

pub returns : goal.returns
returns g c =
    let at = c.raw_dim-index.ensures.lengths ∙ c.requires.none in
    let (x, y, e, given, is) = c.scan_step-last.ensures in
    Only-end (step_gives g.F.Fn c.args.f.now) c.args.init c.args.array.now c.args.axis.0 c.requires.none x (ap (cell c.args.array.now) (sym at) ∙ e) c.scan_step-last.result y c.scan_step-last.new.array c.raw_dim-index.ensures.whole given (is ∙ ap (λ l. with_cell c.args.array.now l y) at)
