use Rattle.std.proofs.Common.{◌∙◌, ap, sym}
use Rattle.std.proofs.lemmas.Result.{IfOk-weaker}
use Rattle.ndarray.specs.Index.{size}
use Rattle.ndarray.proofs.cells.Elementwise.{can-exchanged, combines-exchanged}
use Rattle.ndarray.proofs.views.BroadcastLengths.{lengths-exchanged}
use Rattle.ndarray.proofs.ops.computing.combine_into_right.Goals as goal

pub combine_into_left-requires-clause-can : goal.combine_into_left-requires-clause-can
combine_into_left-requires-clause-can g c = can-exchanged c.args.left.now c.args.right c.requires.can.shapes _ c.requires.can

pub returns : goal.returns
returns g c =
    let t = c.requires.can.shapes in
    let e = lengths-exchanged c.args.left.now.lengths c.args.right.lengths t in
    let r = c.combine_into_left.ensures in
    record {
      made = IfOk-weaker _ _ _ (combines-exchanged c.args.left.now c.args.right t _) r.made;
      axes = r.axes;
      empty = λ none. r.empty (sym (ap size e) ∙ none);
      in_place = λ own left_ok right_ok. r.in_place (sym e ∙ own) right_ok left_ok;
    }
