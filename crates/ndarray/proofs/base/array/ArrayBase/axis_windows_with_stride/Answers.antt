use Rattle.std.proofs.Common.{◌≡◌, ap, subst, sym, ◌∙◌, length, replicate, set}
use Rattle.ndarray.specs.Grid.{IsGrid, one_axis}
use Rattle.ndarray.specs.Subviews.{ArePositive, window, window_counts, windows_of}
use Rattle.ndarray.specs.base.Pieces.{AreWindowsOf}
use Rattle.ndarray.proofs.cells.AlongAxis.{AreAlong-set}
use Rattle.ndarray.proofs.cells.Cells.{array_by-whole}
use Rattle.ndarray.proofs.pieces.OneAxisWindows.{ArePositive-set, AreWindowsOf-set, axis_windows-one_axis, window_counts-axis}
use Rattle.ndarray.proofs.base.array.ArrayBase.axis_windows_with_stride.Goals as goal

pieces : (g : _) (c : goal.After-drop-steps g) → c.pieces.result ≡ windows_of c.args.self.now (set c.args.self.now.lengths c.args.axis.0 c.args.window) (set (replicate (length c.args.self.now.lengths) 1) c.args.axis.0 c.args.step)
pieces g c =
    let a = c.args.self.now in
    let k = c.args.axis.0 in
    let same = ap (λ v. v.lengths) c.self.view_is in
    let lengths : g.D.Lengths.numbers c.set_axis.new.self ≡ set a.lengths k c.args.window = c.set_axis.ensures ∙ ap (λ ns. set ns k c.args.window) (c.copied-lengths.ensures.value ∙ same) in
    let steps : g.D.Lengths.numbers c.set_axis-2.new.self ≡ set (replicate (length a.lengths) 1) k c.args.step =
    c.set_axis-2.ensures ∙ ap (λ ns. set ns k c.args.step) (c.ones-steps.ensures ∙ ap (λ ns. replicate (length ns) 1) same) in
    c.pieces.ensures ∙ (ap (λ ws. windows_of a ws (g.D.Lengths.numbers c.set_axis-2.new.self)) lengths ∙ ap (windows_of a (set a.lengths k c.args.window)) steps)

pub pieces-requires-clause-window : goal.pieces-requires-clause-window
pieces-requires-clause-window g c =
    let ns = c.args.self.now.lengths in
    let same = ap (λ v. v.lengths) c.self.view_is in
    subst (AreWindowsOf ns) (sym (c.set_axis.ensures ∙ ap (λ xs. set xs c.args.axis.0 c.args.window) (c.copied-lengths.ensures.value ∙ same))) (AreWindowsOf-set ns c.args.axis.0 c.args.window c.requires.window)

pub pieces-requires-clause-steps : goal.pieces-requires-clause-steps
pieces-requires-clause-steps g c =
    let ns = c.args.self.now.lengths in
    let same = ap (λ v. v.lengths) c.self.view_is in
    subst (ArePositive ns) (sym (c.set_axis-2.ensures ∙ ap (λ xs. set xs c.args.axis.0 c.args.step) (c.ones-steps.ensures ∙ ap (λ xs. replicate (length xs) 1) same))) (ArePositive-set ns c.args.axis.0 c.args.step c.requires.step)

pub invariant_of-result : goal.invariant_of-result
invariant_of-result g c =
    let a = c.args.self.now in
    let k = c.args.axis.0 in
    let ws = set a.lengths k c.args.window in
    let ss = set (replicate (length a.lengths) 1) k c.args.step in
    AreAlong-set (length a.lengths) k _ _ (subst IsGrid (sym (pieces g c)) (array_by-whole (window_counts a.lengths ws ss) (window a ws ss))) c.requires.axis
    (ap (λ v. v.lengths) (pieces g c) ∙ window_counts-axis a.lengths k c.args.window c.args.step c.requires.axis)

pub returns : goal.returns
returns g c = ap (λ t. one_axis t.cells) (pieces g c) ∙ axis_windows-one_axis c.args.self.now c.args.axis.0 c.args.window c.args.step c.requires.axis
