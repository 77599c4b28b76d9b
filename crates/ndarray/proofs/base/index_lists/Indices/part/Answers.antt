use Rattle.std.proofs.Common.{◌≡◌, ◌+◌, ◌≤◌, ◌<◌, get_or, set, length, arith, ap, ◌∙◌}
use Rattle.ndarray.specs.Grid.{array_by}
use Rattle.ndarray.specs.Views.{axis_part}
use Rattle.ndarray.specs.base.IndexLists.{shifted_index}
use Rattle.ndarray.proofs.cells.Cells.{array_by-whole}
use Rattle.ndarray.proofs.boxes.ShiftedBoxes.{lists-part, StartsAt-part}
use Rattle.ndarray.proofs.base.index_lists.Indices.part.Goals as goal

module _ (g : _) (c : goal.After-set_axis-2 g) where
  axis-lt : c.args.axis < length (g.D.Lengths.numbers c.self.inside.dim)
  axis-lt = omega (arith, ap (λ v. length v.lengths) c.self.view_is, c.requires.axis)

  fits : c.args.from + c.args.len ≤ get_or (g.D.Lengths.numbers c.self.inside.dim) c.args.axis 0
  fits = omega (arith, ap (λ v. get_or v.lengths c.args.axis 0) c.self.view_is, c.requires.within)

  start-is : g.D.Lengths.numbers c.set_axis.new.self ≡ set (g.D.Lengths.numbers c.self.inside.start) c.args.axis (get_or (g.D.Lengths.numbers c.self.inside.start) c.args.axis 0 + c.args.from)
  start-is =
      let k = c.args.axis in
      let ss = g.D.Lengths.numbers c.self.inside.start in
      c.set_axis.ensures
      ∙ (ap (λ x. set (g.D.Lengths.numbers c.copied-start.result) k (x + c.args.from)) c.axis.ensures ∙ ap (λ ns. set ns k (get_or ns k 0 + c.args.from)) c.copied-start.ensures.value)

  dim-is : g.D.Lengths.numbers c.set_axis-2.new.self ≡ set (g.D.Lengths.numbers c.self.inside.dim) c.args.axis c.args.len
  dim-is = c.set_axis-2.ensures ∙ ap (λ ns. set ns c.args.axis c.args.len) c.copied-dim.ensures.value

pub invariant_of-result : goal.invariant_of-result
invariant_of-result g c = rw (start-is g c, dim-is g c) (StartsAt-part _ _ c.self.invariant c.args.axis (axis-lt g c) c.args.from c.args.len (fits g c))

pub returns-clause-value : goal.returns-clause-value
returns-clause-value g c =
    ap (λ ns. array_by ns (shifted_index (g.D.Lengths.numbers c.set_axis.new.self))) (dim-is g c)
    ∙ (ap (λ ss. array_by (set (g.D.Lengths.numbers c.self.inside.dim) c.args.axis c.args.len) (shifted_index ss)) (start-is g c)
    ∙ (lists-part _ _ c.self.invariant c.args.axis (axis-lt g c) c.args.from c.args.len (fits g c) ∙ ap (λ v. axis_part v c.args.axis c.args.from (c.args.from + c.args.len)) c.self.view_is))

pub returns-clause-whole : goal.returns-clause-whole
returns-clause-whole g c = array_by-whole _ _
