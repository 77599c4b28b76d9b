use Rattle.std.proofs.Common.{◌∙◌, ap, subst}
use Rattle.ndarray.specs.Grid.{array_by}
use Rattle.ndarray.specs.Index.{InBox}
use Rattle.ndarray.proofs.boxes.ShiftedBoxes.{lists-own}
use Rattle.ndarray.proofs.cells.Cells.{cell-inside}
use Rattle.ndarray.proofs.zip.Zip+unit+unit.indexed.Goals as goal

pub returns-clause-lengths : goal.returns-clause-lengths
returns-clause-lengths g c = rw c.of.ensures (ap (λ v. v.lengths) (c.of-first.ensures ∙ ap (λ ns. array_by ns (λ js. js)) c.raw_dim.ensures.lengths))

pub returns-clause-patterns : goal.returns-clause-patterns
returns-clause-patterns g c = rw c.of.ensures
    (λ is x shown.
    let lists = c.of-first.result in
    let same = c.of-first.ensures ∙ ap (λ ns. array_by ns (λ js. js)) c.raw_dim.ensures.lengths in
    (lists-own lists _ same is (subst (λ v. InBox v.lengths is) same (cell-inside lists is _ shown)) _).0 shown)

pub returns-clause-items : goal.returns-clause-items
returns-clause-items g c = rw c.of.ensures (λ is b x. lists-own c.of-first.result _ (c.of-first.ensures ∙ ap (λ ns. array_by ns (λ js. js)) c.raw_dim.ensures.lengths) is b _)
