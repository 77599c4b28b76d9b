use Rattle.std.proofs.Common.{get_or, length, arith, ap, refl, ◌∙◌}
use Rattle.std.proofs.lemmas.List.{get_or-replicate, length-replicate}
use Rattle.ndarray.specs.base.IndexLists.{shifted_index}
use Rattle.ndarray.proofs.cells.Cells.{array_by-same}
use Rattle.ndarray.proofs.boxes.ShiftedBoxes.{shifted_index-zeros}
use Rattle.ndarray.proofs.boxes.Sizes.{length-fits}
use Rattle.ndarray.proofs.base.index_lists.Indices.of.Goals as goal

pub invariant_of-result : goal.invariant_of-result
invariant_of-result g c =
    let n = c.ndim.ensures.value in
    let l = ap length c.zeros-start.ensures ∙ length-replicate c.ndim.result 0 in
    record {
      as_many = omega arith;
      limit = c.requires;
      room = λ k lt.
          let z = ap (λ ns. get_or ns k 0) c.zeros-start.ensures ∙ get_or-replicate c.ndim.result k 0 0 (omega arith) in
          let f = length-fits (g.D.Lengths.numbers c.args.dim) k lt c.requires in
          omega arith;
    }

pub returns : goal.returns
returns g c = array_by-same _ _ _ _ refl (λ is b. ap (λ ss. shifted_index ss is) c.zeros-start.ensures ∙ shifted_index-zeros c.ndim.result is)
