use Rattle.std.proofs.Common.{true, Some, map, sym, ap, ◌∙◌}
use lib.ListN.{replicate}
use Rattle.core.specs.Mem.Slots.{slots_items, slots_counts}
use Rattle.ndarray.specs.places.PartlyMoved.{remaining_slots}
use Rattle.ndarray.proofs.moving.PartlyMoved.{remaining_slots-full}
use Rattle.ndarray.proofs.places.partly_moved.PartlyMovedVec.of.Goals as goal

-- every mark is true
pub returns : goal.returns
returns g c = let r = c.open-row.result.0 in let row = c.open-row.ensures.row in
    ap (remaining_slots (slots_items r)) (row.2 ∙ ap (λ n. replicate n true) (sym row.0 ∙ (slots_counts r).0))
    ∙ remaining_slots-full (slots_items r) ∙ ap (map (λ x. Some x)) (row.1 ∙ ap (λ v. v.items) c.as_mut_ptr-ptr.ensures.unchanged)
