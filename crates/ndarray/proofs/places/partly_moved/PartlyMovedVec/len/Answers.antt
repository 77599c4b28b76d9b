use Rattle.std.proofs.Common.{length, sym, ap, ◌∙◌}
use Rattle.core.specs.Mem.Slots.{slots_items, slots_filled, slots_counts}
use Rattle.ndarray.proofs.moving.PartlyMoved.{length-remaining_slots}
use Rattle.ndarray.proofs.places.partly_moved.PartlyMovedVec.len.Goals as goal

-- one slot for each value of the row
pub returns : goal.returns
returns g c = let r = c.self.inside.row in
    c.len.ensures ∙ (slots_counts r).0 ∙ sym (length-remaining_slots (slots_items r) (slots_filled r)) ∙ ap length (c.self.view_is)
