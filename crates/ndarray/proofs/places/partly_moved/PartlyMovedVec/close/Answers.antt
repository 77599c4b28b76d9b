use Rattle.std.proofs.Common.{subst, sym}
use Rattle.core.specs.Mem.Slots.{slots_items, slots_filled, slots_len, slots_counts}
use Rattle.ndarray.specs.places.PartlyMoved.{AllGone}
use Rattle.ndarray.proofs.moving.PartlyMoved.{remaining_slots-gone}
use Rattle.ndarray.proofs.places.partly_moved.PartlyMovedVec.close.Goals as goal

-- where nothing is there, every mark is false
pub close-requires-clause-empty : goal.close-requires-clause-empty
close-requires-clause-empty g c = let r = c.self.inside.row in
    remaining_slots-gone (slots_items r) (slots_filled r) (slots_len r) (slots_counts r).0 (slots_counts r).1 (subst AllGone (sym c.self.view_is) c.requires)
