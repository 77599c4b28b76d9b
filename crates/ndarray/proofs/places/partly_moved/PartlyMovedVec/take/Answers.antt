use Rattle.std.proofs.Common.{List, Option, get_or, Some, None, sym, ap, ◌∙◌, subst, ◌<◌}
use lib.ListN.{set}
use Rattle.core.specs.Mem.Slots.{slots_items, slots_filled, slots_counts}
use Rattle.ndarray.specs.places.PartlyMoved.{remaining_slots}
use Rattle.ndarray.proofs.moving.PartlyMoved.{remaining_slots-there, remaining_slots-set}
use Rattle.ndarray.proofs.places.partly_moved.PartlyMovedVec.take.Goals as goal

-- what is still there lies in the row, under a mark that is true
pub take-requires : goal.take-requires
take-requires g c = let r = c.self.inside.row in let x = c.requires.0 in
    let there = remaining_slots-there (slots_items r) (slots_filled r) c.args.place x x (ap (λ (cs : List (Option g.row.A.Denot)). get_or cs c.args.place None) c.self.view_is ∙ c.requires.1) in
    (subst (λ n. c.args.place < n) (sym (slots_counts r).0) there.0, there.1)

pub returns-clause-value : goal.returns-clause-value
returns-clause-value g c = let r = c.self.inside.row in let x = c.requires.0 in
    let there = remaining_slots-there (slots_items r) (slots_filled r) c.args.place x c.take.result (ap (λ (cs : List (Option g.row.A.Denot)). get_or cs c.args.place None) c.self.view_is ∙ c.requires.1) in
    c.requires.1 ∙ ap (λ y. Some y) (sym there.2 ∙ sym c.take.ensures.value)

pub returns-clause-slots : goal.returns-clause-slots
returns-clause-slots g c = let r = c.self.inside.row in
    (λ i. remaining_slots (c.take.ensures.items i) (c.take.ensures.filled i)) ∙ remaining_slots-set (slots_items r) (slots_filled r) c.args.place ∙ ap (λ cs. set cs c.args.place None) c.self.view_is
