use Rattle.std.proofs.Common.{ap, ◌∙◌, ◌∷◌, [], map, get_or}
use Rattle.std.proofs.lemmas.Simd.{map-map}
use Rattle.std.specs.List.{range_with_len}
use Rattle.ndarray.specs.Views.{axis_item}
use Rattle.ndarray.proofs.boxes.Orders.{row_order-one}
use Rattle.ndarray.proofs.base.array.ArrayBase.axis_iter.Goals as goal

pub returns-clause-items : goal.returns-clause-items
returns-clause-items g c =
    c.into_iter.ensures.into_iter_gives.0
    ∙ (ap (λ t. t.cells) c.items.ensures
    ∙ (ap (map (λ is. axis_item c.args.self.now c.args.axis.0 (get_or is 0 0))) (row_order-one _)
    ∙ map-map (λ is. axis_item c.args.self.now c.args.axis.0 (get_or is 0 0)) (λ k. k ∷ []) (range_with_len 0 _)))
