use Rattle.std.proofs.Common.{ap, ◌∙◌, ◌∷◌, [], map, get_or}
use Rattle.std.proofs.lemmas.Simd.{map-map}
use Rattle.std.specs.List.{range_with_len}
use Rattle.ndarray.specs.Subviews.{axis_items}
use Rattle.ndarray.specs.Views.{axis_item}
use Rattle.ndarray.proofs.boxes.Orders.{row_order-one}
use Rattle.ndarray.proofs.base.array.ArrayBase.axis_iter_mut.Goals as goal

pub returns : goal.returns
returns g c = record {
  items =
      c.into_iter.ensures.into_iter_gives.0
      ∙ (ap (λ t. t.cells) c.items.ensures
      ∙ (ap (map (λ is. axis_item c.view_mut.result c.args.axis.0 (get_or is 0 0))) (row_order-one _)
      ∙ (map-map (λ is. axis_item c.view_mut.result c.args.axis.0 (get_or is 0 0)) (λ k. k ∷ []) (range_with_len 0 _)
      ∙ ap (λ v. axis_items v c.args.axis.0) c.view_mut.ensures.same)));
  fits = c.into_iter.ensures.into_iter_gives.1;
}
