use Rattle.std.proofs.Common.{length, None, get_or, sym, ap, ◌∙◌}
use Rattle.ndarray.proofs.lists.Elements.{length-filter_map_all}
use Rattle.ndarray.proofs.places.move_out.MoveOut.len.Goals as goal

pub returns : goal.returns
returns g c =
    let m = c.self.inside in
    c.len.ensures ∙ sym (length-filter_map_all (λ p. get_or m.left p None) (g.W.PlaceSequence.to_come m.way) c.self.invariant.ahead) ∙ ap length c.self.view_is
