use Rattle.std.proofs.Common.{◌∙◌, ap, length, sym}
use Rattle.ndarray.proofs.lists.Elements.{length-filter_map_all, some-of}
use Rattle.ndarray.specs.base.Storage.{seen_at}
use Rattle.ndarray.proofs.iter.row_elements.RowElements.len.Goals as goal

pub returns : goal.returns
returns g c =
    let s = c.self.inside in
    c.len.ensures.value ∙ (sym (length-filter_map_all (seen_at s.storage) s.places (λ k d lt. some-of _ (c.self.invariant k d lt))) ∙ ap length c.self.view_is)
