use Rattle.std.proofs.Common.{◌≡◌, ◌∙◌, ◌++◌, ◌∷◌, [], ap, filter_map, refl, sym}
use Rattle.std.proofs.lemmas.List.Elements.{filter_map-append}
use Rattle.ndarray.specs.base.Storage.{seen_at}
use Rattle.ndarray.proofs.iter.row_elements.RowElements+A+Ix1.next_back.Goals as goal

pub returns : goal.returns
returns g c =
    let at = seen_at c.self.inside.storage in
    let rest = c.next_back.new.self in
    let there : at c.in-Some.place ≡ _ = c.get.ensures in
    sym c.self.view_is ∙ (ap (filter_map at) c.in-Some.ensures ∙ (filter_map-append at rest (c.in-Some.place ∷ []) ∙ ap (λ l. filter_map at rest ++ l) (rw there refl)))
