use Rattle.std.proofs.Common.{◌≡◌, ◌∙◌, ◌∷◌, ap, filter_map, refl, subst, sym}
use Rattle.std.proofs.lemmas.List.Elements.{All-head, All-tail}
use Rattle.std.specs.Prelude.{IsTrue}
use Rattle.std.specs.Option.{is_some}
use Rattle.ndarray.specs.base.Storage.{seen_at}
use Rattle.ndarray.specs.base.Strided.{HaveElements}
use Rattle.ndarray.proofs.iter.row_elements.RowElements.next.Goals as goal
use Rattle.ndarray.proofs.iter.row_elements.RowElements.next.Goals.{In-Some}

-- the next place and those behind it have elements
parts : (g : _) (c : In-Some g) → HaveElements (seen_at c.self.inside.storage) (c.in-Some.place ∷ c.next.new.self)
parts g c = subst (HaveElements (seen_at c.self.inside.storage)) c.in-Some.ensures c.self.invariant

pub get-requires : goal.get-requires
get-requires g c = All-head (λ p. IsTrue (is_some (seen_at c.self.inside.storage p))) c.in-Some.place c.next.new.self (parts g (goal.at.get-requires g c).In-Some)

pub invariant_of-self-2 : goal.invariant_of-self-2
invariant_of-self-2 g c = All-tail (λ p. IsTrue (is_some (seen_at c.self.inside.storage p))) c.in-Some.place c.next.new.self (parts g (goal.at.invariant_of-self-2 g c).In-Some)

pub returns : goal.returns
returns g c =
    let at = seen_at c.self.inside.storage in
    let there : at c.in-Some.place ≡ _ = c.get.ensures in
    sym c.self.view_is ∙ (ap (filter_map at) c.in-Some.ensures ∙ rw there refl)
