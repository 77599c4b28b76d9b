use Rattle.std.proofs.Common.{◌≡◌, ◌∙◌, ◌++◌, ap, arith, filter_map, length, subst, sym}
use Rattle.std.specs.Prelude.{IsTrue}
use Rattle.std.specs.Option.{is_some}
use Rattle.std.proofs.lemmas.List.Elements.{filter_map-append}
use Rattle.ndarray.specs.base.Storage.{seen_at}
use Rattle.ndarray.specs.base.Strided.{HaveElements}
use Rattle.ndarray.proofs.lists.Elements.{length-filter_map_all, some-of}
use Rattle.ndarray.proofs.lists.Parts.{All-first, All-second}
use Rattle.ndarray.proofs.iter.row_elements.RowElements.take_row.Goals as goal
use Rattle.ndarray.proofs.iter.row_elements.RowElements.take_row.Goals.{In-Some}

-- the places of the row, and those behind it
module _ (g : _) (c : In-Some g) where
  parts : HaveElements (seen_at c.self.inside.storage) (c.in-Some.row ++ c.take_row.new.self)
  parts = subst (HaveElements (seen_at c.self.inside.storage)) c.in-Some.ensures.1 c.self.invariant

  first : HaveElements (seen_at c.self.inside.storage) c.in-Some.row
  first = All-first (λ p. IsTrue (is_some (seen_at c.self.inside.storage p))) c.in-Some.row c.take_row.new.self parts

pub invariant_of-self-2 : goal.invariant_of-self-2
invariant_of-self-2 g c =
    let here = (goal.at.invariant_of-self-2 g c).In-Some in
    All-second (λ p. IsTrue (is_some (seen_at c.self.inside.storage p))) c.in-Some.row c.take_row.new.self (parts g here)

pub returns : goal.returns
returns g c =
    let here = (goal.at.returns g c).In-Some in
    let at = seen_at c.self.inside.storage in
    let row = c.in-Some.row in
    let cells : c.at.result ≡ filter_map at row = c.at.ensures ∙ ap (filter_map at) c.row.view_is in
    let count = length-filter_map_all at row (λ k d lt. some-of (at _) (first g here k d lt)) in
    let long : length c.at.result ≡ length row = ap length cells ∙ count in
    let some = c.in-Some.ensures.0 in
    (omega (arith, long, some), sym c.self.view_is ∙ (ap (filter_map at) c.in-Some.ensures.1 ∙ (filter_map-append at row c.take_row.new.self ∙ ap (λ l. l ++ filter_map at c.take_row.new.self) (sym cells))))
