use Rattle.std.proofs.Common.{ap, subst}
use Rattle.std.specs.Prelude.{IsTrue}
use Rattle.std.specs.Option.{is_some}
use Rattle.std.proofs.lemmas.List.Elements.{All-tail}
use Rattle.ndarray.specs.base.Storage.{seen_at}
use Rattle.ndarray.specs.base.Strided.{HaveElements}
use Rattle.ndarray.specs.places.ElementPlaces.{places_of}
use Rattle.ndarray.proofs.iter.indexed.IndexedIterIterator.next.Goals as goal

pub invariant_of-self-2 : goal.invariant_of-self-2
invariant_of-self-2 g c =
    let at = seen_at c.self.inside.storage in
    All-tail (λ p. IsTrue (is_some (at p))) c.in-Some.place (places_of c.next.new.self) (subst (HaveElements at) (ap places_of c.in-Some.ensures) c.self.invariant)
