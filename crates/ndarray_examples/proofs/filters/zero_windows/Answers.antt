use Rattle.ndarray.proofs.Common.{rules, ◌≡◌, ◌∙◌, ◌∷◌, [], ap, subst, ◌↔◌, IsTrue, window, windows_of, array_by-at, collect-each}
use Rattle.ndarray_examples.specs.Filters.{IsZero}
use Rattle.ndarray_examples.proofs.filters.zero_windows.Goals as goal

pub returns-clause-tests : goal.returns-clause-tests
returns-clause-tests g c =
    let table = c.args.table.now in
    let sides = c.args.rows ∷ c.args.columns ∷ [] in
    let is_made : c.windows-windows.result ≡ windows_of table sides (1 ∷ 1 ∷ []) = search rules in
    let made = c.in_ok-tests.ensures in
    record {
      lengths = made.ran.1.lengths ∙ ap (λ w. w.lengths) (c.from.ensures ∙ is_made);
      whole = made.whole;
      tests = collect-each _ _ _ (λ i r. IsTrue r ↔ IsZero (window table sides (1 ∷ 1 ∷ []) i)) _
          (λ i view r k inside shown call.
          let answer : IsTrue r ↔ IsZero view = search (rules, call) in
          (search rules, subst (λ v. IsTrue r ↔ IsZero v) (array_by-at _ (window table sides (1 ∷ 1 ∷ [])) c.windows-windows.result i view is_made (rw c.from.ensures at inside) (rw c.from.ensures at shown)) answer))
          made.ran.0 c.in_ok-tests.tests made.ran.1;
    }
