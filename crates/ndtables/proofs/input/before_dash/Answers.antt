use Rattle.std.proofs.Common.{◌≡◌, ◌++◌, ◌∷◌, ◌∙◌, [], ap, map, string_bytes, rules}
use Rattle.std.proofs.lemmas.List.{map-append}
use Rattle.std.specs.Prelude.{codes}
use Rattle.ndtables.proofs.input.before_dash.Goals as goal

pub returns-then-eq : goal.returns-then-eq
returns-then-eq c =
    let front = map string_bytes c.in-Some.front.now in
    let last : string_bytes c.in-Some.last.now ≡ codes "-" = search rules in
    ap (map string_bytes) c.in-Some.ensures.cases.0 ∙ (map-append string_bytes c.in-Some.front.now (c.in-Some.last.now ∷ []) ∙ ap (λ w. front ++ w ∷ []) last)
