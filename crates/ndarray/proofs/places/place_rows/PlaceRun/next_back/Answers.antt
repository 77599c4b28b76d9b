use Rattle.std.proofs.Common.{sym, ◌∙◌, ◌++◌, ◌∷◌, ap, arith, [], ◌≡◌, ◌+◌, ◌-◌, ◌*◌, ◌%◌, ◌^◌}
use Rattle.ndarray.specs.base.Strided.{places_from}
use Rattle.ndarray.proofs.strides.Rows.{places_from-last}
use Rattle.ndarray.proofs.strides.NoPlaces.{none-left}
use Rattle.ndarray.proofs.places.place_rows.PlaceRun.next_back.Goals as goal

pub returns-else-self-gt0 : goal.returns-else-self-gt0
returns-else-self-gt0 c = let e = none-left _ _ _ _ c.self.view_is (omega (arith, c.if-self-gt0.false)) in (e, e)

pub returns-then-self-gt0 : goal.returns-then-self-gt0
returns-then-self-gt0 c =
    let r = c.self.inside in
    let last : (r.place + ((r.left - 1) * 1) % 2 ^ 64) % 2 ^ 64 ≡ (r.place + (r.left - 1)) % 2 ^ 64 = omega arith in
    sym c.self.view_is ∙ (places_from-last r.place 1 r.left (omega arith) (omega (arith, c.if-self-gt0.true)) ∙ ap (λ q. places_from r.place 1 (r.left - 1) ++ q ∷ []) last)
