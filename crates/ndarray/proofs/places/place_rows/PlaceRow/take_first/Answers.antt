use Rattle.std.proofs.Common.{◌≡◌, ◌∙◌, ◌+◌, ◌*◌, ◌%◌, ◌^◌, ◌≤◌, ℕ, List, ap, arith, drop, length, sym, take}
use Rattle.std.proofs.Math.Nat.{add-mod-mod}
use Rattle.ndarray.specs.base.Strided.{places_from}
use Rattle.ndarray.proofs.strides.PlaceParts.{places_from-take, places_from-drop}
use Rattle.ndarray.proofs.strides.Rows.{length-places_from}
use Rattle.ndarray.proofs.places.place_rows.PlaceRow.take_first.Goals as goal

few : (p s left count : ℕ) (ps : List ℕ) → places_from p s left ≡ ps → count ≤ length ps → count ≤ left
few p s left count ps e le = let l = length-places_from p s left in let v = ap length e in omega arith

pub overflow_sub-self : goal.overflow_sub-self
overflow_sub-self c = few _ _ _ _ _ c.self.view_is c.requires

pub returns-clause-first : goal.returns-clause-first
returns-clause-first c =
    let r = c.self.inside in
    sym (places_from-take c.args.count r.place r.stride r.left (few _ _ _ _ _ c.self.view_is c.requires)) ∙ ap (take c.args.count) c.self.view_is

pub returns-clause-rest : goal.returns-clause-rest
returns-clause-rest c =
    let r = c.self.inside in
    let there : (r.place + (c.args.count * r.stride) % 2 ^ 64) % 2 ^ 64 ≡ (r.place + c.args.count * r.stride) % 2 ^ 64 = add-mod-mod r.place (c.args.count * r.stride) (2 ^ 64) in
    sym (places_from-drop c.args.count r.place r.stride r.left _ there (omega arith) (few _ _ _ _ _ c.self.view_is c.requires)) ∙ ap (drop c.args.count) c.self.view_is
