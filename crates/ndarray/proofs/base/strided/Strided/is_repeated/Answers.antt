use Rattle.std.proofs.Common.{◌≡◌, ◌<◌, ◌∙◌, ap, arith, length, sym}
use Rattle.std.specs.Prelude.{filter_map, replicate}
use Rattle.std.proofs.lemmas.Bool.{ltb-true}
use Rattle.ndarray.specs.base.Storage.{seen_at}
use Rattle.ndarray.specs.base.Strided.{places_from}
use Rattle.ndarray.proofs.lists.Elements.{some-of}
use Rattle.ndarray.proofs.strides.Rows.{length-step_index, step_index-first}
use Rattle.ndarray.proofs.strides.SamePlaces.{same-element}
use Rattle.ndarray.proofs.base.strided.Strided.is_repeated.Goals as goal

pub returns : goal.returns
returns g c = λ yes.
    let s = c.self.inside in
    let at = seen_at s.storage in
    let still : s.step ≡ 0 = omega (arith, c.if-self-ne0.false) in
    let some : 0 < s.left = ltb-true _ _ yes in
    let (x, there) = some-of (at s.place) (step_index-first at s.place s.step s.left some c.self.invariant).0 in
    let list : filter_map at (places_from s.place s.step s.left) ≡ replicate s.left x = ap (λ t. filter_map at (places_from s.place t s.left)) still ∙ same-element at s.place s.left x (omega arith) there in
    let long : length c.args.self.now ≡ s.left = sym (ap length c.self.view_is) ∙ length-step_index _ _ _ _ c.self.invariant in
    (omega (arith, some, long), (x, sym c.self.view_is ∙ (list ∙ ap (λ n. replicate n x) (sym long))))
