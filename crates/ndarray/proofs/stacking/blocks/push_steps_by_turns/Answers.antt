use Rattle.std.proofs.Common.{[], ◌∷◌, ◌∙◌, ap, arith, inl, inr, length}
use Rattle.std.proofs.lemmas.List.{length-append}
use Rattle.ndarray.specs.Index.{size}
use Rattle.ndarray.proofs.joining.Pairs.{pushed-none, pushed-pair, turns-ended, turns-next, turns-room}
use Rattle.ndarray.proofs.stacking.blocks.push_steps_by_turns.Goals as goal

pub push-requires : goal.push-requires
push-requires g c =
    let next = turns-next c.loop-x.pairs.first c.loop-x.pairs.second c.next.new.self.first c.next.new.self.second c.in-Some.x.now c.in-Some.y.now c.in-Some.ensures.steps.0 c.in-Some.ensures.steps.1 in
    let room = turns-room _ _ _ _ _ _ _ _ _ next c.loop-x.invariant c.requires.room in
    omega (arith, room)

pub push-requires-in-Some : goal.push-requires-in-Some
push-requires-in-Some g c =
    let next = turns-next c.loop-x.pairs.first c.loop-x.pairs.second c.next.new.self.first c.next.new.self.second c.in-Some.x.now c.in-Some.y.now c.in-Some.ensures.steps.0 c.in-Some.ensures.steps.1 in
    let room = turns-room _ _ _ _ _ _ _ _ _ next c.loop-x.invariant c.requires.room in
    let more = ap (λ p. length p.cells) c.push.ensures ∙ length-append c.loop-x.builder.cells (c.in_ok-clone.field-0 ∷ []) in
    let same = ap (λ p. size p.lengths) c.push.ensures in
    omega (arith, room, more, same)

pub loop-x-preserved : goal.loop-x-preserved
loop-x-preserved g c =
    let next = turns-next c.loop-x.pairs.first c.loop-x.pairs.second c.next.new.self.first c.next.new.self.second c.in-Some.x.now c.in-Some.y.now c.in-Some.ensures.steps.0 c.in-Some.ensures.steps.1 in
    pushed-pair c.loop-x.builder c.push.new.self c.push-in-Some.new.self c.in-Some.x.now c.in-Some.y.now c.in_ok-clone.field-0 c.in_ok-clone-2.field-0 _ _ c.push.ensures c.push-in-Some.ensures
    (c.requires.clones _ _ c.in_ok-clone.ensures.cases) (c.requires.clones _ _ c.in_ok-clone-2.ensures.cases) next
    ∙ c.loop-x.invariant

pub returns : goal.returns
returns g c =
    let none = turns-ended c.loop-x.pairs.first c.loop-x.pairs.second (elim c.in_default.ensures.steps [ inl w ↦ inl w.1.0 | inr w ↦ inr w.1.0 ]) in
    pushed-none c.loop-x.builder _ none ∙ c.loop-x.invariant
