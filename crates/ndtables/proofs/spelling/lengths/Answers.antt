use Rattle.std.proofs.Common.{rules, ◌≡◌, ◌∷◌, [], ◌<◌, sym, ap, ◌∙◌, subst, map, length, get_or, refl, inl, inr, arith}
use Rattle.std.proofs.lemmas.List.{length-map}
use Rattle.std.specs.Cmp.Lexicographic.{other_text, same_text}
use Rattle.std.specs.Prelude.{◌≤◌}
use Rattle.std.proofs.lemmas.Iterator.Consumers.{YieldsList-at, YieldsList-turn}
use Rattle.std.proofs.lemmas.Iterator.Splits.{YieldsList-from_str_split}
use Rattle.std.specs.List.{join_with_byte}
use Rattle.std.specs.Str.Parse.{digits_value}
use Rattle.ndtables.specs.Spelling.{IsCountWord, SpellsLengths, none, some}
use Rattle.ndtables.proofs.Pieces.{whole_run}
use Rattle.ndtables.proofs.ShapeWords.{no-lengths}
use Rattle.ndtables.proofs.spelling.lengths.Goals as goal

pub returns-then-eq-clause-spelled : goal.returns-then-eq-clause-spelled
returns-then-eq-clause-spelled c =
    subst (λ ns. SpellsLengths c.args.word.now ns) (sym c.IxDyn.ensures) (subst (λ w. SpellsLengths w []) (sym (same_text c.args.word.now (46 ∷ []) c.if-eq.ensures)) none)

pub returns-clause-spelled : goal.returns-clause-spelled
returns-clause-spelled c =
    let pieces = map (λ x. x.now) c.loop-piece.yielded in
    let run = whole_run _ c.into_iter-piece-iterator.result c.loop-piece.piece-iterator c.next.new.self c.loop-piece.yielded c.loop-piece.yielded_by c.in-None.ensures.steps in
    let splits = c.split-piece-items.ensures.runs run run.seen c.into_iter-piece-iterator.ensures.into_iter_gives in
    let joined : c.args.word.now ≡ join_with_byte 120 pieces = (splits.2 (search rules) (λ q e. e, λ w o h. h)).0.2 refl in
    let several : 0 < length pieces = subst (λ n. 0 < n) (sym (length-map c.loop-piece.yielded (λ x. x.now))) (splits.0 refl) in
    subst (λ ns. SpellsLengths c.args.word.now ns) (sym (c.IxDyn-2.ensures ∙ (c.as_slice.ensures.value ∙ c.loop-piece.invariant.values)))
    (subst (λ w. SpellsLengths w (map (digits_value 10) pieces)) (sym joined) (some pieces several c.loop-piece.invariant.digits))

pub returns-in_default-clause-err : goal.returns-in_default-clause-err
returns-in_default-clause-err c =
    let word = c.args.word.now in
    let road = YieldsList-at c.into_iter-piece-iterator.ensures.into_iter_gives
    (YieldsList-from_str_split 120 word (search rules) c.split-piece-items.ensures.text c.split-piece-items.ensures.has_more c.split-piece-items.ensures.pattern) in
    let turn = YieldsList-turn road c.loop-piece.yielded c.loop-piece.piece-iterator c.loop-piece.yielded_by _ c.next.new.self c.in-Some.piece refl c.in-Some.ensures.steps in
    let not : IsCountWord c.in-Some.piece.now → ⊥ = search rules in (
      no-lengths word (other_text word (46 ∷ []) c.if-eq.ensures)
          (λ pieces e. inr (
            length c.loop-piece.yielded,
            c.in-Some.piece.now,
            subst (λ ps. length c.loop-piece.yielded < length ps) e turn.0,
            λ is. not (subst IsCountWord (sym (turn.1 ∙ ap (λ ps. get_or ps (length c.loop-piece.yielded) c.in-Some.piece.now) e)) is),
          )),
      refl,
    )

pub returns-then-is_full-clause-err : goal.returns-then-is_full-clause-err
returns-then-is_full-clause-err c =
    let word = c.args.word.now in
    let road = YieldsList-at c.into_iter-piece-iterator.ensures.into_iter_gives
    (YieldsList-from_str_split 120 word (search rules) c.split-piece-items.ensures.text c.split-piece-items.ensures.has_more c.split-piece-items.ensures.pattern) in
    let turn = YieldsList-turn road c.loop-piece.yielded c.loop-piece.piece-iterator c.loop-piece.yielded_by _ c.next.new.self c.in-Some.piece refl c.in-Some.ensures.steps in
    let full : 32 ≤ length c.loop-piece.axes.items = search rules in
    let as_many : length c.loop-piece.axes.items ≡ length c.loop-piece.yielded =
    ap length c.loop-piece.invariant.values ∙ (length-map (map (λ x. x.now) c.loop-piece.yielded) (digits_value 10) ∙ length-map c.loop-piece.yielded (λ x. x.now)) in (
      no-lengths word (other_text word (46 ∷ []) c.if-eq.ensures)
          (λ pieces e. inl (λ few. let more : length c.loop-piece.yielded < length pieces = subst (λ ps. length c.loop-piece.yielded < length ps) e turn.0 in absurd (omega (arith, more, few, full, as_many)))),
      refl,
    )
