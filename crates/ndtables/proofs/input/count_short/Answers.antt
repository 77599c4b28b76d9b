use Rattle.std.proofs.Common.{◌≤◌, ◌∙◌, ◌∷◌, [], arith, ap, length, length-append, map, refl, subst, sym}
use Rattle.std.specs.Str.Iter.{split_ascii_whitespace_steps}
use Rattle.std.proofs.lemmas.Iterator.Consumers.{YieldsList-at}
use Rattle.std.proofs.lemmas.List.{length-map}
use Rattle.ndtables.specs.Words.{AreShort}
use Rattle.ndtables.proofs.Taken.{all-more, at-seam, taken-all, taken-next}
use Rattle.ndtables.proofs.TextWords.{words-given}
use Rattle.ndtables.proofs.input.count_short.Goals as goal

pub loop-word-preserved : goal.loop-word-preserved
loop-word-preserved c = record {
  count = (let e = c.loop-word.invariant.count in let more = length-append c.loop-word.yielded (c.in-Some.word ∷ []) in omega (arith, e, more));
  short = all-more (λ word. length word ≤ 4096) (λ x. x.now) c.loop-word.yielded c.in-Some.word c.loop-word.invariant.short (let h = c.if-word-gt-LONGEST.false in omega (arith, h));
}

pub returns-then-word-gt-LONGEST-clause-short : goal.returns-then-word-gt-LONGEST-clause-short
returns-then-word-gt-LONGEST-clause-short c =
    let road = YieldsList-at c.into_iter-word-iterator.ensures.into_iter_gives (words-given _ c.args.text.now c.split_ascii_whitespace-word-items.ensures.text) in
    let (rest, all) = taken-next split_ascii_whitespace_steps (λ x. x.now) c.loop-word.yielded _ _ _ c.next.new.self c.in-Some.word road c.loop-word.yielded_by c.in-Some.ensures.steps in (
      λ none. absurd (cc),
      λ short.
          let here : length c.in-Some.word.now ≤ 4096 = at-seam (λ word. length word ≤ 4096) (map (λ x. x.now) c.loop-word.yielded) rest c.in-Some.word.now (subst AreShort all short) in
          let h = c.if-word-gt-LONGEST.true in
          absurd (omega (arith, h, here)),
    )

pub returns-clause-short : goal.returns-clause-short
returns-clause-short c =
    let road = YieldsList-at c.into_iter-word-iterator.ensures.into_iter_gives (words-given _ c.args.text.now c.split_ascii_whitespace-word-items.ensures.text) in
    let all = taken-all split_ascii_whitespace_steps (λ x. x.now) c.loop-word.yielded _ _ _ c.next.new.self road c.loop-word.yielded_by c.in-None.ensures.steps in
    (λ some. subst AreShort (sym all) c.loop-word.invariant.short, λ short. refl)

pub returns-clause-count : goal.returns-clause-count
returns-clause-count c =
    let road = YieldsList-at c.into_iter-word-iterator.ensures.into_iter_gives (words-given _ c.args.text.now c.split_ascii_whitespace-word-items.ensures.text) in
    let all = taken-all split_ascii_whitespace_steps (λ x. x.now) c.loop-word.yielded _ _ _ c.next.new.self road c.loop-word.yielded_by c.in-None.ensures.steps in
    c.loop-word.invariant.count ∙ (sym (length-map c.loop-word.yielded (λ x. x.now)) ∙ ap length (sym all))
