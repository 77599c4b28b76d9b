use Rattle.ndarray.proofs.Common.{rules, ◌≡◌, ◌∙◌, ◌++◌, ◌∷◌, [], map, subst, sym, All, YieldsList-at}
use Rattle.std.specs.Str.Iter.{split_ascii_whitespace_steps}
use Rattle.std.specs.Str.Parse.{signed_digits_value}
use Rattle.uses.specs.Spelling.{IsNumberWord, SpellNumbers}
use Rattle.uses.specs.Words.{words_of}
use Rattle.uses.proofs.FaultsPassedOn.{none-there}
use Rattle.uses.proofs.Taken.{all-more, at-seam, taken-all, taken-next, values-more}
use Rattle.uses.proofs.Words.{words-given}
use Rattle.uses.proofs.spelling.numbers.Goals as goal

pub loop-word-preserved : goal.loop-word-preserved
loop-word-preserved c =
    let i = c.loop-word.invariant in
    let x = c.in_ok-number.number in
    let pushed : c.push.new.self.items ≡ c.loop-word.numbers.items ++ x ∷ [] = search rules in
    record {
      spelled = all-more IsNumberWord (λ x. x.now) c.loop-word.yielded c.in-Some.word i.spelled c.in_ok-number.ensures.0;
      values = pushed ∙ values-more (signed_digits_value 10) (λ x. x.now) c.loop-word.yielded c.loop-word.numbers.items c.in-Some.word x i.values c.in_ok-number.ensures.1;
    }

pub returns-in_err-number-clause-err : goal.returns-in_err-number-clause-err
returns-in_err-number-clause-err c =
    let road = YieldsList-at c.into_iter-word-iterator.ensures.into_iter_gives (words-given _ c.args.text.now c.split_ascii_whitespace-word-items.ensures.text) in
    let (rest, all) = taken-next split_ascii_whitespace_steps (λ x. x.now) c.loop-word.yielded (words_of c.args.text.now) _ _ c.next.new.self c.in-Some.word road c.loop-word.yielded_by c.in-Some.ensures.steps in
    none-there (SpellNumbers (words_of c.args.text.now)) c.from_residual.result
    (λ xs r. c.in_err-number.ensures (at-seam IsNumberWord (map (λ x. x.now) c.loop-word.yielded) rest c.in-Some.word.now (subst (All IsNumberWord) all r.spelled)))

pub returns-clause-read : goal.returns-clause-read
returns-clause-read c =
    let road = YieldsList-at c.into_iter-word-iterator.ensures.into_iter_gives (words-given _ c.args.text.now c.split_ascii_whitespace-word-items.ensures.text) in
    let all = taken-all split_ascii_whitespace_steps (λ x. x.now) c.loop-word.yielded (words_of c.args.text.now) _ _ c.next.new.self road c.loop-word.yielded_by c.in-None.ensures.steps in
    subst (λ ws. SpellNumbers ws c.loop-word.numbers.items) (sym all) c.loop-word.invariant
