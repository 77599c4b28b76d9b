use Rattle.ndarray.proofs.Common.{rules, ◌≡◌, ◌∙◌, ◌++◌, ◌∷◌, [], ap, map, pos, refl, subst, sym, All, YieldsList-at}
use Rattle.std.specs.Str.Iter.{split_ascii_whitespace_steps, split_ascii_whitespace_text}
use Rattle.uses.specs.Pixels.{IsPixelWord, SpellPixels}
use Rattle.uses.specs.Spelling.{count_of}
use Rattle.uses.specs.Words.{words_of}
use Rattle.uses.proofs.FaultsPassedOn.{none-there}
use Rattle.uses.proofs.Taken.{all-more, at-seam, taken-all, taken-next, values-more}
use Rattle.uses.proofs.Words.{words-given}
use Rattle.uses.proofs.pixels.pixels_up_to.Goals as goal

pub loop-word-preserved : goal.loop-word-preserved
loop-word-preserved c =
    let i = c.loop-word.invariant in
    let pushed : c.push.new.self.items ≡ c.loop-word.pixels.items ++ pos c.in_ok-number.number ∷ [] = search rules in
    record {
      spelled = all-more (IsPixelWord c.args.most) (λ x. x.now) c.loop-word.yielded c.in-Some.word i.spelled c.in_ok-number.ensures.0;
      values = pushed ∙ values-more (λ w. pos (count_of w)) (λ x. x.now) c.loop-word.yielded c.loop-word.pixels.items c.in-Some.word (pos c.in_ok-number.number) i.values (ap pos c.in_ok-number.ensures.1);
    }

pub returns-in_err-number-clause-err : goal.returns-in_err-number-clause-err
returns-in_err-number-clause-err c =
    let all_words = words_of (split_ascii_whitespace_text c.args.words) in
    let road = YieldsList-at c.into_iter-word-iterator.ensures.into_iter_gives (words-given c.args.words _ refl) in
    let (rest, all) = taken-next split_ascii_whitespace_steps (λ x. x.now) c.loop-word.yielded all_words _ _ c.next.new.self c.in-Some.word road c.loop-word.yielded_by c.in-Some.ensures.steps in
    none-there (SpellPixels c.args.most all_words) c.from_residual.result
    (λ xs r. c.in_err-number.ensures (at-seam (IsPixelWord c.args.most) (map (λ x. x.now) c.loop-word.yielded) rest c.in-Some.word.now (subst (All (IsPixelWord c.args.most)) all r.spelled)))

pub returns-clause-read : goal.returns-clause-read
returns-clause-read c =
    let all_words = words_of (split_ascii_whitespace_text c.args.words) in
    let road = YieldsList-at c.into_iter-word-iterator.ensures.into_iter_gives (words-given c.args.words _ refl) in
    let all = taken-all split_ascii_whitespace_steps (λ x. x.now) c.loop-word.yielded all_words _ _ c.next.new.self road c.loop-word.yielded_by c.in-None.ensures.steps in
    subst (λ ws. SpellPixels c.args.most ws c.loop-word.pixels.items) (sym all) c.loop-word.invariant
