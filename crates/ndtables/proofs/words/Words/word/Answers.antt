use Rattle.std.proofs.Common.{◌≡◌, ◌∙◌, ◌++◌, ◌∷◌, [], ap, arith, length, map, refl, string_bytes, sym}
use Rattle.std.proofs.lemmas.List.{nil_from_length}
use Rattle.std.specs.Str.Iter.{split_ascii_whitespace_text}
use Rattle.ndtables.specs.Words.{words_of}
use Rattle.ndtables.proofs.TextWords.{words-end, words-step}
use Rattle.ndtables.proofs.words.Words.word.Goals as goal

pub overflow_sub-self : goal.overflow_sub-self
overflow_sub-self c =
    let next = words-step c.self.inside.more c.next.new.self c.in-Some.word c.in-Some.ensures.steps in
    let many = ap length next in
    let h = c.self.invariant in
    omega (arith, many, h)

pub invariant_of-self-2 : goal.invariant_of-self-2
invariant_of-self-2 c =
    let next = words-step c.self.inside.more c.next.new.self c.in-Some.word c.in-Some.ensures.steps in
    let many = ap length next in
    let h = c.self.invariant in
    omega (arith, many, h)

pub returns-clause-cases : goal.returns-clause-cases
returns-clause-cases c =
    let next = words-step c.self.inside.more c.next.new.self c.in-Some.word c.in-Some.ensures.steps in
    let none : c.self.inside.rest.now ≡ [] = nil_from_length c.self.inside.rest.now (let h = c.in_default.len_below in omega (arith, h)) in
    sym c.self.view_is
    ∙ (ap (λ ws. map string_bytes ws ++ words_of (split_ascii_whitespace_text c.self.inside.more)) none
    ∙ (next ∙ ap (λ ws. c.in-Some.word.now ∷ (map string_bytes ws ++ words_of (split_ascii_whitespace_text c.next.new.self))) (sym none)))

pub invariant_of-self-in_default-next : goal.invariant_of-self-in_default-next
invariant_of-self-in_default-next c =
    let over : split_ascii_whitespace_text c.next.new.self ≡ [] = nil_from_length _ c.in_default-next.ensures.steps.1 in
    c.self.invariant ∙ (ap length (words-end c.self.inside.more c.next.new.self c.in_default-next.ensures.steps) ∙ ap (λ t. length (words_of t)) (sym over))

pub returns-in_default-next-clause-cases : goal.returns-in_default-next-clause-cases
returns-in_default-next-clause-cases c =
    let none : c.self.inside.rest.now ≡ [] = nil_from_length c.self.inside.rest.now (let h = c.in_default.len_below in omega (arith, h)) in (
      sym c.self.view_is
          ∙ (ap (λ ws. map string_bytes ws ++ words_of (split_ascii_whitespace_text c.self.inside.more)) none
          ∙ words-end c.self.inside.more c.next.new.self c.in_default-next.ensures.steps),
      refl,
    )

pub returns-in_default-next-clause-err : goal.returns-in_default-next-clause-err
returns-in_default-next-clause-err c =
    let over : split_ascii_whitespace_text c.next.new.self ≡ [] = nil_from_length _ c.in_default-next.ensures.steps.1 in
    ap (λ t. map string_bytes c.self.inside.rest.now ++ words_of t) over
    ∙ (ap (λ ws. map string_bytes c.self.inside.rest.now ++ ws) (sym (words-end c.self.inside.more c.next.new.self c.in_default-next.ensures.steps)) ∙ c.self.view_is)
