-- A line that stands for its own words has their answer, and their faults.
use Rattle.std.proofs.Common.{◌≡◌, [], ◌∷◌, ℕ, List, Option, inl, inr, refl, subst}
use Rattle.std.specs.Prelude.{codes}
use Rattle.ndtables.specs.Answering.{Answers, ForbidsAnswer}
use Rattle.ndtables.specs.Lines.{AnswersLine, AsksForm, AsksInput, AsksSource, Begins, BeginsWrongly, EndsInNoDash, ForbidsLine, StandFor, StandForNone, StandsAlone}
use Rattle.ndtables.specs.Streams.{IsPlaceOf}
use Rattle.ndtables.specs.declared.fault.Fault.{Fault}
use Rattle.ndtables.specs.declared.fault.Fault.TheVariants.{Usage}
use Rattle.ndtables.specs.declared.printing.Form.{Form}
use Rattle.ndtables.specs.declared.printing.Form.TheVariants.{Plain, Table, Csv}
use Rattle.ndtables.specs.declared.source.Source.{Source}
use Rattle.ndtables.specs.declared.source.Source.TheVariants.{Words, Records, RecordsBelowHeader}

module _ (line : List (List ℕ)) where
  no-source : (source : Source) (rest : List (List ℕ)) → AsksSource line Words line → AsksSource line source rest → (source ≡ Words) × (rest ≡ line)
  no-source Words rest none h = (refl, h.0)
  no-source Records rest none h = absurd (none.1 rest h.0)
  no-source RecordsBelowHeader rest none h = absurd (none.1 (codes "--header" ∷ rest) h)

  no-form : (form : Form) (rest : List (List ℕ)) → AsksForm line Plain line → AsksForm line form rest → (form ≡ Plain) × (rest ≡ line)
  no-form Plain rest none h = (refl, h.0)
  no-form Table rest none h = absurd (none.1 rest (inl h))
  no-form Csv rest none h = absurd (none.1 rest (inr h))

  -- it begins with no option
  no-options : (source : Source) (form : Form) (given : List (List ℕ)) → AsksSource line Words line → AsksForm line Plain line → Begins line source form given → (source ≡ Words) × (form ≡ Plain) × (given ≡ line)
  no-options source form given a b h = elim h [
    | inl s ↦ absurd (s.is_said (no-source source s.behind a s.asks_source).0)
    | inr f ↦
        (let (plain, behind) = no-form form f.behind b f.asks_form in
        let (words, all) = no-source source given a (subst (λ k. AsksSource k source given) behind f.asks_source) in
        (words, plain, all))
  ]

  wrong-name : (fault : Fault) → BeginsWrongly line → fault ≡ Usage → ForbidsAnswer Plain line fault
  wrong-name fault h e = named line h e
    where
      named : (ws : List (List ℕ)) → BeginsWrongly ws → fault ≡ Usage → ForbidsAnswer Plain ws fault
      named [] wrong u = absurd wrong
      named (word ∷ rest) wrong u = inl (wrong.0, u)

  own-words : (remaining : Option (List ℕ)) (words : List (List ℕ)) → EndsInNoDash line → StandFor Words line remaining words → words ≡ line
  own-words remaining words without h = elim h [
    | inl own ↦ own.1
    | inr put ↦ absurd (without put.0 put.1)
  ]

  pub alone-answer : (remaining : Option (List ℕ)) (text : List ℕ) → StandsAlone line → AnswersLine line remaining text → Answers Plain line text
  alone-answer remaining text alone h = elim h [
    | inl page ↦ absurd (alone.0 page.0 page.1)
    | inr a ↦
        (let (words, plain, all) = no-options a.source a.form a.given alone.1 alone.2 a.begins in
        let stands : StandFor Words line remaining a.words = subst (λ s. StandFor s line remaining a.words) words (subst (λ k. StandFor a.source k remaining a.words) all a.stands) in
        subst (λ f. Answers f line text) plain (subst (λ ws. Answers a.form ws text) (own-words remaining a.words alone.3 stands) a.answer))
  ]

  pub alone-fault : (remaining : Option (List ℕ)) (fault : Fault) → StandsAlone line → ForbidsLine line remaining fault → ForbidsAnswer Plain line fault
  alone-fault remaining fault alone h = elim h [
    | inl page ↦ absurd (alone.0 page.0.0 page.0.1)
    | inr a ↦
        (let (words, plain, all) = no-options a.source a.form a.given alone.1 alone.2 a.begins in
        elim a.why [
          | inl wrong ↦ wrong-name fault (subst BeginsWrongly all wrong.0) wrong.1
          | inr right ↦ elim right.1 [
            | inl none ↦
                (let asks : StandForNone Words line remaining fault = subst (λ s. StandForNone s line remaining fault) words (subst (λ k. StandForNone a.source k remaining fault) all none) in
                absurd (alone.3 asks.0.0 asks.0.1))
            | inr why ↦
                (let stands : StandFor Words line remaining why.0 = subst (λ s. StandFor s line remaining why.0) words (subst (λ k. StandFor a.source k remaining why.0) all why.1) in
                subst (λ f. ForbidsAnswer f line fault) plain (subst (λ ws. ForbidsAnswer a.form ws fault) (own-words remaining why.0 alone.3 stands) why.2))
          ]
        ])
  ]

  -- it asks for no input, in which a fault could be
  pub alone-place : (place : List ℕ) → StandsAlone line → IsPlaceOf line place → place ≡ []
  alone-place place alone h = elim h [
    | inl none ↦ none
    | inr told ↦
        (let r = told.0 in
        let (words, plain, all) = no-options r.source r.form r.given alone.1 alone.2 r.begins in
        let asks : AsksInput Words line = subst (λ s. AsksInput s line) words (subst (λ k. AsksInput r.source k) all r.asks) in
        absurd (alone.3 asks.0 asks.1))
  ]
