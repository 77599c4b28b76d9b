-- `fold` over producers: by an invariant, or by a function that the closure computes.
use Rattle.std.proofs.Common.{◌≡◌, List, [], ◌∷◌, ◌++◌, refl, sym, subst, ap, ◌∙◌, append_assoc, append-nil}
use Rattle.std.proofs.lemmas.List.Sums.{fold-append}
use Rattle.std.specs.List.{FoldsTo, fold}
use Rattle.ndarray.specs.Runs.{MayTurnAt}

module _ {P X : Type 0} (turn : P → X → P → Type 0) (J : List X → P → Type 0) (keeps : (done : List X) (q : P) (i : X) (r : P) → J done q → turn q i r → J (done ++ (i ∷ [])) r) where
  chain : (done is : List X) (p q : P) → J done p → FoldsTo turn p is q → J (done ++ is) q
  chain done [] p q j f = subst (λ l. J l q) (sym (append-nil done)) (subst (J done) f j)
  chain done (i ∷ is) p q j f = let (m, t, h) = f in subst (λ l. J l q) (append_assoc done (i ∷ []) is) (chain (done ++ (i ∷ [])) is m q (keeps done p i m j t) h)

  -- J holds at the end
  pub turns-by : (is : List X) (p q : P) → J [] p → FoldsTo turn p is q → J is q
  turns-by is p q j f = chain [] is p q j f

  -- the turns may be taken where J allows them
  pub may-by : (takes : P → X → Type 0) (is : List X) (p : P) → J [] p
      → (ok : (done : List X) (i : X) (rest : List X) (q : P) → done ++ (i ∷ rest) ≡ is → J done q → takes q i) → MayTurnAt turn takes p is
  may-by takes is p j ok = record { at = λ done i rest q e f. ok done i rest q e (turns-by done p q j f) }

-- each turn from f leaves it as it was, and gives what h gives
abbrev pub Follows : {F B X : Type 0} → (F × B → X → F × B → Type 0) → F → (B → X → B) → Type 0
Follows {F} {B} {X} turn f h = (b : B) (i : X) (q : F × B) → turn (f, b) i q → (q.0 ≡ f) × (q.1 ≡ h b i)

module _ {F B X : Type 0} (turn : F × B → X → F × B → Type 0) (f : F) (h : B → X → B) (s : Follows turn f h) where
  keeps-fold : (init : B) (done : List X) (q : F × B) (i : X) (r : F × B) → (q.0 ≡ f) × (q.1 ≡ fold h init done) → turn q i r → (r.0 ≡ f) × (r.1 ≡ fold h init (done ++ (i ∷ [])))
  keeps-fold init done q i r j t =
      let u = s q.1 i r (subst (λ k. turn (k, q.1) i r) j.0 t) in
      (u.0, u.1 ∙ ap (λ b. h b i) j.1 ∙ sym (fold-append h init done (i ∷ [])))

  -- the last total is the fold by h
  pub fold-follows : (init : B) (is : List X) (q : F × B) → FoldsTo turn (f, init) is q → q.1 ≡ fold h init is
  fold-follows init is q c = (turns-by turn (λ done q. (q.0 ≡ f) × (q.1 ≡ fold h init done)) (keeps-fold init) is (f, init) q (refl, refl) c).1

  -- the turns may be taken where f may be called at the folds by h
  pub may-follow : (takes : F × B → X → Type 0) (init : B) (is : List X)
      → ((done : List X) (i : X) (rest : List X) → done ++ (i ∷ rest) ≡ is → takes (f, fold h init done) i) → MayTurnAt turn takes (f, init) is
  may-follow takes init is ok =
      may-by turn (λ done q. (q.0 ≡ f) × (q.1 ≡ fold h init done)) (keeps-fold init) takes is (f, init) (refl, refl)
      (λ done i rest q e j. subst (λ k. takes k i) (λ t. (sym j.0 t, sym j.1 t)) (ok done i rest e))
