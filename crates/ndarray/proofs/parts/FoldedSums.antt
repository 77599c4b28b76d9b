-- Folds that add up: of a summable list they can be made part by part.
use Rattle.std.proofs.Common.{◌≡◌, ℕ, ◌<◌, Bool, List, [], ◌∷◌, length, get_or, map, refl, sym, ap, subst, ◌∙◌}
use Rattle.std.specs.List.{FoldsTo}
use Rattle.ndarray.specs.Algebra.{CommutativeMonoid}
use Rattle.ndarray.specs.PartialFolds.{AreApart, EndsBefore, FoldsByParts, IsFoldOf, kept_by_either}
use Rattle.ndarray.specs.Sums.{IsSummableBy, select, total, total_by}
use Rattle.ndarray.proofs.parts.KeptPlaces.{one_more}
use Rattle.ndarray.proofs.parts.SummedParts.{sum-joined, sum-more, summable-selected}
use Rattle.ndarray.proofs.sums.RunningSum.{RunningSum, RunningSum-end, RunningSum-in_range, RunningSum-start, RunningSum-step}
use Rattle.ndarray.proofs.sums.Selections.{IsSummableBy-map, total_by-map}

module _ {A C : Type 0} (M : CommutativeMonoid C) (P : C → Type 0) (v : A → C) (gives : A → A → A → Type 0) where
  -- where the next is in range, it is the sum
  abbrev AddsUp : Type 0
  AddsUp = (a b r : A) → P (M.op (v a) (v b)) → gives a b r → v r ≡ M.op (v a) (v b)

  fold-value : AddsUp → (whole : List C) (a r : A) (ys : List A) → RunningSum M P whole (map v ys) (v a) → FoldsTo gives a ys r → v r ≡ total M whole
  fold-value adds whole a r [] h e = ap v (sym e) ∙ RunningSum-end M P whole [] (v a) refl h
  fold-value adds whole a r (y ∷ ys) h e =
      let k = adds a y e.0 (RunningSum-in_range M P whole (map v (y ∷ ys)) (map v ys) (v y) (v a) refl h) e.1 in
      fold-value adds whole e.0 r ys (RunningSum-step M P whole (map v (y ∷ ys)) (map v ys) (v y) (v a) refl h (v e.0) k) e.2

  -- the fold of a summable list has the value of the sum
  pub folded-value : (xs : List A) → IsSummableBy M P v xs → (z r : A) → FoldsTo gives z xs r → v z ≡ M.unit → AddsUp → v r ≡ total_by M v xs
  folded-value xs fits z r f begins adds =
      fold-value adds (map v xs) z r xs (RunningSum-start M P (map v xs) (map v xs) (v z) refl begins ((IsSummableBy-map M v P xs).0 fits)) f ∙ sym (total_by-map M v xs)

module _ {A C : Type 0} (M : CommutativeMonoid C) (P : C → Type 0) (v : A → C) (starts : A → Type 0) (can : A → A → Type 0) (gives : A → A → A → Type 0)
    (begins : (z : A) → starts z → v z ≡ M.unit)
    (may : (a b : A) → P (M.op (v a) (v b)) → can a b)
    (some : (a b : A) → P (M.op (v a) (v b)) → (r : A) × gives a b r)
    (adds : (a b r : A) → P (M.op (v a) (v b)) → gives a b r → v r ≡ M.op (v a) (v b))
    (same : (a b : A) → v a ≡ v b → a ≡ b) where
  fold-exists : (whole : List C) (a : A) (ys : List A) → RunningSum M P whole (map v ys) (v a) → (r : A) × FoldsTo gives a ys r
  fold-exists whole a [] h = (a, refl)
  fold-exists whole a (y ∷ ys) h =
      let fits = RunningSum-in_range M P whole (map v (y ∷ ys)) (map v ys) (v y) (v a) refl h in
      let w = some a y fits in
      let k = adds a y w.0 fits w.1 in
      let t = fold-exists whole w.0 ys (RunningSum-step M P whole (map v (y ∷ ys)) (map v ys) (v y) (v a) refl h (v w.0) k) in
      (t.0, (w.0, w.1, t.1))

  module _ (xs : List A) (fits : IsSummableBy M P v xs) where
    running : (z : A) → starts z → (keep : ℕ → Bool) → RunningSum M P (map v (select keep xs)) (map v (select keep xs)) (v z)
    running z s keep =
        RunningSum-start M P (map v (select keep xs)) (map v (select keep xs)) (v z) refl (begins z s)
        ((IsSummableBy-map M v P (select keep xs)).0 (summable-selected M v P keep xs fits))

    -- the fold of a part has the value of its sum
    part-value : (keep : ℕ → Bool) (r : A) → IsFoldOf starts gives xs keep r → v r ≡ total_by M v (select keep xs)
    part-value keep r h =
        folded-value M P v gives (select keep xs) (summable-selected M v P keep xs fits) h.0 r h.1.1 (begins h.0 h.1.0) adds

    joined-in_range : (p q : ℕ → Bool) → AreApart p q → (a b : A) → IsFoldOf starts gives xs p a → IsFoldOf starts gives xs q b → P (M.op (v a) (v b))
    joined-in_range p q apart a b f g =
        subst P (sum-joined M v xs p q (kept_by_either p q) (record { apart = apart; union = λ k. refl }) (v a) (v b) (part-value p a f) (part-value q b g)) (fits (kept_by_either p q))

    step-in_range : (keep : ℕ → Bool) (i : ℕ) → i < length xs → EndsBefore keep i → (a x : A) → IsFoldOf starts gives xs keep a → x ≡ get_or xs i x → P (M.op (v a) (v x))
    step-in_range keep i inside ends a x f is =
        let next = one_more keep i in
        subst P (sum-more M v xs i x inside is keep next.0 (next.1 ends) ∙ ap (λ t. M.op t (v x)) (sym (part-value keep a f))) (fits next.0)

    joined : (p q : ℕ → Bool) → AreApart p q → (a b : A) → IsFoldOf starts gives xs p a → IsFoldOf starts gives xs q b → (r : A) → gives a b r → IsFoldOf starts gives xs (kept_by_either p q) r
    joined p q apart a b f g r h =
        let both = kept_by_either p q in
        let w = fold-exists (map v (select both xs)) f.0 (select both xs) (running f.0 f.1.0 both) in
        let fold : IsFoldOf starts gives xs both w.0 = (f.0, (f.1.0, w.1)) in
        let e : v r ≡ v w.0 =
        adds a b r (joined-in_range p q apart a b f g) h
        ∙ (sym (sum-joined M v xs p q both (record { apart = apart; union = λ k. refl }) (v a) (v b) (part-value p a f) (part-value q b g))
        ∙ sym (part-value both w.0 fold)) in
        subst (IsFoldOf starts gives xs both) (sym (same r w.0 e)) fold

    pub sums-by_parts : FoldsByParts starts can gives xs
    sums-by_parts = record {
      one_start = λ y z s t. same y z (begins y s ∙ sym (begins z t));
      may_step = λ keep i inside ends a x f is. may a x (step-in_range keep i inside ends a x f is);
      may_join = λ p q apart a b f g. may a b (joined-in_range p q apart a b f g);
      joins = joined;
    }
