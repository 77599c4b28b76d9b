-- A list that is rearranged keeps its sum, and the sums of its selections.
use Rattle.std.proofs.Common.{◌≡◌, ℕ, suc, zero, ◌<◌, Bool, true, false, List, [], ◌∷◌, length, map, set, get_or, refl, sym, ap, ◌∙◌, arith, subst}
use Rattle.std.specs.Prelude.{IsPermutation, if◌then◌else◌}
use Rattle.std.specs.List.{swap}
use Rattle.std.proofs.lemmas.List.Sorted.{IsPermutation-keeps, IsPermutation-map}
use Rattle.ndarray.specs.Algebra.{CommutativeMonoid}
use Rattle.ndarray.specs.Sums.{total, total_by, select, IsSummable, IsSummableBy}
use Rattle.ndarray.proofs.sums.Selections.{IsSummableBy-map, total_by-map}

-- b for the first place, and keep for those behind it
abbrev first_then : Bool → (ℕ → Bool) → ℕ → Bool
first_then b keep zero = b
first_then b keep (suc i) = keep i

module _ {C : Type 0} (M : CommutativeMonoid C) where
  op-exchange : (u v t : C) → M.op u (M.op v t) ≡ M.op v (M.op u t)
  op-exchange u v t = sym (M.associates u v t) ∙ (ap (λ w. M.op w t) (M.commutes u v) ∙ M.associates v u t)

  -- t with u before it, if b
  with_if : Bool → C → C → C
  with_if true u t = M.op u t
  with_if false u t = t

  with_if-exchange : (b c : Bool) (u v t : C) → with_if b u (with_if c v t) ≡ with_if c v (with_if b u t)
  unfolding with_if
  with_if-exchange true true u v t = op-exchange u v t
  with_if-exchange true false u v t = refl
  with_if-exchange false true u v t = refl
  with_if-exchange false false u v t = refl

  total-select : (keep : ℕ → Bool) (x : C) (xs : List C) → total M (select keep (x ∷ xs)) ≡ with_if (keep 0) x (total M (select (λ i. keep (suc i)) xs))
  unfolding with_if
  total-select keep x xs = go (keep 0) (select (λ i. keep (suc i)) xs)
    where
      go : (b : Bool) (r : List C) → total M (if b then x ∷ r else r) ≡ with_if b x (total M r)
      go true r = refl
      go false r = refl

  -- x for the k-th value, which comes before
  total-moved : (x d : C) (xs : List C) (k : ℕ) → k < length xs → M.op (get_or xs k d) (total M (set xs k x)) ≡ M.op x (total M xs)
  total-moved x d [] k h = absurd (omega arith)
  total-moved x d (y ∷ ys) zero h = op-exchange y x (total M ys)
  total-moved x d (y ∷ ys) (suc k) h = op-exchange (get_or ys k d) y (total M (set ys k x)) ∙ (ap (M.op y) (total-moved x d ys k (omega arith)) ∙ op-exchange y x (total M ys))

  total-exchanged : (d : C) (l : List C) (i j : ℕ) → i < length l → j < length l → total M (set (set l i (get_or l j d)) j (get_or l i d)) ≡ total M l
  total-exchanged d [] i j p q = absurd (omega arith)
  total-exchanged d (x ∷ xs) zero zero p q = refl
  total-exchanged d (x ∷ xs) zero (suc j) p q = total-moved x d xs j (omega arith)
  total-exchanged d (x ∷ xs) (suc i) zero p q = total-moved x d xs i (omega arith)
  total-exchanged d (x ∷ xs) (suc i) (suc j) p q = ap (M.op x) (total-exchanged d xs i j (omega arith) (omega arith))

  select-moved : (x d : C) (xs : List C) (k : ℕ) → k < length xs → (b : Bool) (keep : ℕ → Bool)
      → (c : Bool) × ((kept : ℕ → Bool) × (with_if b (get_or xs k d) (total M (select keep (set xs k x))) ≡ with_if c x (total M (select kept xs))))
  select-moved x d [] k h b keep = absurd (omega arith)
  select-moved x d (y ∷ ys) zero h b keep =
      let rest : C = total M (select (λ i. keep (suc i)) ys) in (
        keep 0,
        (
          first_then b (λ i. keep (suc i)),
          ap (with_if b y) (total-select keep x ys) ∙ (with_if-exchange b (keep 0) y x rest ∙ ap (with_if (keep 0) x) (sym (total-select (first_then b (λ i. keep (suc i))) y ys))),
        ),
      )
  select-moved x d (y ∷ ys) (suc k) h b keep =
      let ih = select-moved x d ys k (omega arith) b (λ i. keep (suc i)) in
      let kept : ℕ → Bool = first_then (keep 0) ih.1.0 in (
        ih.0,
        (
          kept,
          ap (with_if b (get_or ys k d)) (total-select keep y (set ys k x))
              ∙ (with_if-exchange b (keep 0) (get_or ys k d) y (total M (select (λ i. keep (suc i)) (set ys k x)))
              ∙ (ap (with_if (keep 0) y) ih.1.1
              ∙ (with_if-exchange (keep 0) ih.0 y x (total M (select ih.1.0 ys))
              ∙ ap (with_if ih.0 x) (sym (total-select kept y ys))))),
        ),
      )

  select-first : (d x : C) (xs : List C) (j : ℕ) → j < length xs → (keep : ℕ → Bool) → (kept : ℕ → Bool) × (total M (select keep (get_or xs j d ∷ set xs j x)) ≡ total M (select kept (x ∷ xs)))
  select-first d x xs j h keep =
      let m = select-moved x d xs j h (keep 0) (λ i. keep (suc i)) in
      let kept : ℕ → Bool = first_then m.0 m.1.0 in
      (kept, total-select keep (get_or xs j d) (set xs j x) ∙ (m.1.1 ∙ sym (total-select kept x xs)))

  select-exchanged : (d : C) (l : List C) (i j : ℕ) → i < length l → j < length l → (keep : ℕ → Bool)
      → (kept : ℕ → Bool) × (total M (select keep (set (set l i (get_or l j d)) j (get_or l i d))) ≡ total M (select kept l))
  select-exchanged d [] i j p q keep = absurd (omega arith)
  select-exchanged d (x ∷ xs) zero zero p q keep = (keep, refl)
  select-exchanged d (x ∷ xs) zero (suc j) p q keep = select-first d x xs j (omega arith) keep
  select-exchanged d (x ∷ xs) (suc i) zero p q keep = select-first d x xs i (omega arith) keep
  select-exchanged d (x ∷ xs) (suc i) (suc j) p q keep =
      let ih = select-exchanged d xs i j (omega arith) (omega arith) (λ k. keep (suc k)) in
      let kept : ℕ → Bool = first_then (keep 0) ih.0 in
      (kept, total-select keep x (set (set xs i (get_or xs j d)) j (get_or xs i d)) ∙ (ap (with_if (keep 0) x) ih.1 ∙ sym (total-select kept x xs)))

  pub total-rearranged : (xs ys : List C) → IsPermutation xs ys → total M ys ≡ total M xs
  total-rearranged xs ys h = IsPermutation-keeps xs (λ l. total M l ≡ total M xs) refl (λ l i j p q e. step l i j p q ∙ e) ys h
    where
      step : (l : List C) (i j : ℕ) → i < length l → j < length l → total M (swap l i j) ≡ total M l
      step [] i j p q = refl
      step (d ∷ l) i j p q = total-exchanged d (d ∷ l) i j p q

  pub IsSummable-rearranged : (P : C → Type 0) (xs ys : List C) → IsPermutation xs ys → IsSummable M P xs → IsSummable M P ys
  IsSummable-rearranged P xs ys h s = IsPermutation-keeps xs (IsSummable M P) s step ys h
    where
      step : (l : List C) (i j : ℕ) → i < length l → j < length l → IsSummable M P l → IsSummable M P (swap l i j)
      step [] i j p q e = e
      step (d ∷ l) i j p q e = λ keep. let k = select-exchanged d (d ∷ l) i j p q keep in subst P (sym k.1) (e k.0)

-- the same of the values of elements
module _ {A C : Type 0} (M : CommutativeMonoid C) (value : A → C) where
  pub total_by-rearranged : (xs ys : List A) → IsPermutation xs ys → total_by M value ys ≡ total_by M value xs
  total_by-rearranged xs ys h =
      total_by-map M value ys ∙ (total-rearranged M (map value xs) (map value ys) (IsPermutation-map value xs ys h) ∙ sym (total_by-map M value xs))

  pub summable_by-rearranged : (P : C → Type 0) (xs ys : List A) → IsPermutation xs ys → IsSummableBy M P value xs → IsSummableBy M P value ys
  summable_by-rearranged P xs ys h s =
      (IsSummableBy-map M value P ys).1 (IsSummable-rearranged M P (map value xs) (map value ys) (IsPermutation-map value xs ys h) ((IsSummableBy-map M value P xs).0 s))
