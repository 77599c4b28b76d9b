-- What is kept of a list, place by place.
use Rattle.std.proofs.Common.{◌≡◌, ℕ, zero, suc, ◌<◌, ◌||◌, nat_eq, Bool, true, false, cond, List, [], ◌∷◌, ◌++◌, length, get_or, refl, sym, ap, ◌∙◌, arith, inl, inr}
use Rattle.std.proofs.lemmas.Bool.{or_cases}
use Rattle.std.proofs.lemmas.Bool.Decides.{nat_tests}
use Rattle.ndarray.specs.PartialFolds.{AreApart, EndsBefore, KeepsOneMore, kept_by_either}
use Rattle.ndarray.specs.Sums.{select}
use Rattle.ndarray.proofs.sums.Selections.{at_front, select-none}

pub select-same : {A : Type 0} (p q : ℕ → Bool) (xs : List A) → ((i : ℕ) → i < length xs → p i ≡ q i) → select p xs ≡ select q xs
select-same p q [] h = refl
select-same p q (x ∷ xs) h =
    let here : p 0 ≡ q 0 = h 0 (omega arith) in
    let rest = select-same (λ i. p (suc i)) (λ i. q (suc i)) xs (λ i l. h (suc i) (omega arith)) in
    rw (here, rest) refl

pub select-all : {A : Type 0} (xs : List A) → select (λ _. true) xs ≡ xs
select-all [] = refl
select-all (x ∷ xs) = ap (λ l. x ∷ l) (select-all xs)

put_last : {A : Type 0} (b : Bool) (x y : A) (l : List A) → cond b (x ∷ (l ++ (y ∷ []))) (l ++ (y ∷ [])) ≡ cond b (x ∷ l) l ++ (y ∷ [])
put_last true x y l = refl
put_last false x y l = refl

-- one more place, behind all that are kept
select-push : {A : Type 0} (p q : ℕ → Bool) (xs : List A) (i : ℕ) (d : A) → i < length xs → ((k : ℕ) → k < i → q k ≡ p k) → q i ≡ true → ((k : ℕ) → i < k → q k ≡ false) → EndsBefore p i → select q xs ≡ select p xs ++ (get_or xs i d ∷ [])
select-push p q [] i d l same at above none = absurd (omega arith)
select-push p q (x ∷ xs) zero d l same at above none =
    let p0 : p 0 ≡ false = none 0 (omega arith) in
    let ps = select-same (λ i. p (suc i)) (λ _. false) xs (λ i l. none (suc i) (omega arith)) ∙ select-none xs in
    let qs = select-same (λ i. q (suc i)) (λ _. false) xs (λ i l. above (suc i) (omega arith)) ∙ select-none xs in
    rw (p0, at, ps, qs) refl
select-push p q (x ∷ xs) (suc i) d l same at above none =
    let here : q 0 ≡ p 0 = same 0 (omega arith) in
    let rest = select-push (λ k. p (suc k)) (λ k. q (suc k)) xs i d (omega arith) (λ k h. same (suc k) (omega arith)) at (λ k h. above (suc k) (omega arith)) (λ k h. none (suc k) (omega arith)) in
    rw (here, rest) (put_last (p 0) x (get_or xs i d) (select (λ k. p (suc k)) xs))

-- one place more, behind all that are kept
pub one_more : (keep : ℕ → Bool) (i : ℕ) → (next : ℕ → Bool) × (EndsBefore keep i → KeepsOneMore keep i next)
one_more keep i = (
  (λ k. keep k || nat_eq k i),
  λ ends. record {
    ends = ends;
    before = λ k lt. grind (arith, nat_tests);
    here = grind (arith, nat_tests);
    behind = λ k gt. (let none = ends k (omega arith) in grind (arith, nat_tests));
  },
)

-- where one place more is kept, its element is the last
pub select-more : {A : Type 0} (keep next : ℕ → Bool) (xs : List A) (i : ℕ) (x : A) → i < length xs → KeepsOneMore keep i next → x ≡ get_or xs i x → select next xs ≡ select keep xs ++ (x ∷ [])
select-more keep next xs i x l more is =
    select-push keep next xs i x l more.before more.here more.behind more.ends ∙ ap (λ t. select keep xs ++ (t ∷ [])) (sym is)

pub apart_none : (p : ℕ → Bool) → AreApart (λ _. false) p
apart_none p i h k = cc

pub apart_left : (p q r : ℕ → Bool) → AreApart p r → AreApart q r → AreApart (kept_by_either p q) r
apart_left p q r h k i e f = elim (or_cases (p i) (q i) e) [ inl a ↦ h i a f | inr b ↦ k i b f ]

pub apart_right : (r p q : ℕ → Bool) → AreApart r p → AreApart r q → AreApart r (kept_by_either p q)
apart_right r p q h k i f e = elim (or_cases (p i) (q i) e) [ inl a ↦ h i f a | inr b ↦ k i f b ]

-- a selection of a selection is one
selected : {A : Type 0} (b : Bool) (x : A) (l : List A) (xs : List A) (q : ℕ → Bool) → ((r : ℕ → Bool) × (select (λ i. q (suc i)) l ≡ select r xs)) → ((r : ℕ → Bool) × (select q l ≡ select r xs)) → (r : ℕ → Bool) × (select q (cond b (x ∷ l) l) ≡ select r (x ∷ xs))
selected true x l xs q w u = (at_front (q 0) w.0, ap (λ t. cond (q 0) (x ∷ t) t) w.1)
selected false x l xs q w u = (at_front false u.0, u.1)

pub select-select : {A : Type 0} (p q : ℕ → Bool) (xs : List A) → (r : ℕ → Bool) × (select q (select p xs) ≡ select r xs)
select-select p q [] = ((λ _. false), refl)
select-select p q (x ∷ xs) =
    selected (p 0) x (select (λ i. p (suc i)) xs) xs q (select-select (λ i. p (suc i)) (λ i. q (suc i)) xs) (select-select (λ i. p (suc i)) q xs)
