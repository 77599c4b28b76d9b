-- Places a step apart, and the cells of a row that lie there.
use Rattle.std.proofs.Common.{◌≡◌, ℕ, ◌+◌, ◌-◌, ◌*◌, ◌%◌, ◌<◌, ◌≤◌, ◌^◌, suc, zero, List, [], ◌∷◌, ◌++◌, length, drop, set, get_or, zip, Option, Some, None, refl, sym, ◌∙◌, ap, arith, subst, inl, inr}
use Rattle.std.specs.Prelude.{filter_map, All, IsTrue}
use Rattle.std.specs.Option.{is_some}
use Rattle.std.specs.Iterator.{YieldsFirstBy}
use Rattle.std.proofs.lemmas.List.{take-append-drop, map-append, length-set, set-get_or, set_past, get_or_past, length-append, get_or_append_left, set-set, get_or-set_same}
use Rattle.std.proofs.lemmas.List.Elements.{All-cons, All-head, All-tail, All-take, All-drop, filter_map-append}
use Rattle.std.proofs.Math.Nat.{mod-add-mod, add-mod-mod}
use Rattle.std.proofs.lemmas.Bool.{cases_lt}
use Rattle.ndarray.specs.Index.{InBox}
use Rattle.ndarray.specs.Grid.{cell}
use Rattle.ndarray.specs.base.Ranks.{row_from}
use Rattle.ndarray.specs.order.Walks.{TakesRow}
use Rattle.ndarray.specs.base.Places.{dot, place, Reaches, grid_at}
use Rattle.ndarray.specs.base.Strided.{places_from, HaveElements}
use Rattle.ndarray.specs.places.ElementPlaces.{places_along, with_places}
use Rattle.ndarray.proofs.lists.Elements.{length-filter_map_all, some-of, get_or-append-last}
use Rattle.ndarray.proofs.strides.Reach.{cell-at, dot-set}

pub places_from-some : (p s left : ℕ) → 0 < left → places_from p s left ≡ p ∷ places_from ((p + s) % 2 ^ 64) s (left - 1)
places_from-some p s zero h = absurd (omega arith)
places_from-some p s (suc n) h = ap (λ m. p ∷ places_from ((p + s) % 2 ^ 64) s m) (let e : n ≡ suc n - 1 = omega arith in e)

pub length-places_from : (p s n : ℕ) → length (places_from p s n) ≡ n
length-places_from p s zero = refl
length-places_from p s (suc n) = let ih = length-places_from ((p + s) % 2 ^ 64) s n in omega arith

module _ {A : Type 0} (at : ℕ → Option A) where
  pub length-step_index : (p s n : ℕ) → HaveElements at (places_from p s n) → length (filter_map at (places_from p s n)) ≡ n
  length-step_index p s n h = length-filter_map_all at (places_from p s n) (λ k d lt. some-of (at (get_or (places_from p s n) k d)) (h k d lt)) ∙ length-places_from p s n

  pub step_index-next : (p s left : ℕ) (x : A) → 0 < left → at p ≡ Some x → filter_map at (places_from p s left) ≡ x ∷ filter_map at (places_from ((p + s) % 2 ^ 64) s (left - 1))
  step_index-next p s left x h e = rw (places_from-some p s left h, e) refl

  pub step_index-first : (p s left : ℕ) → 0 < left → HaveElements at (places_from p s left) → IsTrue (is_some (at p)) × HaveElements at (places_from ((p + s) % 2 ^ 64) s (left - 1))
  step_index-first p s left h t =
      let rest : List ℕ = places_from ((p + s) % 2 ^ 64) s (left - 1) in
      let P : ℕ → Type 0 = λ q. IsTrue (is_some (at q)) in
      let w : All P (p ∷ rest) = subst (All P) (places_from-some p s left h) t in
      (All-head P p rest w, All-tail P p rest w)

-- one index more on an axis is one stride more
pub place-more : (start : ℕ) (bs is : List ℕ) (k : ℕ) → length bs ≡ length is → k < length is → (place start bs is + get_or bs k 0) % 2 ^ 64 ≡ place start bs (set is k (get_or is k 0 + 1))
unfolding place
place-more start bs is k l lt =
    let b : ℕ = get_or bs k 0 in
    let d = dot-set bs is k b (get_or is k 0 + 1) l lt in
    let same : dot (set bs k b) (set is k (get_or is k 0 + 1)) ≡ dot bs (set is k (get_or is k 0 + 1)) = ap (λ cs. dot cs (set is k (get_or is k 0 + 1))) (set-get_or bs k 0) in
    mod-add-mod (start + dot bs is) (2 ^ 64) b ∙ ap (λ x. x % 2 ^ 64) (let e : start + dot bs is + b ≡ start + dot bs (set is k (get_or is k 0 + 1)) = omega arith in e)

module _ {A one : Type 0} (at : ℕ → Option A) (ns : List ℕ) (start : ℕ) (bs : List ℕ) (h : Reaches one at ns start bs) where
  cell-there : (is : List ℕ) → InBox ns is → (x : A) × ((at (place start bs is) ≡ Some x) × (cell (grid_at at ns start bs) is ≡ Some x))
  cell-there is b = let s = some-of (at (place start bs is)) (h.inside is b) in (s.0, (s.1, cell-at at ns start bs h is b ∙ s.1))

  -- the cells of a row lie a step apart
  pub row-at : (axis s : ℕ) → ((is : List ℕ) → InBox ns is → (place start bs is + s) % 2 ^ 64 ≡ place start bs (set is axis (get_or is axis 0 + 1)))
      → (n : ℕ) (is : List ℕ) (p : ℕ) → All (InBox ns) (row_from is axis n) → (0 < n → p ≡ place start bs is)
      → HaveElements at (places_from p s n) × (filter_map at (places_from p s n) ≡ filter_map (cell (grid_at at ns start bs)) (row_from is axis n))
  row-at axis s more zero is p b e = ((λ k d l. absurd (omega arith)), refl)
  row-at axis s more (suc n) is p b e =
      let js : List ℕ = set is axis (get_or is axis 0 + 1) in
      let inside : InBox ns is = All-head (InBox ns) is (row_from js axis n) b in
      let here = e (omega arith) in
      let found = cell-there is inside in
      let there : at p ≡ Some found.0 = ap at here ∙ found.1.0 in
      let next : (p + s) % 2 ^ 64 ≡ place start bs js = ap (λ q. (q + s) % 2 ^ 64) here ∙ more is inside in
      let ih = row-at axis s more n js ((p + s) % 2 ^ 64) (All-tail (InBox ns) is (row_from js axis n) b) (λ some. next) in
      let P : ℕ → Type 0 = λ q. IsTrue (is_some (at q)) in
      (All-cons P p (places_from ((p + s) % 2 ^ 64) s n) (subst (λ o. IsTrue (is_some o)) (sym there) refl) ih.0, rw (there, found.1.1, ih.1) refl)

-- an axis that is not there moves nothing
pub place-none : (start : ℕ) (bs is : List ℕ) (k : ℕ) → length is ≤ k → (place start bs is + 0) % 2 ^ 64 ≡ place start bs (set is k (get_or is k 0 + 1))
unfolding place
place-none start bs is k past =
    mod-add-mod (start + dot bs is) (2 ^ 64) 0 ∙ (ap (λ x. x % 2 ^ 64) (let e : start + dot bs is + 0 ≡ start + dot bs is = omega arith in e) ∙ ap (λ js. (start + dot bs js) % 2 ^ 64) (sym (set_past is k (get_or is k 0 + 1) past)))

pub row-first : (P : List ℕ → Type 0) (is : List ℕ) (axis n : ℕ) → 0 < n → All P (row_from is axis n) → P is
row-first P is axis zero h b = absurd (omega arith)
row-first P is axis (suc n) h b = All-head P is (row_from (set is axis (get_or is axis 0 + 1)) axis n) b

pub place-any : (start : ℕ) (bs is : List ℕ) (k : ℕ) → length bs ≡ length is → (place start bs is + get_or bs k 0) % 2 ^ 64 ≡ place start bs (set is k (get_or is k 0 + 1))
place-any start bs is k l = elim (cases_lt k (length is)) [
  | inl lt ↦ place-more start bs is k l lt
  | inr past ↦ (let none : get_or bs k 0 ≡ 0 = get_or_past bs k 0 (omega (arith, past)) in rw none (place-none start bs is k past))
]

-- the last of the places
last-place : (p s k : ℕ) → (((p + s) % 2 ^ 64) + (k * s) % 2 ^ 64) % 2 ^ 64 ≡ (p + (suc k * s) % 2 ^ 64) % 2 ^ 64
last-place p s k =
    mod-add-mod (p + s) (2 ^ 64) ((k * s) % 2 ^ 64) ∙ (add-mod-mod (p + s) (k * s) (2 ^ 64)
    ∙ (ap (λ x. x % 2 ^ 64) (let e : p + s + k * s ≡ p + suc k * s = omega arith in e) ∙ sym (add-mod-mod p (suc k * s) (2 ^ 64))))

places_from-push : (n p s : ℕ) → p < 2 ^ 64 → places_from p s (suc n) ≡ places_from p s n ++ ((p + (n * s) % 2 ^ 64) % 2 ^ 64) ∷ []
places_from-push zero p s h = ap (λ q. q ∷ []) (let e : p ≡ (p + (0 * s) % 2 ^ 64) % 2 ^ 64 = omega arith in e)
places_from-push (suc k) p s h =
    let ih = places_from-push k ((p + s) % 2 ^ 64) s (omega arith) in
    ap (λ l. p ∷ l) (ih ∙ ap (λ q. places_from ((p + s) % 2 ^ 64) s k ++ q ∷ []) (last-place p s k))

pub places_from-last : (p s left : ℕ) → p < 2 ^ 64 → 0 < left → places_from p s left ≡ places_from p s (left - 1) ++ ((p + ((left - 1) * s) % 2 ^ 64) % 2 ^ 64) ∷ []
places_from-last p s zero h some = absurd (omega arith)
places_from-last p s (suc n) h some = places_from-push n p s h ∙ ap (λ m. places_from p s m ++ ((p + (m * s) % 2 ^ 64) % 2 ^ 64) ∷ []) (let e : n ≡ suc n - 1 = omega arith in e)

module _ {A : Type 0} (at : ℕ → Option A) (p s left : ℕ) (fits : p < 2 ^ 64) (some : 0 < left) (h : HaveElements at (places_from p s left)) where
  pub step_index-last : IsTrue (is_some (at ((p + ((left - 1) * s) % 2 ^ 64) % 2 ^ 64))) × HaveElements at (places_from p s (left - 1))
  step_index-last =
      let rest : List ℕ = places_from p s (left - 1) in
      let q : ℕ = (p + ((left - 1) * s) % 2 ^ 64) % 2 ^ 64 in
      let P : ℕ → Type 0 = λ r. IsTrue (is_some (at r)) in
      let w : All P (rest ++ q ∷ []) = subst (All P) (places_from-last p s left fits some) h in
      let l = length-append rest (q ∷ []) in
      (subst P (get_or-append-last rest q 0) (w (length rest) 0 (omega arith)), λ k d lt. subst P (get_or_append_left rest (q ∷ []) d k lt) (w k d (omega arith)))

  pub step_index-back : (x : A) → at ((p + ((left - 1) * s) % 2 ^ 64) % 2 ^ 64) ≡ Some x → filter_map at (places_from p s left) ≡ filter_map at (places_from p s (left - 1)) ++ x ∷ []
  step_index-back x e = ap (filter_map at) (places_from-last p s left fits some) ∙ (filter_map-append at (places_from p s (left - 1)) (((p + ((left - 1) * s) % 2 ^ 64) % 2 ^ 64) ∷ []) ∙ rw e refl)

pub length-row_from : (is : List ℕ) (axis n : ℕ) → length (row_from is axis n) ≡ n
length-row_from is axis zero = refl
length-row_from is axis (suc n) = let ih = length-row_from (set is axis (get_or is axis 0 + 1)) axis n in omega arith

-- as many index lists with places
pub length-indexed_row : (is : List ℕ) (axis p s n : ℕ) → length (zip (row_from is axis n) (places_from p s n)) ≡ n
length-indexed_row is axis p s zero = refl
length-indexed_row is axis p s (suc n) = let ih = length-indexed_row (set is axis (get_or is axis 0 + 1)) axis ((p + s) % 2 ^ 64) s n in omega arith

-- one more on the axis, where it is there
indexed_row-step : (is : List ℕ) (axis i : ℕ) → set (set is axis i) axis (get_or (set is axis i) axis 0 + 1) ≡ set is axis (i + 1)
indexed_row-step is axis i = set-set is axis i _ ∙ elim (cases_lt axis (length is)) [
  | inl lt ↦ ap (λ j. set is axis (j + 1)) (get_or-set_same is axis i 0 lt)
  | inr past ↦ set_past is axis _ (omega (arith, past)) ∙ sym (set_past is axis (i + 1) (omega (arith, past)))
]

pub indexed_row-next : (is : List ℕ) (axis i p s left : ℕ) → 0 < left
    → zip (row_from (set is axis i) axis left) (places_from p s left) ≡ (set is axis i, p) ∷ zip (row_from (set is axis (i + 1)) axis (left - 1)) (places_from ((p + s) % 2 ^ 64) s (left - 1))
indexed_row-next is axis i p s zero some = absurd (omega arith)
indexed_row-next is axis i p s (suc n) some =
    let e : n ≡ suc n - 1 = omega arith in
    ap (λ js. (set is axis i, p) ∷ zip (row_from js axis n) (places_from ((p + s) % 2 ^ 64) s n)) (indexed_row-step is axis i)
    ∙ ap (λ m. (set is axis i, p) ∷ zip (row_from (set is axis (i + 1)) axis m) (places_from ((p + s) % 2 ^ 64) s m)) e

-- the first of a row is the first of all behind it
pub yields-front : {A B : Type 0} (read : A → B) (row tail rest : List B) (r : Option A) → 0 < length row
    → YieldsFirstBy read (λ l. l) row r rest → YieldsFirstBy read (λ l. l) (row ++ tail) r (rest ++ tail)
yields-front read row tail rest None some h = absurd (let l = ap length h.0 in omega arith)
yields-front read row tail rest (Some x) some h = ap (λ l. l ++ tail) h

pub yields-fewer : {A B : Type 0} (read : A → B) (row rest : List B) (r : Option A) → YieldsFirstBy read (λ l. l) row r rest → length rest ≤ length row
yields-fewer read row rest None h = let l = ap length h.0 in let m = ap length h.1 in omega arith
yields-fewer read row rest (Some x) h = let l = ap length h in omega arith

-- what is left behind a row comes after it
pub taken-parts : (ys zs : List (List ℕ)) (is : List ℕ) (axis count : ℕ) → TakesRow ys zs is axis count → ys ≡ row_from is axis count ++ zs
taken-parts ys zs is axis count t = sym (take-append-drop count ys) ∙ (ap (λ l. l ++ drop count ys) t.row ∙ ap (λ l. row_from is axis count ++ l) (sym t.rest))

-- the places of a row, and those behind it
module _ (start : ℕ) (bs : List ℕ) where
  pub row-places : (axis n : ℕ) (is : List ℕ) → length bs ≡ length is → places_along start bs (row_from is axis n) ≡ places_from (place start bs is) (get_or bs axis 0) n
  row-places axis zero is l = refl
  row-places axis (suc n) is l =
      let js : List ℕ = set is axis (get_or is axis 0 + 1) in
      let ih = row-places axis n js (l ∙ sym (length-set is axis (get_or is axis 0 + 1))) in
      ap (λ ps. place start bs is ∷ ps) (ih ∙ ap (λ p. places_from p (get_or bs axis 0) n) (sym (place-any start bs is axis l)))

  -- the index lists of a row, and those behind it, each with its place
  pub row-with_places : (axis n : ℕ) (is : List ℕ) → length bs ≡ length is → zip (row_from is axis n) (places_from (place start bs is) (get_or bs axis 0) n) ≡ with_places start bs (row_from is axis n)
  row-with_places axis zero is l = refl
  row-with_places axis (suc n) is l =
      let js : List ℕ = set is axis (get_or is axis 0 + 1) in
      let ih = row-with_places axis n js (l ∙ sym (length-set is axis (get_or is axis 0 + 1))) in
      ap (λ p. (is, place start bs is) ∷ zip (row_from js axis n) (places_from p (get_or bs axis 0) n)) (place-any start bs is axis l) ∙ ap (λ ps. (is, place start bs is) ∷ ps) ih

  pub places-last : (ys rest : List (List ℕ)) (is : List ℕ) → ys ≡ rest ++ is ∷ [] → places_along start bs ys ≡ places_along start bs rest ++ place start bs is ∷ []
  places-last ys rest is e = ap (places_along start bs) e ∙ map-append (place start bs) rest (is ∷ [])

  pub beginning-as_many : (ys rest : List (List ℕ)) (is : List ℕ) → ys ≡ rest ++ is ∷ [] → All (λ js. length bs ≡ length js) ys → All (λ js. length bs ≡ length js) rest
  beginning-as_many ys rest is e m =
      let l = length-append rest (is ∷ []) in
      let w : All (λ js. length bs ≡ length js) (rest ++ is ∷ []) = subst (All (λ js. length bs ≡ length js)) e m in
      λ k d lt. subst (λ js. length bs ≡ length js) (get_or_append_left rest (is ∷ []) d k lt) (w k d (omega arith))

  module _ (ys zs : List (List ℕ)) (is : List ℕ) (axis count : ℕ) (m : All (λ js. length bs ≡ length js) ys) (t : TakesRow ys zs is axis count) where
    pub row-as_many : length bs ≡ length is
    row-as_many = row-first (λ js. length bs ≡ length js) is axis count t.some (subst (All (λ js. length bs ≡ length js)) t.row (All-take (λ js. length bs ≡ length js) count ys m))

    pub rest-as_many : All (λ js. length bs ≡ length js) zs
    rest-as_many = subst (All (λ js. length bs ≡ length js)) (sym t.rest) (All-drop (λ js. length bs ≡ length js) count ys m)

    pub places-split : places_along start bs ys ≡ places_along start bs (row_from is axis count) ++ places_along start bs zs
    places-split = ap (places_along start bs) (taken-parts ys zs is axis count t) ∙ map-append (place start bs) (row_from is axis count) zs

    pub places-count : count + length zs ≡ length ys
    places-count =
        let e = ap length (taken-parts ys zs is axis count t) in
        let a = length-append (row_from is axis count) zs in
        let r = length-row_from is axis count in
        omega arith
