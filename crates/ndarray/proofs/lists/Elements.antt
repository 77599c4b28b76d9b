-- Lists: what stands at each place.
use Rattle.std.proofs.Common.{◌≡◌, ℕ, ◌+◌, ◌<◌, ◌≤◌, min, suc, zero, List, [], ◌∷◌, ◌++◌, length, drop, map, replicate, reverse, take, get_or, Option, Some, None, refl, sym, ◌∙◌, ap, arith, subst, set, swap, insert, remove, get_or-set_other, inl, inr}
use Rattle.std.specs.Prelude.{filter_map, zip, slice_get, MatchOption, All, IsTrue}
use Rattle.std.specs.Option.{is_some}
use Rattle.std.specs.List.{cons_option, AllByRecursion}
use Rattle.std.proofs.Math.ListN.{get_or-map}
use Rattle.std.proofs.Math.Seq.{drop-cons}
use Rattle.std.proofs.lemmas.Option.{slice_get_past, slice_get-get_or}
use Rattle.std.proofs.lemmas.List.{length-drop, length-map, drop_all, reverse-append, get_or_at, same_lists}
use Rattle.std.proofs.lemmas.Bool.{cases_eq}
use Rattle.std.proofs.lemmas.Grind.{get_or-set_at}
use Rattle.std.proofs.lemmas.List.Edits.{length-swap, swapped_from_swap}
use Rattle.std.proofs.lemmas.List.Elements.{All-nil, All-cons, All-same, All-head, All-tail}

pub reverse-cons : {X : Type 0} (x : X) (xs : List X) → reverse (x ∷ xs) ≡ reverse xs ++ x ∷ []
reverse-cons x xs = reverse-append (x ∷ []) xs

pub remove-inserted : {X : Type 0} (xs : List X) (k : ℕ) (x : X) → k ≤ length xs → remove (insert xs k x) k ≡ xs
remove-inserted xs zero x le = refl
remove-inserted [] (suc k) x le = absurd (omega arith)
remove-inserted (y ∷ xs) (suc k) x le = ap (λ l. y ∷ l) (remove-inserted xs k x (omega arith))

pub same_from_slice_get : {A : Type 0} (xs ys : List A) → length xs ≡ length ys → ((k : ℕ) → k < length xs → slice_get xs k ≡ slice_get ys k) → xs ≡ ys
same_from_slice_get [] [] l h = refl
same_from_slice_get [] (y ∷ ys) l h = absurd (omega arith)
same_from_slice_get (x ∷ xs) [] l h = absurd (omega arith)
same_from_slice_get (x ∷ xs) (y ∷ ys) l h =
    let here : Some x ≡ Some y = h 0 (omega arith) in
    let rest : xs ≡ ys = same_from_slice_get xs ys (omega arith) (λ k lt. h (suc k) (omega arith)) in
    cc

module _ {X Y : Type 0} (f : X → Option Y) where
  pub length-filter_map_all : (xs : List X) → All (λ x. (y : Y) × (f x ≡ Some y)) xs → length (filter_map f xs) ≡ length xs
  length-filter_map_all [] h = refl
  length-filter_map_all (x ∷ xs) h =
      let here = h 0 x (omega arith) in
      rw here.1 (ap (λ n. suc n) (length-filter_map_all xs (λ k d lt. h (suc k) d (omega arith))))

  pub length-filter_map-most : (xs : List X) → length (filter_map f xs) ≤ length xs
  length-filter_map-most [] = omega arith
  length-filter_map-most (x ∷ xs) = let rest = length-filter_map-most xs in more (f x) rest
    where
      more : (o : Option Y) → length (filter_map f xs) ≤ length xs → length (cons_option o (filter_map f xs)) ≤ suc (length xs)
      more None h = omega (arith, h)
      more (Some y) h = omega (arith, h)

  pub slice_get-filter_map_all : (xs : List X) (k : ℕ) (d : X) → All (λ x. (y : Y) × (f x ≡ Some y)) xs → k < length xs → slice_get (filter_map f xs) k ≡ f (get_or xs k d)
  slice_get-filter_map_all [] k d h lt = absurd (omega arith)
  slice_get-filter_map_all (x ∷ xs) zero d h lt =
      let here = h 0 x (omega arith) in
      rw here.1 refl
  slice_get-filter_map_all (x ∷ xs) (suc k) d h lt =
      let here = h 0 x (omega arith) in
      rw here.1 (slice_get-filter_map_all xs k d (λ j e l. h (suc j) e (omega arith)) (omega arith))

-- each element beside its image
module _ {X Y : Type 0} (f : X → Option Y) where
  pub zip-filter_map : (xs : List X) → All (λ x. (y : Y) × (f x ≡ Some y)) xs → All (λ p. f p.0 ≡ Some p.1) (zip xs (filter_map f xs))
  zip-filter_map [] h = All-nil (λ p. f p.0 ≡ Some p.1)
  zip-filter_map (x ∷ xs) h =
      let here = h 0 x (omega arith) in
      let both : zip (x ∷ xs) (filter_map f (x ∷ xs)) ≡ (x, here.0) ∷ zip xs (filter_map f xs) = rw here.1 refl in
      All-same (λ p. f p.0 ≡ Some p.1) _ _ both (All-cons (λ p. f p.0 ≡ Some p.1) (x, here.0) _ here.1 (zip-filter_map xs (λ k d lt. h (suc k) d (omega arith))))

pub slice_get-Some : {X : Type 0} (xs : List X) (k : ℕ) → k < length xs → (x : X) × (slice_get xs k ≡ Some x)
slice_get-Some [] k h = absurd (omega arith)
slice_get-Some (x ∷ xs) zero h = (x, refl)
slice_get-Some (x ∷ xs) (suc k) h = slice_get-Some xs k (omega arith)

pub some-of : {X : Type 0} (o : Option X) → IsTrue (is_some o) → (x : X) × (o ≡ Some x)
some-of None h = cc
some-of (Some x) h = (x, refl)

pub filled-slice : {X : Type 0} (xs : List X) (k : ℕ) → k < length xs → IsTrue (is_some (slice_get xs k))
filled-slice xs k h = subst (λ o. IsTrue (is_some o)) (sym (slice_get-Some xs k h).1) refl

pub slice_get-take : {X : Type 0} (n : ℕ) (xs : List X) (k : ℕ) → k < n → slice_get (take n xs) k ≡ slice_get xs k
slice_get-take zero xs k h = absurd (omega arith)
slice_get-take (suc n) [] k h = refl
slice_get-take (suc n) (x ∷ xs) zero h = refl
slice_get-take (suc n) (x ∷ xs) (suc k) h = slice_get-take n xs k (omega arith)

pub filter_map-same : {X Y : Type 0} (f h : X → Option Y) (P : X → Type 0) (xs : List X) → ((x : X) → P x → f x ≡ h x) → All P xs → filter_map f xs ≡ filter_map h xs
filter_map-same f h P [] e a = refl
filter_map-same f h P (x ∷ xs) e a =
    let here : f x ≡ h x = e x (All-head P x xs a) in
    let rest : filter_map f xs ≡ filter_map h xs = filter_map-same f h P xs e (All-tail P x xs a) in
    ap (λ o. cons_option o (filter_map f xs)) here ∙ ap (cons_option (h x)) rest

pub filter_map-from_map : {X Y : Type 0} (f : X → Option Y) (xs : List X) (ys : List Y) → map f xs ≡ map Some ys → filter_map f xs ≡ ys
filter_map-from_map f [] [] e = refl
filter_map-from_map f [] (y ∷ ys) e = cc
filter_map-from_map f (x ∷ xs) [] e = cc
filter_map-from_map f (x ∷ xs) (y ∷ ys) e =
    let here : f x ≡ Some y = cc in
    let rest : map f xs ≡ map Some ys = cc in
    rw here (ap (λ zs. y ∷ zs) (filter_map-from_map f xs ys rest))

-- and the other way
pub map-from_filter_map : {X Y : Type 0} (f : X → Option Y) (xs : List X) → All (λ x. (y : Y) × (f x ≡ Some y)) xs → map f xs ≡ map Some (filter_map f xs)
map-from_filter_map f [] h = refl
map-from_filter_map f (x ∷ xs) h =
    let here = h 0 x (omega arith) in
    let rest = map-from_filter_map f xs (λ k d lt. h (suc k) d (omega arith)) in
    rw here.1 (ap (λ ys. Some here.0 ∷ ys) rest)

length-filter_map : {X Y : Type 0} (f : X → Option Y) (xs : List X) → length (filter_map f xs) ≤ length xs
length-filter_map f [] = omega arith
length-filter_map {X} {Y} f (x ∷ xs) = at (f x) (length-filter_map f xs)
  where
    at : (o : Option Y) → length (filter_map f xs) ≤ length xs → length (cons_option o (filter_map f xs)) ≤ suc (length xs)
    at None s = omega arith
    at (Some y) s = omega arith

-- where nothing was left out
pub filter_map-full : {X Y : Type 0} (f : X → Option Y) (xs : List X) → length (filter_map f xs) ≡ length xs → map f xs ≡ map Some (filter_map f xs)
filter_map-full f [] e = refl
filter_map-full {X} {Y} f (x ∷ xs) e = at (f x) e (filter_map-full f xs)
  where
    at : (o : Option Y) → length (cons_option o (filter_map f xs)) ≡ suc (length xs)
        → (length (filter_map f xs) ≡ length xs → map f xs ≡ map Some (filter_map f xs)) → o ∷ map f xs ≡ map Some (cons_option o (filter_map f xs))
    at None k rest = absurd (let s = length-filter_map f xs in omega arith)
    at (Some y) k rest = ap (λ zs. Some y ∷ zs) (rest (omega arith))

-- the first, and the last, of what is to come
pub get_or-append-last : {X : Type 0} (xs : List X) (x d : X) → get_or (xs ++ x ∷ []) (length xs) d ≡ x
get_or-append-last xs x d = get_or_at xs x [] d (length xs) refl

pub map-same : {X Y : Type 0} (f h : X → Y) (P : X → Type 0) (xs : List X) → ((x : X) → P x → f x ≡ h x) → All P xs → map f xs ≡ map h xs
map-same f h P [] e a = refl
map-same f h P (x ∷ xs) e a =
    let here = e x (All-head P x xs a) in
    let rest = map-same f h P xs e (All-tail P x xs a) in
    cc

-- ---- a part of a list

module _ {X Y : Type 0} (f : X → Option Y) where
  pub filter_map-take_all : (xs : List X) (n : ℕ) → All (λ x. (y : Y) × (f x ≡ Some y)) xs → filter_map f (take n xs) ≡ take n (filter_map f xs)
  filter_map-take_all [] zero h = refl
  filter_map-take_all [] (suc n) h = refl
  filter_map-take_all (x ∷ xs) zero h = refl
  filter_map-take_all (x ∷ xs) (suc n) h =
      let here = h 0 x (omega arith) in
      rw here.1 (ap (λ ys. here.0 ∷ ys) (filter_map-take_all xs n (λ k d lt. h (suc k) d (omega arith))))

  pub filter_map-drop_all : (xs : List X) (n : ℕ) → All (λ x. (y : Y) × (f x ≡ Some y)) xs → filter_map f (drop n xs) ≡ drop n (filter_map f xs)
  filter_map-drop_all [] zero h = refl
  filter_map-drop_all [] (suc n) h = refl
  filter_map-drop_all (x ∷ xs) zero h = refl
  filter_map-drop_all (x ∷ xs) (suc n) h =
      let here = h 0 x (omega arith) in
      rw here.1 (filter_map-drop_all xs n (λ k d lt. h (suc k) d (omega arith)))

-- the first item of a list that is left when some are left out, and what is left then
pub nth-from_next : {X : Type 0} (xs rest t : List X) (n m : ℕ) (r : Option X) → m ≡ min n (length xs) → rest ≡ drop m xs → MatchOption r ((rest ≡ []) × (t ≡ [])) (λ x. rest ≡ x ∷ t) → (r ≡ slice_get xs n) × (t ≡ drop (n + 1) xs)
nth-from_next xs rest t n m None em er h =
    let e : drop m xs ≡ [] = sym er ∙ h.0 in
    let l = length-drop m xs in
    let le : length xs ≤ n = omega (arith, ap length e) in
    (sym (slice_get_past xs n le), h.1 ∙ sym (drop_all (n + 1) xs (omega arith)))
nth-from_next xs rest t n m (Some x) em er h =
    let e : drop m xs ≡ x ∷ t = sym er ∙ h in
    let l = length-drop m xs in
    let lt : m < length xs = omega (arith, ap length e) in
    let same : m ≡ n = omega arith in
    let c = drop-cons xs m x lt in
    let both : x ∷ t ≡ get_or xs m x ∷ drop (suc m) xs = sym e ∙ c in
    let ex : x ≡ get_or xs m x = cc in
    let et : t ≡ drop (suc m) xs = cc in
    let sn : suc m ≡ n + 1 = omega arith in
    (sym (ap (slice_get xs) (sym same) ∙ (slice_get-get_or xs m x lt ∙ ap (λ y. Some y) (sym ex))), et ∙ ap (λ k. drop k xs) sn)

-- an element put in place of another is where it was, too
pub get_or-set_own : (xs : List ℕ) (i j : ℕ) → i < length xs → get_or (set xs i (get_or xs j 0)) j 0 ≡ get_or xs j 0
get_or-set_own xs i j h =
    elim (cases_eq j i) [
      | inl same ↦ get_or-set_at xs i j (get_or xs j 0) 0 same h
      | inr other ↦ get_or-set_other xs i j (get_or xs j 0) 0 other
    ]

pub swap-swap : {X : Type 0} (xs : List X) (i j : ℕ) → i < length xs → j < length xs → swap (swap xs i j) i j ≡ xs
swap-swap xs i j hi hj =
    let once = swap xs i j in
    let twice = swap once i j in
    let l1 = length-swap xs i j in
    let l2 = length-swap once i j in
    same_lists twice xs (omega arith)
    (λ k d lt.
    let s = swapped_from_swap xs once i j d hi hj refl in
    let t = swapped_from_swap once twice i j d (omega arith) (omega arith) refl in
    elim (cases_eq k i) [
      | inl left ↦ (ap (λ m. get_or twice m d) left ∙ (t.0 ∙ (s.1 ∙ ap (λ m. get_or xs m d) (sym left))))
      | inr not_left ↦ elim (cases_eq k j) [
        | inl right ↦ (ap (λ m. get_or twice m d) right ∙ (t.1 ∙ (s.0 ∙ ap (λ m. get_or xs m d) (sym right))))
        | inr not_right ↦ (t.2 k not_left not_right ∙ s.2 k not_left not_right)
      ]
    ])

pub insert-remove : {X : Type 0} (xs : List X) (k : ℕ) (d : X) → k < length xs → insert (remove xs k) k (get_or xs k d) ≡ xs
insert-remove [] k d h = absurd (omega arith)
insert-remove (x ∷ xs) zero d h = refl
insert-remove (x ∷ xs) (suc k) d h = ap (λ ys. x ∷ ys) (insert-remove xs k d (omega arith))

-- what holds of each element, said by places and said by recursion
pub All-from_recursion : {X : Type 0} (P : X → Type 0) (xs : List X) → AllByRecursion P xs → All P xs
All-from_recursion P [] h = All-nil P
All-from_recursion P (x ∷ xs) h = All-cons P x xs h.0 (All-from_recursion P xs h.1)

pub All-to_recursion : {X : Type 0} (P : X → Type 0) (xs : List X) → All P xs → AllByRecursion P xs
All-to_recursion P [] h = tt
All-to_recursion P (x ∷ xs) h = (All-head P x xs h, All-to_recursion P xs (All-tail P x xs h))

-- a list with one element throughout
pub replicate-is : {X : Type 0} (x : X) (xs : List X) → All (λ y. y ≡ x) xs → xs ≡ replicate (length xs) x
replicate-is x [] h = refl
replicate-is x (y ∷ ys) h =
    let here = All-head (λ z. z ≡ x) y ys h in
    let rest = replicate-is x ys (All-tail (λ z. z ≡ x) y ys h) in
    cc

-- what holds of each image
pub mapped-all : {X Y : Type 0} (P : Y → Type 0) (f : X → Y) (xs : List X) → All P (map f xs) → All (λ x. P (f x)) xs
mapped-all P f xs all = λ k d lt. subst P (get_or-map f xs k d) (all k (f d) (let l = length-map xs f in omega (arith, l, lt)))

-- what is found has what each has that may be found
pub all-found : {X Y : Type 0} (P : Y → Type 0) (f : X → Option Y) (xs : List X) → ((x : X) (y : Y) → f x ≡ Some y → P y) → All P (filter_map f xs)
all-found P f [] each = All-nil P
all-found {Y = Y} P f (x ∷ xs) each = more (f x) (each x) (all-found P f xs each)
  where
    more : (o : Option Y) → ((y : Y) → o ≡ Some y → P y) → All P (filter_map f xs) → All P (cons_option o (filter_map f xs))
    more None here rest = rest
    more (Some y) here rest = All-cons P y (filter_map f xs) (here y refl) rest
