-- Sub-views that share out the places of a storage: a region is split into some of them and the others.
use Rattle.std.proofs.Common.{◌≡◌, ℕ, ◌+◌, ◌<◌, zero, suc, Bool, true, false, cond, List, [], ◌∷◌, ◌++◌, map, length, get_or, take, drop, Option, None, refl, sym, ◌∙◌, ap, arith, subst, length-append}
use Rattle.std.specs.Prelude.{All, AllPairs, IsTrue, nat_eq, ⊤}
use Rattle.std.specs.Option.{is_some}
use Rattle.std.proofs.lemmas.Bool.{eq-eqb, eqb-true}
use Rattle.std.proofs.lemmas.List.{get_or_append_left, get_or-append-add, get_or_default, get_or-map, length-map, take-append-drop, map-append}
use Rattle.std.proofs.lemmas.List.Folds.{list_any_at, list_any_none}
use Rattle.ndarray.specs.Index.{InBox, row_order}
use Rattle.ndarray.specs.Grid.{grid}
use Rattle.ndarray.specs.base.Places.{place, Reaches, Rearranges, cells_at, grid_at}
use Rattle.ndarray.specs.base.Masks.{is_in, is_among, mask_from, mask_of, AreApart, Shares, SharesBoth, grids_at}
use Rattle.ndarray.specs.base.CellLayouts.{CellLayout}
use Rattle.ndarray.specs.base.Slots.{held_at, slots_in, slots_outside}
use Rattle.ndarray.specs.base.Ranks.{rank}
use Rattle.ndarray.proofs.views.Images.{Reaches-rearranged}
use Rattle.ndarray.proofs.strides.NestedPlaces.{Reaches-apart}
use Rattle.ndarray.proofs.lists.Elements.{filter_map-same, map-same}
use Rattle.ndarray.proofs.boxes.Orders.{length-row_order, row_order-is, row_order-at, rank-lt}

-- ---- masks by a test of the place

module _ {X : Type 0} where
  nowhere : (b c : Option X) (t : Bool) → b ≡ None → c ≡ None → None ≡ cond t b c
  nowhere b c true eb ec = sym eb
  nowhere b c false eb ec = sym ec

  pub kept_from : (f : ℕ → Bool) (k n : ℕ) (cs : List (Option X)) (i : ℕ) → n ≡ length cs → held_at (slots_in (mask_from f k n) cs) i ≡ cond (f (k + i)) (held_at cs i) None
  kept_from f k n [] i e = nowhere None None (f (k + i)) refl refl
  kept_from f k zero (c ∷ cs) i e = absurd (omega (arith, e))
  kept_from f k (suc n) (c ∷ cs) zero e = here (f k) ∙ ap (λ (j : ℕ). cond (f j) c None) (omega arith)
    where
      here : (b : Bool) → held_at (slots_in (b ∷ mask_from f (suc k) n) (c ∷ cs)) 0 ≡ cond b c None
      here true = refl
      here false = refl
  kept_from f k (suc n) (c ∷ cs) (suc i) e = there (f k) ∙ kept_from f (suc k) n cs i (omega (arith, e)) ∙ ap (λ (j : ℕ). cond (f j) (held_at cs i) None) (omega arith)
    where
      there : (b : Bool) → held_at (slots_in (b ∷ mask_from f (suc k) n) (c ∷ cs)) (suc i) ≡ held_at (slots_in (mask_from f (suc k) n) cs) i
      there true = refl
      there false = refl

  pub others_from : (f : ℕ → Bool) (k n : ℕ) (cs : List (Option X)) (i : ℕ) → n ≡ length cs → held_at (slots_outside (mask_from f k n) cs) i ≡ cond (f (k + i)) None (held_at cs i)
  others_from f k n [] i e = nowhere None None (f (k + i)) refl refl
  others_from f k zero (c ∷ cs) i e = absurd (omega (arith, e))
  others_from f k (suc n) (c ∷ cs) zero e = here (f k) ∙ ap (λ (j : ℕ). cond (f j) None c) (omega arith)
    where
      here : (b : Bool) → held_at (slots_outside (b ∷ mask_from f (suc k) n) (c ∷ cs)) 0 ≡ cond b None c
      here true = refl
      here false = refl
  others_from f k (suc n) (c ∷ cs) (suc i) e = there (f k) ∙ others_from f (suc k) n cs i (omega (arith, e)) ∙ ap (λ (j : ℕ). cond (f j) None (held_at cs i)) (omega arith)
    where
      there : (b : Bool) → held_at (slots_outside (b ∷ mask_from f (suc k) n) (c ∷ cs)) (suc i) ≡ held_at (slots_outside (mask_from f (suc k) n) cs) i
      there true = refl
      there false = refl

  -- the part of the sub-views holds their places, and the other part all other places
  pub held_at-slots_in : (ss : List CellLayout) (cs : List (Option X)) (k : ℕ) → held_at (slots_in (mask_of ss (length cs)) cs) k ≡ cond (is_among ss k) (held_at cs k) None
  unfolding mask_of
  held_at-slots_in ss cs k = kept_from (is_among ss) 0 (length cs) cs k refl ∙ ap (λ (j : ℕ). cond (is_among ss j) (held_at cs k) None) (omega arith)

  pub others_at : (ss : List CellLayout) (cs : List (Option X)) (k : ℕ) → held_at (slots_outside (mask_of ss (length cs)) cs) k ≡ cond (is_among ss k) None (held_at cs k)
  unfolding mask_of
  others_at ss cs k = others_from (is_among ss) 0 (length cs) cs k refl ∙ ap (λ (j : ℕ). cond (is_among ss j) None (held_at cs k)) (omega arith)

-- ---- which places are of a list of sub-views

-- its own
pub is_in-own : (s : CellLayout) (is : List ℕ) → InBox s.lengths is → is_in s (place s.start s.strides is) ≡ true
unfolding is_in
is_in-own s is b =
    let l = length-row_order s.lengths in
    let lt = rank-lt s.lengths is b in
    let k : ℕ = place s.start s.strides is in
    list_any_at (λ js. nat_eq (place s.start s.strides js) k) (row_order s.lengths) (rank s.lengths is) [] (omega arith)
    (eq-eqb _ k (ap (place s.start s.strides) (row_order-at s.lengths is [] b)))

-- none that it never reaches
pub is_in-none : (s : CellLayout) (k : ℕ) → ((is : List ℕ) → InBox s.lengths is → place s.start s.strides is ≡ k → ⊥) → is_in s k ≡ false
unfolding is_in
is_in-none s k never =
    list_any_none (λ js. nat_eq (place s.start s.strides js) k) (row_order s.lengths)
    (λ i d lt. differs (place s.start s.strides (get_or (row_order s.lengths) i d)) k (never _ ((row_order-is s.lengths).within i d lt)))
  where
    differs : (a b : ℕ) → (a ≡ b → ⊥) → nat_eq a b ≡ false
    differs a b ne = elim (nat_eq a b) as (λ t. nat_eq a b ≡ t → t ≡ false) [ true ↦ (λ e. absurd (ne (eqb-true a b e))) | false ↦ (λ e. refl) ] refl

pub is_among-own : (ss : List CellLayout) (i : ℕ) (d : CellLayout) (is : List ℕ) → i < length ss → InBox (get_or ss i d).lengths is → is_among ss (place (get_or ss i d).start (get_or ss i d).strides is) ≡ true
unfolding is_among
is_among-own ss i d is lt b = list_any_at (λ s. is_in s (place (get_or ss i d).start (get_or ss i d).strides is)) ss i d lt (is_in-own (get_or ss i d) is b)

pub is_among-none : (ss : List CellLayout) (k : ℕ) → All (λ s. (is : List ℕ) → InBox s.lengths is → place s.start s.strides is ≡ k → ⊥) ss → is_among ss k ≡ false
unfolding is_among
is_among-none ss k never = list_any_none (λ s. is_in s k) ss (λ i d lt. is_in-none (get_or ss i d) k (never i d lt))

-- ---- what a sub-view sees of another storage

-- the other storage has the same elements at the places of the sub-view
abbrev pub IsSameAt : {A : Type 0} → (ℕ → Option A) → (ℕ → Option A) → CellLayout → Type 0
IsSameAt at at' s = (is : List ℕ) → InBox s.lengths is → at' (place s.start s.strides is) ≡ at (place s.start s.strides is)

module _ {A : Type 0} (at at' : ℕ → Option A) where
  pub Reaches-same_at : {one : Type 0} (s : CellLayout) → IsSameAt at at' s → Reaches one at s.lengths s.start s.strides → Reaches one at' s.lengths s.start s.strides
  Reaches-same_at s e h = record {
    as_many = h.as_many;
    limit = h.limit;
    inside = λ is b. subst (λ o. IsTrue (is_some o)) (sym (e is b)) (h.inside is b);
    nested = h.nested;
  }

  pub grid_at-same_at : (s : CellLayout) → IsSameAt at at' s → grid_at at' s.lengths s.start s.strides ≡ grid_at at s.lengths s.start s.strides
  unfolding cells_at
  grid_at-same_at s e =
      ap (grid s.lengths) (filter_map-same (λ is. at' (place s.start s.strides is)) (λ is. at (place s.start s.strides is)) (InBox s.lengths) (row_order s.lengths) e ((row_order-is s.lengths).within))

  pub Shares-same_at : (ss : List CellLayout) → All (IsSameAt at at') ss → Shares at ss → Shares at' ss
  Shares-same_at ss e h = record {
    each = λ i d lt. Reaches-same_at (get_or ss i d) (e i d lt) (h.each i d lt);
    apart = h.apart;
  }

  pub grids_at-same_at : (ss : List CellLayout) → All (IsSameAt at at') ss → grids_at at' ss ≡ grids_at at ss
  grids_at-same_at ss e = map-same (λ s. grid_at at' s.lengths s.start s.strides) (λ s. grid_at at s.lengths s.start s.strides) (IsSameAt at at') ss (λ s. grid_at-same_at s) e

-- ---- some of the sub-views, and the others

module _ {A : Type 0} (cs : List (Option A)) (xs ys : List CellLayout) (h : SharesBoth (held_at cs) xs ys) where
  -- the places of xs go to xs alone, and the others have all of ys
  slots_in-same : All (IsSameAt (held_at cs) (held_at (slots_in (mask_of xs (length cs)) cs))) xs
  slots_in-same i d lt is b = let k : ℕ = place (get_or xs i d).start (get_or xs i d).strides is in held_at-slots_in xs cs k ∙ ap (λ t. cond t (held_at cs k) None) (is_among-own xs i d is lt b)

  slots_outside-same : All (IsSameAt (held_at cs) (held_at (slots_outside (mask_of xs (length cs)) cs))) ys
  slots_outside-same j d lt js b =
      let k : ℕ = place (get_or ys j d).start (get_or ys j d).strides js in
      others_at xs cs k ∙ ap (λ t. cond t None (held_at cs k)) (is_among-none xs k (λ i e li is bi. h.between i e li j d lt is js bi b))

  pub Shares-slots_in : Shares (held_at (slots_in (mask_of xs (length cs)) cs)) xs
  Shares-slots_in = Shares-same_at _ _ xs slots_in-same h.first

  pub Shares-slots_outside : Shares (held_at (slots_outside (mask_of xs (length cs)) cs)) ys
  Shares-slots_outside = Shares-same_at _ _ ys slots_outside-same h.second

  pub grids-slots_in : grids_at (held_at (slots_in (mask_of xs (length cs)) cs)) xs ≡ grids_at (held_at cs) xs
  grids-slots_in = grids_at-same_at _ _ xs slots_in-same

  pub grids-slots_outside : grids_at (held_at (slots_outside (mask_of xs (length cs)) cs)) ys ≡ grids_at (held_at cs) ys
  grids-slots_outside = grids_at-same_at _ _ ys slots_outside-same

-- one sub-view, on either side: it is the array that it was
module _ {A : Type 0} (cs : List (Option A)) (s : CellLayout) where
  pub one-reaches : (ys : List CellLayout) → SharesBoth (held_at cs) (s ∷ []) ys → Reaches ⊤ (held_at (slots_in (mask_of (s ∷ []) (length cs)) cs)) s.lengths s.start s.strides
  one-reaches ys h = (Shares-slots_in cs (s ∷ []) ys h).each 0 s (omega arith)

  pub one-seen : (ys : List CellLayout) → SharesBoth (held_at cs) (s ∷ []) ys → grid_at (held_at (slots_in (mask_of (s ∷ []) (length cs)) cs)) s.lengths s.start s.strides ≡ grid_at (held_at cs) s.lengths s.start s.strides
  one-seen ys h = grid_at-same_at _ _ s (slots_in-same cs (s ∷ []) ys h 0 s (omega arith))

  pub other-reaches : (xs : List CellLayout) → SharesBoth (held_at cs) xs (s ∷ []) → Reaches ⊤ (held_at (slots_outside (mask_of xs (length cs)) cs)) s.lengths s.start s.strides
  other-reaches xs h = (Shares-slots_outside cs xs (s ∷ []) h).each 0 s (omega arith)

  pub other-seen : (xs : List CellLayout) → SharesBoth (held_at cs) xs (s ∷ []) → grid_at (held_at (slots_outside (mask_of xs (length cs)) cs)) s.lengths s.start s.strides ≡ grid_at (held_at cs) s.lengths s.start s.strides
  other-seen xs h = grid_at-same_at _ _ s (slots_outside-same cs xs (s ∷ []) h 0 s (omega arith))

pub apart-back : (s t : CellLayout) → AreApart s t → AreApart t s
apart-back s t h js is bj bi e = h is js bi bj (sym e)

pub apart-moved : (s t s' t' : CellLayout) → s ≡ s' → t ≡ t' → AreApart s t → AreApart s' t'
apart-moved s t s' t' es et h = subst (λ x. AreApart x t') es (subst (AreApart s) et h)

pub SharesBoth-back : {A : Type 0} (at : ℕ → Option A) (xs ys : List CellLayout) → SharesBoth at xs ys → SharesBoth at ys xs
SharesBoth-back at xs ys h = record {
  first = h.second;
  second = h.first;
  between = λ j e lj i d li. apart-back (get_or xs i d) (get_or ys j e) (h.between i d li j e lj);
}

-- a list of sub-views that share out the storage, in two
pub SharesBoth-parts : {A : Type 0} (at : ℕ → Option A) (xs ys : List CellLayout) → Shares at (xs ++ ys) → SharesBoth at xs ys
SharesBoth-parts at xs ys h =
    let l = length-append xs ys in
    let left = λ (i : ℕ) (d : CellLayout) (lt : i < length xs). get_or_append_left xs ys d i lt in
    let right = λ (j : ℕ) (d : CellLayout). get_or-append-add xs ys j d in
    let reaches = λ (s : CellLayout). Reaches ⊤ at s.lengths s.start s.strides in
    record {
      first = record {
        each = λ i d lt. subst reaches (left i d lt) (h.each i d (omega arith));
        apart = λ i j d lt lj. apart-moved _ _ _ _ (left i d (omega arith)) (left j d lj) (h.apart i j d lt (omega arith));
      };
      second = record {
        each = λ j d lt. subst reaches (right j d) (h.each (length xs + j) d (omega arith));
        apart = λ i j d lt lj. apart-moved _ _ _ _ (right i d) (right j d) (h.apart (length xs + i) (length xs + j) d (omega arith) (omega arith));
      };
      between = λ i d li j e lj. apart-moved _ _ _ _ (left i d li) (right j d ∙ get_or_default ys j d e lj) (h.apart i (length xs + j) d (omega arith) (omega arith));
    }

-- the first of them, and the others
pub SharesBoth-first : {A : Type 0} (at : ℕ → Option A) (s : CellLayout) (ss ys : List CellLayout) → ss ≡ s ∷ ys → Shares at ss → SharesBoth at (s ∷ []) ys
SharesBoth-first at s ss ys e h = SharesBoth-parts at (s ∷ []) ys (subst (Shares at) e h)

-- the last of them, and the others
pub SharesBoth-last : {A : Type 0} (at : ℕ → Option A) (s : CellLayout) (ss ys : List CellLayout) → ss ≡ ys ++ s ∷ [] → Shares at ss → SharesBoth at (s ∷ []) ys
SharesBoth-last at s ss ys e h = SharesBoth-back at ys (s ∷ []) (SharesBoth-parts at ys (s ∷ []) (subst (Shares at) e h))

-- the one of one and others
pub one-of : {A : Type 0} (at : ℕ → Option A) (s : CellLayout) (ys : List CellLayout) → SharesBoth at (s ∷ []) ys → Reaches ⊤ at s.lengths s.start s.strides
one-of at s ys h = h.first.each 0 s (omega arith)

-- the first n of them, and the rest
pub SharesBoth-take : {A : Type 0} (at : ℕ → Option A) (ss : List CellLayout) (n : ℕ) → Shares at ss → SharesBoth at (take n ss) (drop n ss)
SharesBoth-take at ss n h = SharesBoth-parts at (take n ss) (drop n ss) (subst (Shares at) (sym (take-append-drop n ss)) h)

-- the arrays where the last lies behind the others
pub grids_at-last : {A : Type 0} (at : ℕ → Option A) (s : CellLayout) (ss ys : List CellLayout) → ss ≡ ys ++ s ∷ [] → grids_at at ss ≡ grids_at at ys ++ grid_at at s.lengths s.start s.strides ∷ []
grids_at-last at s ss ys e = ap (grids_at at) e ∙ map-append (λ (x : CellLayout). grid_at at x.lengths x.start x.strides) ys (s ∷ [])

-- ---- sub-views of one array

first-alone : (P : CellLayout → Type 0) (x : CellLayout) → P x → All P (x ∷ [])
first-alone P x p zero d lt = p
first-alone P x p (suc i) d lt = absurd (omega arith)

pub Shares-none : {A : Type 0} (at : ℕ → Option A) → Shares at []
Shares-none at = record { each = λ i d lt. absurd (omega arith); apart = λ i j d lt lj. absurd (omega arith) }

pub SharesBoth-none : {A : Type 0} (at : ℕ → Option A) (xs : List CellLayout) → Shares at xs → SharesBoth at xs []
SharesBoth-none at xs h = record { first = h; second = Shares-none at; between = λ i d li j e lj. absurd (omega arith) }

pub Shares-one : {A : Type 0} (at : ℕ → Option A) (s : CellLayout) → Reaches ⊤ at s.lengths s.start s.strides → Shares at (s ∷ [])
Shares-one at s h = record {
  each = first-alone (λ x. Reaches ⊤ at x.lengths x.start x.strides) s h;
  apart = λ i j d lt lj. absurd (omega arith);
}

-- one beside none
pub SharesBoth-one : {A : Type 0} (at : ℕ → Option A) (s : CellLayout) → Reaches ⊤ at s.lengths s.start s.strides → SharesBoth at (s ∷ []) []
SharesBoth-one at s h = record { first = Shares-one at s h; second = Shares-none at; between = first-alone (λ x. All (AreApart x) []) s (λ j e lj. absurd (omega arith)) }

module _ {A : Type 0} (at : ℕ → Option A) (ns : List ℕ) (start : ℕ) (bs : List ℕ) (h : Reaches ⊤ at ns start bs) where
  -- sub-views whose images have no index list in common have no place in common
  apart-images : (s t : CellLayout) (f g : List ℕ → List ℕ) → Rearranges ⊤ ns start bs s.lengths s.start s.strides f → Rearranges ⊤ ns start bs t.lengths t.start t.strides g → ((is js : List ℕ) → InBox s.lengths is → InBox t.lengths js → f is ≡ g js → ⊥) → AreApart s t
  apart-images s t f g r q differ is js bi bj e =
      differ is js bi bj (Reaches-apart at ns start bs h tt (f is) (g js) (r.image is bi) (q.image js bj) (sym (r.same is bi) ∙ (e ∙ q.same js bj)))

  -- those at the positions ps, by the image of each
  pub Shares-images : {P : Type 0} (s : P → CellLayout) (f : P → List ℕ → List ℕ) (ps : List P) → All (λ p. Rearranges ⊤ ns start bs (s p).lengths (s p).start (s p).strides (f p)) ps → AllPairs (λ p q. (is js : List ℕ) → InBox (s p).lengths is → InBox (s q).lengths js → f p is ≡ f q js → ⊥) ps → Shares at (map s ps)
  Shares-images s f [] r differ = record { each = λ i d lt. absurd (omega arith); apart = λ i j d lt lj. absurd (omega arith) }
  Shares-images s f (p ∷ ps) r differ =
      let reaches = λ (x : CellLayout). Reaches ⊤ at x.lengths x.start x.strides in
      let l = length-map (p ∷ ps) s in
      let moved = λ (i : ℕ) (d : CellLayout) (lt : i < length (p ∷ ps)). get_or-map s (p ∷ ps) i p d lt in
      record {
        each = λ i d lt. subst reaches (sym (moved i d (omega arith))) (Reaches-rearranged (r i p (omega arith)) at (λ t. t) h);
        apart = λ i j d lt lj.
            apart-moved _ _ _ _ (sym (moved i d (omega arith))) (sym (moved j d (omega arith)))
            (apart-images _ _ _ _ (r i p (omega arith)) (r j p (omega arith)) (differ i j p lt (omega arith)));
      }

  -- two of them
  pub SharesBoth-images : (s t : CellLayout) (f g : List ℕ → List ℕ) → Rearranges ⊤ ns start bs s.lengths s.start s.strides f → Rearranges ⊤ ns start bs t.lengths t.start t.strides g → ((is js : List ℕ) → InBox s.lengths is → InBox t.lengths js → f is ≡ g js → ⊥) → SharesBoth at (s ∷ []) (t ∷ [])
  SharesBoth-images s t f g r q differ = record {
    first = Shares-one at s (Reaches-rearranged r at (λ x. x) h);
    second = Shares-one at t (Reaches-rearranged q at (λ x. x) h);
    between = λ i d li j e lj. apart-moved _ _ _ _ (alone s i d li) (alone t j e lj) (apart-images s t f g r q differ);
  }
    where
      alone : (x : CellLayout) (i : ℕ) (d : CellLayout) → i < 1 → x ≡ get_or (x ∷ []) i d
      alone x zero d lt = refl
      alone x (suc i) d lt = absurd (omega arith)
