-- The cells of an array of answers: each is the answer of a call at an item of its index list.
use Rattle.std.proofs.Common.{◌≡◌, ℕ, List, [], ◌∷◌, ◌++◌, Option, Some, map, refl, sym, subst, ap, ◌∙◌, append-nil, append_assoc}
use Rattle.std.specs.List.{AllByRecursion, FoldsTo}
use Rattle.std.proofs.lemmas.List.Elements.{All-contains}
use Rattle.ndarray.specs.Index.{InBox}
use Rattle.ndarray.specs.Grid.{Grid, cell}
use Rattle.ndarray.specs.Orders.{box_in}
use Rattle.ndarray.specs.Runs.{Collects, TurnAt, GatherTurn}
use Rattle.ndarray.specs.declared.base.shape.Order.{Order}
use Rattle.ndarray.proofs.lists.Elements.{All-from_recursion, All-to_recursion}
use Rattle.ndarray.proofs.boxes.Orders.{box-contains, box_in-is, box_in-within}

-- calls at the items of index lists in the box keep what is known of the closure
module _ {F A R : Type 0} (yields_at : List ℕ → A → Type 0) (call_gives : F → A → R → F → Type 0) (Known : F → Type 0) (ns : List ℕ)
    (keeps : (i : List ℕ) (f : F) (x : A) (r : R) (h : F) → InBox ns i → yields_at i x → Known f → call_gives f x r h → Known h) where
  -- a call at an item of the index list gave the value
  pub record GivenAt (i : List ℕ) (r : R) : Type 0 where
    pub item : A
    pub before : F
    pub after : F
    pub known : Known before
    pub yielded : yields_at i item
    pub given : call_gives before item r after

  GivenAlong : List (List ℕ) → List R → Type 0
  GivenAlong [] rs = rs ≡ []
  GivenAlong (i ∷ is) [] = ⊥
  GivenAlong (i ∷ is) (r ∷ rs) = GivenAt i r × GivenAlong is rs

  gathered : (is : List (List ℕ)) → AllByRecursion (InBox ns) is → (p q : F × List R) → Known p.0 → FoldsTo (TurnAt yields_at (GatherTurn call_gives)) p is q → (rs : List R) × (q.1 ≡ p.1 ++ rs) × GivenAlong is rs
  unfolding GivenAlong
  gathered [] b p q n c = ([], ap (λ (s : F × List R). s.1) (sym c) ∙ sym (append-nil p.1), refl)
  gathered (i ∷ is) b p q n c =
      let (m, (x, s, (r, e, k)), rest) = c in
      let (rs, f, h) = gathered is b.1 m q (keeps i p.0 x r m.0 b.0 s n k) rest in
      (r ∷ rs, f ∙ ap (λ l. l ++ rs) e ∙ append_assoc p.1 (r ∷ []) rs, (record { item = x; before = p.0; after = m.0; known = n; yielded = s; given = k }, h))

  along : (at : List ℕ → Option R) (is : List (List ℕ)) (rs : List R) → GivenAlong is rs → map at is ≡ map Some rs → AllByRecursion (λ i. (r : R) → at i ≡ Some r → GivenAt i r) is
  unfolding GivenAlong
  along at [] rs h e = tt
  along at (i ∷ is) [] h e = absurd h
  along at (i ∷ is) (r ∷ rs) h e = (λ v f. subst (GivenAt i) (cc) h.0, along at is rs h.1 (cc))

  pub Collects-at : (o : Order) (f : F) (g : Grid R) → Known f → Collects yields_at call_gives o ns f g → (i : List ℕ) → InBox ns i → (r : R) → cell g i ≡ Some r → GivenAt i r
  Collects-at o f g n c i b r e =
      let (rs, s, h) = gathered (box_in o ns) (All-to_recursion (InBox ns) (box_in o ns) (box_in-within o ns)) (f, []) (c.gathered.0, c.answers) n c.gathered.1 in
      let m : map (cell g) (box_in o g.lengths) ≡ map Some c.answers = c.cells (box_in o g.lengths) (box_in-is o g.lengths) in
      let k : map (cell g) (box_in o ns) ≡ map Some rs = ap (λ ms. map (cell g) (box_in o ms)) (sym c.lengths) ∙ (m ∙ ap (map Some) s) in
      All-contains (λ j. (v : R) → cell g j ≡ Some v → GivenAt j v) (box_in o ns) i (All-from_recursion _ (box_in o ns) (along (cell g) (box_in o ns) rs h k)) (box-contains o ns i b) r e
