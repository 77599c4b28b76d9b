-- What producers give: the items of two together, and those of a list.
use Rattle.std.proofs.Common.{◌≡◌, ℕ, ◌+◌, ◌-◌, ap, arith, length, List, [], ◌∷◌, Option, Some, None, refl, sym, subst, ◌∙◌, inl, inr, Iter, Bor, MutBor}
use Rattle.std.specs.Iterator.{YieldsFirstBy}
use Rattle.std.specs.declared.slice.IterMut.{IterMut}
use Rattle.std.specs.Slice.Iter.{iter_steps, iter_mut_steps, iter_mut_rest}
use Rattle.std.proofs.lemmas.List.{nil_from_length}
use Rattle.std.specs.Prelude.{filter_map, slice_set, slice_index}
use Rattle.ndarray.specs.Index.{InBox}
use Rattle.ndarray.specs.Grid.{Grid, IsGrid, HasCells, cell}
use Rattle.ndarray.specs.Orders.{box_in, cells_in}
use Rattle.ndarray.specs.Producers.{YieldsInTurn, YieldsInTurnFrom, IsPart, both, steps_of_both}
use Rattle.ndarray.specs.Views.{axis_part}
use Rattle.ndarray.specs.declared.base.shape.Order.{Order}
use Rattle.ndarray.proofs.cells.Cells.{cell-Some, along-first, HasCells-first, HasCells-box_in, tabulate-cell}

module _ {P S T A B : Type 0} (first : P → S) (second : P → T) (next : S → Option A → S → Type 0) (others : T → Option B → T → Type 0) (yields_at : List ℕ → A → Type 0) (other_yields_at : List ℕ → B → Type 0) where
  pairs : (is : List (List ℕ)) (z : P)
      → YieldsInTurnFrom next yields_at (first z) is → YieldsInTurnFrom others other_yields_at (second z) is
      → YieldsInTurnFrom (steps_of_both first second next others) (both yields_at other_yields_at) z is
  pairs [] z v w = λ t j st. v t.0 (first j) st.0
  pairs (i ∷ is) z v w = (
    (λ j n. elim n [ inl h ↦ v.0 h.0 h.1 | inr h ↦ w.0 h.0 h.1 ]),
    (λ t j st. let a = v.1 t.0 (first j) st.0 in let b = w.1 t.1 (second j) st.1 in ((a.0, b.0), pairs is j a.1 b.1)),
  )

  -- two runs over the same index lists, side by side
  pub YieldsInTurn-pairs : {is is' : List (List ℕ)} (z : P) → is ≡ is'
      → YieldsInTurn next yields_at (first z) is → YieldsInTurn others other_yields_at (second z) is' → YieldsInTurn (steps_of_both first second next others) (both yields_at other_yields_at) z is
  YieldsInTurn-pairs {is} z k v w = record {
    from = pairs is z v.from (subst (λ l. YieldsInTurnFrom others other_yields_at (second z) l) (sym k) w.from);
  }

module _ {A B : Type 0} (view : A → B) (yields_at : List ℕ → A → Type 0) where
  -- each item that reads as the value beside an index list may be yielded there
  abbrev pub MayBeYielded : List (List ℕ) → List B → Type 0
  MayBeYielded [] [] = Unit {0}
  MayBeYielded [] (b ∷ bs) = ⊥
  MayBeYielded (i ∷ is) [] = ⊥
  MayBeYielded (i ∷ is) (b ∷ bs) = ((x : A) → view x ≡ b → yields_at i x) × MayBeYielded is bs

-- an iterator that takes the first of a list
module _ {S A B : Type 0} (view : A → B) (rest : S → List B) (yields_at : List ℕ → A → Type 0) where
  from_list : (is : List (List ℕ)) (bs : List B) (s : S) → rest s ≡ bs → MayBeYielded view yields_at is bs → YieldsInTurnFrom (YieldsFirstBy view rest) yields_at s is
  from_list [] [] s e m = λ x j st. let k : [] ≡ view x ∷ rest j = sym e ∙ st in cc
  from_list [] (b ∷ bs) s e m = absurd m
  from_list (i ∷ is) [] s e m = absurd m
  from_list (i ∷ is) (b ∷ bs) s e m = (
    (λ j n. let k : b ∷ bs ≡ [] = sym e ∙ n.0 in cc),
    (λ x j st. let k : b ∷ bs ≡ view x ∷ rest j = sym e ∙ st in
        let h : view x ≡ b = cc in let t : rest j ≡ bs = cc in
        (m.0 x h, from_list is bs j t m.1)),
  )

  -- it gives what stands beside each index list
  pub YieldsInTurn-list : {is : List (List ℕ)} (bs : List B) {s : S} → rest s ≡ bs → MayBeYielded view yields_at is bs → YieldsInTurn (YieldsFirstBy view rest) yields_at s is
  YieldsInTurn-list bs e m = record { from = from_list _ bs _ e m }

module _ {A B : Type 0} (view : A → B) (g : Grid B) where
  pub cells-stand : (ys : List (List ℕ)) → HasCells g ys → MayBeYielded view (λ i x. cell g i ≡ Some (view x)) ys (filter_map (cell g) ys)
  cells-stand [] h = tt
  cells-stand (i ∷ ys) h =
      let f = HasCells-first g (i ∷ ys) ys i refl h in
      let (b, e) = cell-Some g h.whole i f.0 in
      subst (MayBeYielded view (λ i x. cell g i ≡ Some (view x)) (i ∷ ys)) (sym (along-first g (i ∷ ys) ys i b refl e)) ((λ x k. e ∙ ap Some (sym k)), cells-stand ys f.1)

  -- the cells of an array in an order are given beside their index lists
  pub YieldsInTurn-cells : {S : Type 0} (rest : S → List B) (o : Order) {s : S} → IsGrid g → rest s ≡ cells_in o g
      → YieldsInTurn (YieldsFirstBy view rest) (λ i x. cell g i ≡ Some (view x)) s (box_in o g.lengths)
  YieldsInTurn-cells rest o whole e = YieldsInTurn-list view rest _ (cells_in o g) e (cells-stand (box_in o g.lengths) (HasCells-box_in o g whole))

  -- a part along an axis
  pub IsPart-axis_part : (h : Grid B) (axis from to : ℕ) → IsGrid h → h ≡ axis_part g axis from to
      → IsPart axis from to g.lengths (λ i x. cell g i ≡ Some (view x)) h.lengths (λ i x. cell h i ≡ Some (view x))
  IsPart-axis_part h axis from to whole e =
      record {
        lengths = ap (λ k. k.lengths) e;
        items = λ js b x.
            let ns = slice_set g.lengths axis (to - from) in
            let c : cell h js ≡ cell g (slice_set js axis (from + slice_index js axis)) =
            ap (λ k. cell k js) e ∙ tabulate-cell ns _ js (subst IsGrid e whole) (subst (λ k. InBox k.lengths js) e b) in
            ((λ k. sym c ∙ k), (λ k. c ∙ k));
      }

module _ {S A : Type 0} (next other : S → Option A → S → Type 0) (yields_at : List ℕ → A → Type 0) (as_other : (s : S) (r : Option A) (t : S) → next s r t → other s r t) where
  steps_as : (is : List (List ℕ)) (s : S) → YieldsInTurnFrom other yields_at s is → YieldsInTurnFrom next yields_at s is
  steps_as [] s v = λ x t st. v x t (as_other s (Some x) t st)
  steps_as (i ∷ is) s v = ((λ t st. v.0 t (as_other s None t st)), (λ x t st. let w = v.1 x t (as_other s (Some x) t st) in (w.0, steps_as is t w.1)))

  -- what calls that are also calls of another kind give
  pub YieldsInTurn-steps : {is : List (List ℕ)} {s : S} → YieldsInTurn other yields_at s is → YieldsInTurn next yields_at s is
  YieldsInTurn-steps {is} {s} w = record { from = steps_as is s w.from }

-- the steps of an iterator over a slice take the first of what is left
pub iter_first : {A : Type 0} (t : Iter A) (r : Option (Bor A)) (u : Iter A) → iter_steps t r u → YieldsFirstBy (λ x. x.now) (λ w. w.rest.now) t r u
iter_first t None u st = let e = nil_from_length t.rest.now st.0 in (e, ap (λ w. w.rest.now) st.1 ∙ e)
iter_first t (Some x) u st = st

pub iter_mut_first : {A : Type 0} (t : IterMut A) (r : Option (MutBor A)) (u : IterMut A) → iter_mut_steps t r u → YieldsFirstBy (λ x. x.now) iter_mut_rest t r u
iter_mut_first t None u st = (nil_from_length (iter_mut_rest t) st.0, nil_from_length (iter_mut_rest u) st.1)
iter_mut_first t (Some x) u st = st

-- a run that counts down gives an item at as many index lists, where any item may stand at any of them
module _ {S A : Type 0} (next : S → Option A → S → Type 0) (yields_at : List ℕ → A → Type 0) (count : S → ℕ)
    (ends : (s t : S) → next s None t → count s ≡ 0) (goes : (s : S) (x : A) (t : S) → next s (Some x) t → count t + 1 ≡ count s) (anywhere : (i : List ℕ) (x : A) → yields_at i x) where
  counted : (is : List (List ℕ)) (s : S) → count s ≡ length is → YieldsInTurnFrom next yields_at s is
  counted [] s e = λ x t st. (let less = goes s x t st in omega arith)
  counted (i ∷ is) s e = (
    (λ t st. let none = ends s t st in omega arith),
    (λ x t st. let less = goes s x t st in (anywhere i x, counted is t (omega arith))),
  )

  pub YieldsInTurn-counted : {is : List (List ℕ)} {s : S} → count s ≡ length is → YieldsInTurn next yields_at s is
  YieldsInTurn-counted {is} {s} e = record { from = counted is s e }
