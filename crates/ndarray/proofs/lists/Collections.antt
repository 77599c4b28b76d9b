-- Vectors of what an iterator gives.
use Rattle.std.proofs.Common.{◌≡◌, List, [], ◌∷◌, Option, None, suc, length, map, refl, ap, ◌∙◌, subst, true}
use Rattle.std.specs.Fn.{Mut}
use Rattle.std.specs.Iterator.{ActsAs, Drains, Yields}
use Rattle.std.specs.Iterator.Adapters.{map_source, map_callee, map_steps}
use Rattle.std.specs.Iterator.Runs.{WholeRun}
use Rattle.std.specs.declared.iter.Map.{Map}
use Rattle.core.proofs.iter.runs.Made.{run, to_end}
use Rattle.ndarray.specs.Collected.{GivesEach}

module _ {S A F B : Type 0} (steps : S → Option A → S → Type 0) (g : Mut F (A × Unit {0}) B) where
  -- the items that an iterator gave and what the function made of each, where the mapped iterator gave ys up to its end
  mapped : (s t u : Map S F) (ys : List B) → Yields (map_steps steps g) s ys t → map_steps steps g t None u → (xs : List A) × (last : F) × Drains steps (map_source s) xs × GivesEach g (map_callee s) xs ys last
  mapped s t u [] e n = ([], map_callee t, (map_source u, (map_source t, ap map_source e, n.0)), ap map_callee e)
  mapped s t u (y ∷ ys) (j, h, rest) n =
      let ih = mapped j t u ys rest n in
      let d = ih.2 in
      (h.0 ∷ ih.0, ih.1, (d.0, (d.1.0, (map_source j, h.1, d.1.1), d.1.2)), (map_callee j, h.2, ih.3))

  pub mapped-drains : (s : Map S F) (ys : List B) → Drains (map_steps steps g) s ys → (xs : List A) × (last : F) × Drains steps (map_source s) xs × GivesEach g (map_callee s) xs ys last
  mapped-drains s ys d = mapped s d.1.0 d.0 ys d.1.1 d.1.2

  -- one value for each item
  gives-length : (f last : F) (xs : List A) (ys : List B) → GivesEach g f xs ys last → length ys ≡ length xs
  gives-length f last [] [] h = refl
  gives-length f last [] (y ∷ ys) h = absurd h
  gives-length f last (x ∷ xs) [] h = absurd h
  gives-length f last (x ∷ xs) (y ∷ ys) h = ap (λ n. suc n) (gives-length h.0 last xs ys h.2)

  -- that of a function h where the calls compute it
  gives-acts : (f last : F) (h : A → B) → ActsAs g f h → (xs : List A) (ys : List B) → GivesEach g f xs ys last → ys ≡ map h xs
  gives-acts f last h acts [] [] e = refl
  gives-acts f last h acts [] (y ∷ ys) e = absurd e
  gives-acts f last h acts (x ∷ xs) [] e = absurd e
  gives-acts f last h acts (x ∷ xs) (y ∷ ys) e =
      let a = acts x y e.0 e.1 in
      ap (λ z. z ∷ ys) a.1 ∙ ap (λ zs. h x ∷ zs) (gives-acts f last h acts xs ys (subst (λ k. GivesEach g k xs ys last) a.0 e.2))

  -- the same by one run of the iterator
  pub mapped-runs : (s : S) (f : F) (ys : List B) → ((xs : List A) × (last : F) × Drains steps s xs × GivesEach g f xs ys last) → WholeRun steps s (λ p. (length ys ≡ p.len) × ((h : A → B) → ActsAs g f h → ys ≡ map h p.items))
  mapped-runs s f ys (xs, last, d, e) = (run steps s xs true (to_end steps s xs d), refl, refl, (gives-length f last xs ys e, λ h acts. gives-acts f last h acts xs ys e))
