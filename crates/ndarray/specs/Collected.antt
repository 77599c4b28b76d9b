-- What a function gives for each item of a list.
use Rattle.std.specs.Prelude.{◌≡◌, List, [], ◌∷◌}
use Rattle.std.specs.Fn.{Called, Mut}

-- f, called on each of xs in turn, gave ys and was left as `last`
abbrev pub GivesEach : {F A B : Type 0} → Mut F (A × Unit {0}) B → F → List A → List B → F → Type 0
GivesEach g f [] [] last = f ≡ last
GivesEach g f [] (y ∷ ys) last = ⊥
GivesEach g f (x ∷ xs) [] last = ⊥
GivesEach {F} g f (x ∷ xs) (y ∷ ys) last = (f' : F) × Called g f (x, tt) y f' × GivesEach g f' xs ys last
