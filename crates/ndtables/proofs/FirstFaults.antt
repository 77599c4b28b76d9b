-- Which fault comes first, by what the words are.
use Rattle.std.proofs.Common.{◌≡◌, ℕ, List, [], ◌∷◌, refl, sym, subst, inr}
use Rattle.ndarray.specs.Index.{size}
use Rattle.ndarray.specs.declared.base.shape.Order.{Order}
use Rattle.ndtables.specs.Faults.{ForbidsCells, ForbidsTable, LeavesWords}
use Rattle.ndtables.specs.Spelling.{SpellsShape}
use Rattle.ndtables.specs.declared.fault.Fault.{Fault}
use Rattle.ndtables.specs.declared.fault.Fault.TheVariants.{Usage}

module _ (words : List (List ℕ)) (fault : Fault) where
  -- the first word spells a shape
  pub wrong-cells : (word : List ℕ) (rest : List (List ℕ)) (ns : List ℕ) (order : Order) → words ≡ word ∷ rest → SpellsShape word ns order → ForbidsCells (size ns) rest fault → ForbidsTable words fault
  wrong-cells word rest ns order e shape cells = subst (λ w. ForbidsTable w fault) (sym e) (inr (ns, order, shape, cells))

  -- a word is left over
  pub leaves-words : (words ≡ [] → ⊥) → fault ≡ Usage → LeavesWords words fault
  leaves-words some is = left words some is
    where
      left : (ws : List (List ℕ)) → (ws ≡ [] → ⊥) → fault ≡ Usage → LeavesWords ws fault
      left [] not u = absurd (not refl)
      left (w ∷ ws) not u = u
