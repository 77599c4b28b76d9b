-- What updates leave in the cells of an array.
use Rattle.std.proofs.Common.{◌≡◌, ℕ, List, [], ◌∷◌, ◌++◌, length, Ok, Err, arith, subst, ap, length-append, inl, inr, refl}
use Rattle.std.specs.Prelude.{IfErr, IsOk, Result}
use Rattle.std.specs.List.{FoldsTo}
use Rattle.ndarray.specs.Index.{size}
use Rattle.ndarray.specs.Grid.{Grid, IsGrid}
use Rattle.ndarray.specs.Orders.{box_in, HasInOrder}
use Rattle.ndarray.specs.Runs.{Collects, TurnAt, GatherTurn}
use Rattle.ndarray.specs.Updates.{UpdatesUntil, answers}
use Rattle.ndarray.specs.declared.base.shape.Order.{Order}
use Rattle.ndarray.proofs.boxes.Orders.{length-box_in}
use Rattle.ndarray.proofs.cells.Cells.{cells_in-HasInOrder}

module _ {F X A E : Type 0} (yields_at : List ℕ → X → Type 0) (call_gives : F → X → Result A E → F → Type 0) (o : Order) (f : F) (old new : Grid A) where
  -- where no call was refused, the cells are the answers
  pub updates-collect : IsGrid new → UpdatesUntil yields_at call_gives o f old (Ok tt) new → Collects yields_at (answers call_gives) o old.lengths f new
  updates-collect whole u =
      let (done, q, turns, end) = u.ran in
      elim end [
        | inl h ↦ record {
          lengths = u.lengths;
          answers = q.1;
          cells = subst (HasInOrder o new) h.1.1 (cells_in-HasInOrder o new whole);
          list = h.1.1;
          gathered = (q.0, subst (λ l. FoldsTo {P = F × List A} (TurnAt yields_at (GatherTurn (answers call_gives))) (f, []) l q) h.0 turns);
        }
        | inr h ↦ absurd (cc)
      ]

  -- no call was refused where none can be, by what calls keep of the closure
  pub updates-ok : (Known : F → Type 0) → ((g : F) (x : X) (a : A) (h : F) → Known g → call_gives g x (Ok a) h → Known h) → Known f
      → ((i : List ℕ) (g : F) (x : X) (e : E) (h : F) → Known g → yields_at i x → call_gives g x (Err e) h → ⊥)
      → (r : Result (Unit {0}) E) → UpdatesUntil yields_at call_gives o f old r new → IsOk r
  updates-ok Known keeps known never r u =
      let (done, q, turns, end) = u.ran in
      elim end [
        | inl h ↦ rw h.1.0
        | inr h ↦ (let (i, rest, parts, (x, y, (e, g, is, call, left))) = h in absurd (never i q.0 x e g (known-after done (f, []) q known turns) y call))
      ]
    where
      known-after : (is : List (List ℕ)) (p q : F × List A) → Known p.0 → FoldsTo (TurnAt yields_at (GatherTurn (answers call_gives))) p is q → Known q.0
      known-after [] p q n c = subst (λ (s : F × List A). Known s.0) c n
      known-after (i ∷ is) p q n c = let (m, (x, s, (a, e, k)), rest) = c in known-after is m q (keeps p.0 x a m.0 n k) rest

  -- nor where there is no cell
  pub updates-none : (r : Result (Unit {0}) E) → size old.lengths ≡ 0 → UpdatesUntil yields_at call_gives o f old r new → IsOk r
  updates-none r none u =
      let (done, q, turns, end) = u.ran in
      elim end [
        | inl h ↦ rw h.1.0
        | inr h ↦ (let l = length-box_in o old.lengths in let p : length (done ++ (h.0 ∷ h.1)) ≡ length (box_in o old.lengths) = ap (length {A = List ℕ}) h.2 in absurd (omega (arith, length-append done (h.0 ∷ h.1))))
      ]

-- a call that updates an array answers it, unless updates stopped
module _ {F X A B E : Type 0} (yields_at : List ℕ → X → Type 0) (call_gives : F → X → Result A E → F → Type 0) (f : F) (old : Grid A) where
  abbrev Stopped : Result B E → Type 0
  Stopped r = IfErr r (λ e. (o : Order) × (new : Grid A) × UpdatesUntil yields_at call_gives o f old (Err e) new)

  pub stopped-never : (Known : F → Type 0) → ((g : F) (x : X) (a : A) (h : F) → Known g → call_gives g x (Ok a) h → Known h) → Known f
      → ((i : List ℕ) (g : F) (x : X) (e : E) (h : F) → Known g → yields_at i x → call_gives g x (Err e) h → ⊥)
      → (r : Result B E) → Stopped r → IsOk r
  stopped-never Known keeps known never (Ok x) s = refl
  stopped-never Known keeps known never (Err e) (o, new, u) = let ok = updates-ok yields_at call_gives o f old new Known keeps known never (Err e) u in absurd (cc)

  pub stopped-none : (r : Result B E) → size old.lengths ≡ 0 → Stopped r → IsOk r
  stopped-none (Ok x) none s = refl
  stopped-none (Err e) none (o, new, u) = let ok = updates-none yields_at call_gives o f old new (Err e) none u in absurd (cc)
