-- How many answers calls gave.
use Rattle.std.proofs.Common.{◌≡◌, ℕ, ◌+◌, ◌<◌, Bool, List, [], ◌∷◌, ◌++◌, length, Option, Some, sym, ap, arith}
use Rattle.std.proofs.lemmas.List.{length-append}
use Rattle.std.specs.List.{FoldsTo}
use Rattle.ndarray.specs.Orders.{box_in}
use Rattle.ndarray.specs.Runs.{MayGather, MayTest, TurnAt, GatherTurn}
use Rattle.ndarray.specs.declared.base.shape.Order.{Order}
use Rattle.ndarray.specs.declared.base.shape.Order.TheVariants.{RowMajor, ColumnMajor}
use Rattle.ndarray.proofs.runs.Turns.{Reached, found}

module _ {F A R : Type 0} (call_gives : F → A → R → F → Type 0) (yields_at : List ℕ → A → Type 0) where
  -- there are as many answers as turns
  pub gathered-length : (is : List (List ℕ)) (p q : F × List R) → FoldsTo (TurnAt yields_at (GatherTurn call_gives)) p is q → length q.1 ≡ length p.1 + length is
  gathered-length [] p q f = let e : length q.1 ≡ length p.1 = ap (λ (s : F × List R). length s.1) (sym f) in omega arith
  gathered-length (i ∷ is) p q f =
      let (m, (x, s, (r, e, k)), h) = f in
      let n = gathered-length is m q h in
      let l : length m.1 ≡ length (p.1 ++ (r ∷ [])) = ap (length {A = R}) e in
      omega (arith, length-append p.1 (r ∷ []))

  -- where an item came, not all answers were given
  pub gathered-room : {S : Type 0} (next : S → Option A → S → Type 0) {is : List (List ℕ)} {t u : S} {f g : F} {rs : List R} {x : A}
      → Reached next yields_at (GatherTurn call_gives) is t (f, []) (g, rs) → next t (Some x) u → length rs < length is
  gathered-room next {is} {t} {u} {f} {g} {rs} b st =
      let k = found next yields_at (GatherTurn call_gives) b st in
      let n = gathered-length k.done (f, []) (g, rs) k.turns in
      let l : length (k.done ++ (k.place ∷ k.rest)) ≡ length is = ap (length {A = List ℕ}) k.parts in
      omega (arith, length-append k.done (k.place ∷ k.rest))

-- what may be called in row order and in column order may be called in any order
pub may_gather_in : {F A R : Type 0} (yields_at : List ℕ → A → Type 0) (call_gives : F → A → R → F → Type 0) (can_call : F → A → Type 0) (ns : List ℕ) (f : F)
    → MayGather yields_at call_gives can_call (box_in RowMajor ns) f → MayGather yields_at call_gives can_call (box_in ColumnMajor ns) f → (o : Order) → MayGather yields_at call_gives can_call (box_in o ns) f
may_gather_in yields_at call_gives can_call ns f rows columns RowMajor = rows
may_gather_in yields_at call_gives can_call ns f rows columns ColumnMajor = columns

pub may_test_in : {F A : Type 0} (yields_at : List ℕ → A → Type 0) (call_gives : F → A → Bool → F → Type 0) (can_call : F → A → Type 0) (ns : List ℕ) (f : F) (on : Bool)
    → MayTest yields_at call_gives can_call (box_in RowMajor ns) f on → MayTest yields_at call_gives can_call (box_in ColumnMajor ns) f on → (o : Order) → MayTest yields_at call_gives can_call (box_in o ns) f on
may_test_in yields_at call_gives can_call ns f on rows columns RowMajor = rows
may_test_in yields_at call_gives can_call ns f on rows columns ColumnMajor = columns
