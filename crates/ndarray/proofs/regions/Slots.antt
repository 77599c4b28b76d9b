-- The places of a slice that are held, and those of its parts.
use Rattle.std.proofs.Common.{◌≡◌, ◌≢◌, IsTrue, ℕ, zero, suc, ◌<◌, Bool, true, false, List, [], ◌∷◌, Option, Some, None, map, get_or, refl, sym, ap, ◌∙◌, ◌++◌, length, take, drop, arith}
use Rattle.std.specs.Option.{is_some}
use Rattle.std.specs.Prelude.{slice_get}
use lib.ListN.{set}
use Rattle.ndarray.specs.base.Slots.{somes, put_in, held_at, only_at, slots_in, slots_outside}

pub filled_within : {X : Type 0} (cs : List (Option X)) (i : ℕ) (x : X) → get_or cs i None ≡ Some x → i < length cs
filled_within [] i x e = cc
filled_within (c ∷ cs) zero x e = omega arith
filled_within (c ∷ cs) (suc i) x e = omega (arith, filled_within cs i x e)

pub run-one : {X : Type 0} (cs : List (Option X)) (i : ℕ) (x : X) → get_or cs i None ≡ Some x → take 1 (drop i cs) ≡ map Some (x ∷ [])
run-one [] i x e = cc
run-one (c ∷ cs) zero x e = ap (λ d. d ∷ []) e
run-one (c ∷ cs) (suc i) x e = run-one cs i x e

pub length-slots_in : {X : Type 0} (m : List Bool) (cs : List (Option X)) → length (slots_in m cs) ≡ length cs
length-slots_in m [] = refl
length-slots_in [] (c ∷ cs) = ap suc (length-slots_in [] cs)
length-slots_in (true ∷ m) (c ∷ cs) = ap suc (length-slots_in m cs)
length-slots_in (false ∷ m) (c ∷ cs) = ap suc (length-slots_in m cs)

pub length-slots_outside : {X : Type 0} (m : List Bool) (cs : List (Option X)) → length (slots_outside m cs) ≡ length cs
length-slots_outside m [] = refl
length-slots_outside [] (c ∷ cs) = ap suc (length-slots_outside [] cs)
length-slots_outside (true ∷ m) (c ∷ cs) = ap suc (length-slots_outside m cs)
length-slots_outside (false ∷ m) (c ∷ cs) = ap suc (length-slots_outside m cs)

pub somes-append : {X : Type 0} (cs ds : List (Option X)) → somes (cs ++ ds) ≡ somes cs ++ somes ds
somes-append [] ds = refl
somes-append (None ∷ cs) ds = somes-append cs ds
somes-append (Some c ∷ cs) ds = ap (λ xs. c ∷ xs) (somes-append cs ds)

-- the value, or d where there is none
abbrev pub given_or : {X : Type 0} → Option X → X → X
given_or None d = d
given_or (Some x) d = x

pub somes_all : {X : Type 0} (xs : List X) → somes (map Some xs) ≡ xs
somes_all [] = refl
somes_all (x ∷ xs) = ap (λ ys. x ∷ ys) (somes_all xs)

-- a list of values is known by the places that they fill
pub same-run : {X : Type 0} (xs ys : List X) → map Some xs ≡ map Some ys → xs ≡ ys
same-run xs ys e = sym (somes_all xs) ∙ (ap somes e ∙ somes_all ys)

-- the places of a slice all hold their elements
pub held-slice : {X : Type 0} (cs : List (Option X)) (xs : List X) → cs ≡ map Some xs → (p : ℕ) → held_at cs p ≡ slice_get xs p
held-slice cs [] e p = rw e refl
held-slice cs (x ∷ xs) e zero = rw e refl
held-slice cs (x ∷ xs) e (suc p) = rw e (held-slice (map Some xs) xs refl p)

pub somes-put_in : {X : Type 0} (cs : List (Option X)) (i n : ℕ) (ws : List X) → length ws ≡ n → somes (put_in cs i ws) ≡ somes (take i cs) ++ (ws ++ somes (drop n (drop i cs)))
somes-put_in cs i n ws e =
    somes-append (take i cs) (map Some ws ++ drop (length ws) (drop i cs))
    ∙ ap (λ xs. somes (take i cs) ++ xs) (somes-append (map Some ws) (drop (length ws) (drop i cs))
    ∙ (ap (λ xs. xs ++ somes (drop (length ws) (drop i cs))) (somes_all ws) ∙ ap (λ k. ws ++ somes (drop k (drop i cs))) e))

-- the places of cs, with other values
abbrev pub fill : {X : Type 0} → List (Option X) → List X → List (Option X)
fill [] ws = []
fill (None ∷ cs) ws = None ∷ fill cs ws
fill (Some c ∷ cs) [] = Some c ∷ fill cs []
fill (Some c ∷ cs) (w ∷ ws) = Some w ∷ fill cs ws

pub somes_fill : {X : Type 0} (cs : List (Option X)) (ws : List X) → length ws ≡ length (somes cs) → somes (fill cs ws) ≡ ws
somes_fill [] [] e = refl
somes_fill [] (w ∷ ws) e = absurd (omega arith)
somes_fill (None ∷ cs) ws e = somes_fill cs ws e
somes_fill (Some c ∷ cs) [] e = absurd (omega arith)
somes_fill (Some c ∷ cs) (w ∷ ws) e = ap (λ zs. w ∷ zs) (somes_fill cs ws (omega arith))

pub length-fill : {X : Type 0} (cs : List (Option X)) (ws : List X) → length (fill cs ws) ≡ length cs
length-fill [] ws = refl
length-fill (None ∷ cs) ws = ap suc (length-fill cs ws)
length-fill (Some c ∷ cs) [] = ap suc (length-fill cs [])
length-fill (Some c ∷ cs) (w ∷ ws) = ap suc (length-fill cs ws)

pub fill_same : {X : Type 0} (cs : List (Option X)) → fill cs (somes cs) ≡ cs
fill_same [] = refl
fill_same (None ∷ cs) = ap (λ ds. None ∷ ds) (fill_same cs)
fill_same (Some c ∷ cs) = ap (λ ds. Some c ∷ ds) (fill_same cs)

pub fill_set : {X : Type 0} (cs : List (Option X)) (i : ℕ) (x w : X) → get_or cs i None ≡ Some x → fill cs (somes (set cs i (Some w))) ≡ set cs i (Some w)
fill_set [] i x w e = cc
fill_set (None ∷ cs) zero x w e = cc
fill_set (Some c ∷ cs) zero x w e = ap (λ ds. Some w ∷ ds) (fill_same cs)
fill_set (None ∷ cs) (suc i) x w e = ap (λ ds. None ∷ ds) (fill_set cs i x w e)
fill_set (Some c ∷ cs) (suc i) x w e = ap (λ ds. Some c ∷ ds) (fill_set cs i x w e)

pub still_held : {X : Type 0} (cs : List (Option X)) (ws : List X) (p : ℕ) → IsTrue (is_some (get_or cs p None)) → IsTrue (is_some (get_or (fill cs ws) p None))
still_held [] ws p h = h
still_held (None ∷ cs) ws zero h = h
still_held (None ∷ cs) ws (suc p) h = still_held cs ws p h
still_held (Some c ∷ cs) [] zero h = h
still_held (Some c ∷ cs) [] (suc p) h = still_held cs [] p h
still_held (Some c ∷ cs) (w ∷ ws) zero h = refl
still_held (Some c ∷ cs) (w ∷ ws) (suc p) h = still_held cs ws p h

-- ---- one place and the others

pub slots_in-only : {X : Type 0} (cs : List (Option X)) (i : ℕ) → held_at (slots_in (only_at i) cs) i ≡ held_at cs i
slots_in-only [] i = refl
slots_in-only (c ∷ cs) zero = refl
slots_in-only (c ∷ cs) (suc i) = slots_in-only cs i

pub slots_outside-itself : {X : Type 0} (cs : List (Option X)) (i : ℕ) → held_at (slots_outside (only_at i) cs) i ≡ None
slots_outside-itself [] i = refl
slots_outside-itself (c ∷ cs) zero = refl
slots_outside-itself (c ∷ cs) (suc i) = slots_outside-itself cs i

pub slots_outside-only : {X : Type 0} (cs : List (Option X)) (i p : ℕ) → p ≢ i → held_at (slots_outside (only_at i) cs) p ≡ held_at cs p
slots_outside-only [] i p h = refl
slots_outside-only (c ∷ cs) zero zero h = absurd (h refl)
slots_outside-only (c ∷ cs) zero (suc p) h = slots_outside-none cs p
  where
    slots_outside-none : {X : Type 0} (ds : List (Option X)) (q : ℕ) → held_at (slots_outside [] ds) q ≡ held_at ds q
    slots_outside-none [] q = refl
    slots_outside-none (d ∷ ds) zero = refl
    slots_outside-none (d ∷ ds) (suc q) = slots_outside-none ds q
slots_outside-only (c ∷ cs) (suc i) zero h = refl
slots_outside-only (c ∷ cs) (suc i) (suc p) h = slots_outside-only cs i p (λ e. h (ap (λ n. suc n) e))
