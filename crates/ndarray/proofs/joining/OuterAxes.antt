-- The axes before one: their box, and where in row order the index lists stand below which the cells of a block are.
use Rattle.std.proofs.Common.{◌≡◌, ℕ, ◌+◌, ◌*◌, ◌<◌, ◌≤◌, suc, zero, List, [], ◌∷◌, length, drop, set, get_or, replicate, insert, remove, refl, sym, ◌∙◌, ap, arith, subst}
use Rattle.std.proofs.Math.Nat.{mul-le-mul_left}
use Rattle.std.proofs.lemmas.List.{set-set, set-get_or}
use Rattle.ndarray.specs.Index.{InBox, size}
use Rattle.ndarray.specs.Limits.{nonzero_size}
use Rattle.ndarray.specs.base.Ranks.{rank}
use Rattle.ndarray.specs.stacking.Blocks.{outer_lengths}
use Rattle.ndarray.proofs.boxes.Boxes.{InBox-length, InBox-set_both, InBox-ones}
use Rattle.ndarray.proofs.boxes.Orders.{rank-lt}
use Rattle.ndarray.proofs.boxes.Sizes.{size-ones}
use Rattle.ndarray.proofs.boxes.Walks.{rank-zeros}

-- the index list on the axes before one, and 0 from there on
abbrev pub outer_index : ℕ → List ℕ → List ℕ
outer_index zero is = replicate (length is) 0
outer_index (suc a) [] = []
outer_index (suc a) (i ∷ is) = i ∷ outer_index a is

-- while the lengths from an axis up to another are set to 1
abbrev pub ones_between : ℕ → ℕ → List ℕ → List ℕ
ones_between a k [] = []
ones_between a zero (n ∷ ns) = n ∷ ns
ones_between zero (suc k) (n ∷ ns) = 1 ∷ ones_between zero k ns
ones_between (suc a) (suc k) (n ∷ ns) = n ∷ ones_between a k ns

pub length-ones_between : (a k : ℕ) (ns : List ℕ) → length (ones_between a k ns) ≡ length ns
length-ones_between a k [] = refl
length-ones_between a zero (n ∷ ns) = refl
length-ones_between zero (suc k) (n ∷ ns) = ap (λ m. suc m) (length-ones_between zero k ns)
length-ones_between (suc a) (suc k) (n ∷ ns) = ap (λ m. suc m) (length-ones_between a k ns)

pub ones-none : (a : ℕ) (ns : List ℕ) → ones_between a a ns ≡ ns
ones-none a [] = refl
ones-none zero (n ∷ ns) = refl
ones-none (suc a) (n ∷ ns) = ap (λ l. n ∷ l) (ones-none a ns)

pub ones-more : (a k : ℕ) (ns : List ℕ) → a ≤ k → k < length ns → set (ones_between a k ns) k 1 ≡ ones_between a (suc k) ns
ones-more a k [] le lt = absurd (omega arith)
ones-more zero zero (n ∷ []) le lt = refl
ones-more zero zero (n ∷ m ∷ ns) le lt = refl
ones-more (suc a) zero (n ∷ ns) le lt = absurd (omega arith)
ones-more zero (suc k) (n ∷ ns) le lt = ap (λ l. 1 ∷ l) (ones-more zero k ns (omega arith) (omega arith))
ones-more (suc a) (suc k) (n ∷ ns) le lt = ap (λ l. n ∷ l) (ones-more a k ns (omega arith) (omega arith))

pub ones-all : (a k : ℕ) (ns : List ℕ) → length ns ≤ k → ones_between a k ns ≡ outer_lengths a ns
ones-all zero k [] le = refl
ones-all (suc a) k [] le = refl
ones-all a zero (n ∷ ns) le = absurd (omega arith)
ones-all zero (suc k) (n ∷ ns) le = ap (λ l. 1 ∷ l) (ones-all zero k ns (omega arith))
ones-all (suc a) (suc k) (n ∷ ns) le = ap (λ l. n ∷ l) (ones-all a k ns (omega arith))

pub nonzero-ones : (m : ℕ) → nonzero_size (replicate m 1) ≡ 1
nonzero-ones zero = refl
nonzero-ones (suc m) = let e = nonzero-ones m in omega arith

nonzero-some : (ns : List ℕ) → 1 ≤ nonzero_size ns
nonzero-some [] = omega arith
nonzero-some (zero ∷ ns) = nonzero-some ns
nonzero-some (suc n ∷ ns) = let p = nonzero-some ns in let m = mul-le-mul_left n p in omega arith

-- the outer axes are within the limit
pub nonzero-outer : (a : ℕ) (ns : List ℕ) → nonzero_size (outer_lengths a ns) ≤ nonzero_size ns
nonzero-outer zero ns = let e = nonzero-ones (length ns) in let p = nonzero-some ns in omega arith
nonzero-outer (suc a) [] = omega arith
nonzero-outer (suc a) (zero ∷ ns) = nonzero-outer a ns
nonzero-outer (suc a) (suc n ∷ ns) = mul-le-mul_left (suc n) (nonzero-outer a ns)

pub size-outer : (a : ℕ) (ns : List ℕ) → size ns ≡ size (outer_lengths a ns) * size (drop a ns)
size-outer zero ns = let e = ap (λ x. x * size ns) (size-ones (length ns)) in omega arith
size-outer (suc a) [] = refl
size-outer (suc a) (n ∷ ns) = ap (λ x. n * x) (size-outer a ns) ∙ omega arith

-- a change of the length of the axis changes no outer one
pub outer-set : (a v : ℕ) (ns : List ℕ) → outer_lengths a (set ns a v) ≡ outer_lengths a ns
outer-set zero v [] = refl
outer-set zero v (n ∷ ns) = refl
outer-set (suc a) v [] = refl
outer-set (suc a) v (n ∷ ns) = ap (λ l. n ∷ l) (outer-set a v ns)

pub outer_index-set : (a v : ℕ) (is : List ℕ) → outer_index a (set is a v) ≡ outer_index a is
outer_index-set zero v [] = refl
outer_index-set zero v (i ∷ is) = refl
outer_index-set (suc a) v [] = refl
outer_index-set (suc a) v (i ∷ is) = ap (λ l. i ∷ l) (outer_index-set a v is)

-- the outer index list is in the outer box
pub InBox-outer : (a : ℕ) (ns is : List ℕ) → InBox ns is → InBox (outer_lengths a ns) (outer_index a is)
InBox-outer zero ns is b = subst (λ m. InBox (replicate (length ns) 1) (replicate m 0)) (sym (InBox-length ns is b)) (InBox-ones (length ns))
InBox-outer (suc a) [] [] b = tt
InBox-outer (suc a) [] (i ∷ is) b = absurd b
InBox-outer (suc a) (n ∷ ns) [] b = absurd b
InBox-outer (suc a) (n ∷ ns) (i ∷ is) b = (b.0, InBox-outer a ns is b.1)

rank-inner : (ns ps : List ℕ) → InBox (replicate (length ns) 1) ps → (rank ns ps ≡ 0) × (rank (replicate (length ns) 1) ps ≡ 0)
unfolding rank
rank-inner [] ps b = (refl, refl)
rank-inner (n ∷ ns) [] b = absurd b
rank-inner (n ∷ ns) (p ∷ ps) b =
    let (x, y) = rank-inner ns ps b.1 in
    let z : p ≡ 0 = omega (arith, b.0) in
    let e : p * size ns ≡ 0 * size ns = ap (λ q. q * size ns) z in
    let f : p * size (replicate (length ns) 1) ≡ 0 * size (replicate (length ns) 1) = ap (λ q. q * size (replicate (length ns) 1)) z in
    (omega arith, omega arith)

-- below an index list of the outer box the cells of a block begin
pub rank-outer : (a : ℕ) (ns ps : List ℕ) → InBox (outer_lengths a ns) ps → rank ns ps ≡ rank (outer_lengths a ns) ps * size (drop a ns)
unfolding rank
rank-outer zero ns ps b = let (x, y) = rank-inner ns ps b in let e = ap (λ q. q * size ns) y in omega arith
rank-outer (suc a) [] ps b = refl
rank-outer (suc a) (n ∷ ns) [] b = absurd b
rank-outer (suc a) (n ∷ ns) (p ∷ ps) b =
    let ih = rank-outer a ns ps b.1 in
    let s = ap (λ x. p * x) (size-outer a ns) in
    omega arith

-- and there are as many of them left
pub block-fits : (a : ℕ) (ns ps : List ℕ) → InBox (outer_lengths a ns) ps → rank ns ps + size (drop a ns) ≤ size ns
block-fits a ns ps b =
    let r = rank-outer a ns ps b in
    let lt : rank (outer_lengths a ns) ps + 1 ≤ size (outer_lengths a ns) = let l = rank-lt (outer_lengths a ns) ps b in omega arith in
    let s = size-outer a ns in
    let m = mul-le-mul_left (size (drop a ns)) lt in
    omega arith

-- where a block has cells, the outer index list is in the box
pub InBox-inner : (a : ℕ) (ns ps : List ℕ) → InBox (outer_lengths a ns) ps → 0 < size (drop a ns) → InBox ns ps
InBox-inner zero [] ps b some = b
InBox-inner zero (n ∷ ns) [] b some = absurd b
InBox-inner zero (zero ∷ ns) (p ∷ ps) b some = absurd (omega arith)
InBox-inner zero (suc n ∷ ns) (p ∷ ps) b some = (omega (arith, b.0), InBox-inner zero ns ps b.1 (pos-factor (suc n) (size ns) some))
  where
    pos-factor : (m s : ℕ) → 0 < m * s → 0 < s
    pos-factor m zero h = absurd (omega arith)
    pos-factor m (suc s) h = omega arith
InBox-inner (suc a) [] ps b some = b
InBox-inner (suc a) (n ∷ ns) [] b some = absurd b
InBox-inner (suc a) (n ∷ ns) (p ∷ ps) b some = (b.0, InBox-inner a ns ps b.1 some)

pub size-set : (a v : ℕ) (ns : List ℕ) → a < length ns → size (set ns a v) ≡ size (outer_lengths a ns) * (v * size (drop (suc a) ns))
size-set a v [] lt = absurd (omega arith)
size-set zero v (n ∷ ns) lt = let e = ap (λ x. x * (v * size ns)) (size-ones (length ns)) in omega arith
size-set (suc a) v (n ∷ ns) lt = ap (λ x. n * x) (size-set a v ns (omega arith)) ∙ omega arith

-- the rank of an index list: of the outer one, of the index on the axis, and of those behind
pub rank-set : (a v : ℕ) (ns is : List ℕ) → a < length ns → length is ≡ length ns
    → rank (set ns a v) is ≡ rank (outer_lengths a ns) (outer_index a is) * (v * size (drop (suc a) ns)) + (get_or is a 0 * size (drop (suc a) ns) + rank (drop (suc a) ns) (drop (suc a) is))
unfolding rank
rank-set a v [] is lt l = absurd (omega arith)
rank-set a v (n ∷ ns) [] lt l = absurd (omega arith)
rank-set zero v (n ∷ ns) (i ∷ is) lt l =
    let z = rank-zeros (replicate (length ns) 1) (length is) in
    let e = ap (λ x. x * (v * size ns)) z in
    omega arith
rank-set (suc a) v (n ∷ ns) (i ∷ is) lt l =
    let ih = rank-set a v ns is (omega arith) (omega arith) in
    let s = ap (λ x. i * x) (size-set a v ns (omega arith)) in
    omega arith

pub size-insert : (ns : List ℕ) (a c : ℕ) → a ≤ length ns → size (insert ns a c) ≡ size (outer_lengths a ns) * (c * size (drop a ns))
size-insert ns zero c le = let e = ap (λ x. x * (c * size ns)) (size-ones (length ns)) in omega arith
size-insert [] (suc a) c le = absurd (omega arith)
size-insert (n ∷ ns) (suc a) c le = ap (λ x. n * x) (size-insert ns a c (omega arith)) ∙ omega arith

-- the same where the axis is a new one
pub rank-insert : (a c : ℕ) (ns is : List ℕ) → a ≤ length ns → length is ≡ suc (length ns)
    → rank (insert ns a c) is ≡ rank (outer_lengths a ns) (outer_index a (remove is a)) * (c * size (drop a ns)) + (get_or is a 0 * size (drop a ns) + rank (drop a ns) (drop a (remove is a)))
unfolding rank
rank-insert a c ns [] le l = absurd (omega arith)
rank-insert zero c ns (i ∷ is) le l =
    let z = rank-zeros (replicate (length ns) 1) (length is) in
    let e = ap (λ x. x * (c * size ns)) z in
    omega arith
rank-insert (suc a) c [] (i ∷ is) le l = absurd (omega arith)
rank-insert (suc a) c (n ∷ ns) (i ∷ is) le l =
    let ih = rank-insert a c ns is (omega arith) (omega arith) in
    let s = ap (λ x. i * x) (size-insert ns a c (omega arith)) in
    omega arith

-- and without one: of the outer index list, and of those from the axis on
pub rank-below : (a : ℕ) (ns is : List ℕ) → length is ≡ length ns → rank ns is ≡ rank ns (outer_index a is) + rank (drop a ns) (drop a is)
unfolding rank
rank-below zero ns is l = let z = rank-zeros ns (length is) in omega arith
rank-below (suc a) [] is l = refl
rank-below (suc a) (n ∷ ns) [] l = absurd (omega arith)
rank-below (suc a) (n ∷ ns) (i ∷ is) l = let ih = rank-below a ns is (omega arith) in omega arith

-- an index list within another length of the axis
pub InBox-other : (ns is : List ℕ) (a n v : ℕ) → InBox (set ns a n) is → get_or is a 0 < v → InBox (set ns a v) is
InBox-other ns is a n v b lt =
    subst (λ js. InBox (set ns a v) js) (set-get_or is a 0) (subst (λ ms. InBox ms (set is a (get_or is a 0))) (set-set ns a n v) (InBox-set_both (set ns a n) is a v (get_or is a 0) b lt))
