-- Windows whose positions are steps apart: where they lie, and how many there are.
use Rattle.std.proofs.Common.{◌≡◌, ℕ, ◌+◌, ◌-◌, ◌*◌, ◌/◌, ◌%◌, ◌<◌, ◌≤◌, ◌^◌, ◌⊎◌, inl, inr, suc, zero, List, [], ◌∷◌, length, get_or, refl, sym, ◌∙◌, ap, arith, subst, Option}
use Rattle.std.proofs.lemmas.Bool.{cases_lt}
use Rattle.std.proofs.lemmas.Bool.Decides.{nat_tests}
use Rattle.std.proofs.Math.Nat.{div-zero, le-div_iff_mul-le, mod-add-mod, add-mul-mod_self_left, div-le_self}
use Rattle.std.proofs.lemmas.Nat.{div-add-mod'}
use Rattle.ndarray.specs.Index.{InBox}
use Rattle.ndarray.specs.Subviews.{ArePositive, window_index, window_count, window_counts}
use Rattle.ndarray.specs.base.Places.{dot, place, Reaches}
use Rattle.ndarray.specs.base.Pieces.{AreStepsOf, AreWindowsOf}
use Rattle.ndarray.proofs.boxes.Boxes.{InBox-length, InBox-get}
use Rattle.ndarray.proofs.boxes.Sizes.{nonzero-smaller}
use Rattle.ndarray.proofs.pieces.Pieces.{AreImages}

-- ---- one axis

pub none : (n w s : ℕ) → n < w → window_count n w s ≡ 0
none n w s h = grind (arith, nat_tests)

pub some : (n w s : ℕ) → w ≤ n → window_count n w s ≡ (n - w) / s + 1
some n w s h = grind (arith, nat_tests)

-- a window at a position lies within the axis, at steps that are not 0
fits-at_steps : (n w s p : ℕ) → 1 ≤ s → p < window_count n w s → p * s + w ≤ n
fits-at_steps n w s p h lt =
    elim (cases_lt n w) [
      | inl below ↦ (let z = none n w s below in absurd (omega arith))
      | inr le ↦ (
          let c = some n w s le in
          let q : p ≤ (n - w) / s = omega arith in
          let m : p * s ≤ n - w = (le-div_iff_mul-le h).0 q in
          omega arith)
    ]

-- and at any steps, as there is one position at steps of 0
pub window-fits : (n w s p : ℕ) → p < window_count n w s → p * s + w ≤ n
window-fits n w zero p lt =
    elim (cases_lt n w) [
      | inl below ↦ (let z = none n w 0 below in absurd (omega arith))
      | inr le ↦ (let c = some n w 0 le in let d = div-zero (n - w) in omega arith)
    ]
window-fits n w (suc s) p lt = fits-at_steps n w (suc s) p (omega arith) lt

-- there are at most as many windows as places, or one where there is no place
pub window_count-le : (n w s : ℕ) → 1 ≤ s → (w ≡ 0 → n ≡ 0) → (window_count n w s ≤ n) ⊎ (window_count n w s ≤ 1)
window_count-le n w s h z =
    elim (cases_lt n w) [
      | inl below ↦ (let e = none n w s below in inr (omega arith))
      | inr le ↦ (
          let c = some n w s le in
          let d : (n - w) / s ≤ n - w = div-le_self (n - w) s in
          elim (cases_lt 0 w) [
            | inl pos ↦ inl (omega arith)
            | inr zero_w ↦ (let n0 : n ≡ 0 = z (omega arith) in inr (omega arith))
          ])
    ]

-- ---- all axes

pub length-window_counts : (ns ws ss : List ℕ) → length ws ≡ length ns → length ss ≡ length ns → length (window_counts ns ws ss) ≡ length ns
length-window_counts [] ws ss lw ls = refl
length-window_counts (n ∷ ns) [] ss lw ls = absurd (omega arith)
length-window_counts (n ∷ ns) (w ∷ ws) [] lw ls = absurd (omega arith)
length-window_counts (n ∷ ns) (w ∷ ws) (s ∷ ss) lw ls = ap (λ x. suc x) (length-window_counts ns ws ss (omega arith) (omega arith))

pub get_or-window_counts : (ns ws ss : List ℕ) (k : ℕ) → length ws ≡ length ns → length ss ≡ length ns → k < length ns → get_or (window_counts ns ws ss) k 0 ≡ window_count (get_or ns k 0) (get_or ws k 0) (get_or ss k 0)
get_or-window_counts [] ws ss k lw ls lt = absurd (omega arith)
get_or-window_counts (n ∷ ns) [] ss k lw ls lt = absurd (omega arith)
get_or-window_counts (n ∷ ns) (w ∷ ws) [] k lw ls lt = absurd (omega arith)
get_or-window_counts (n ∷ ns) (w ∷ ws) (s ∷ ss) zero lw ls lt = refl
get_or-window_counts (n ∷ ns) (w ∷ ws) (s ∷ ss) (suc k) lw ls lt = get_or-window_counts ns ws ss k (omega arith) (omega arith) (omega arith)

-- an index of a window is an index of the array
pub window-inside : (ns ws ss ps js : List ℕ) → length ws ≡ length ns → length ss ≡ length ns → InBox (window_counts ns ws ss) ps → InBox ws js → InBox ns (window_index ss ps js)
window-inside [] [] [] ps js p q b c = tt
window-inside [] (w ∷ ws) [] ps js p q b c = absurd (omega arith)
window-inside [] ws (s ∷ ss) ps js p q b c = absurd (omega arith)
window-inside (n ∷ ns) [] ss ps js p q b c = absurd (omega arith)
window-inside (n ∷ ns) (w ∷ ws) [] ps js p q b c = absurd (omega arith)
window-inside (n ∷ ns) (w ∷ ws) (s ∷ ss) [] js p q b c = absurd b
window-inside (n ∷ ns) (w ∷ ws) (s ∷ ss) (x ∷ ps) [] p q b c = absurd c
window-inside (n ∷ ns) (w ∷ ws) (s ∷ ss) (x ∷ ps) (j ∷ js) p q b c =
    let fits = window-fits n w s x b.0 in
    let below : j < w = c.0 in
    (omega (arith, fits, below), window-inside ns ws ss ps js (omega arith) (omega arith) b.1 c.1)

-- so a window is no longer than the array
window-le : (ns ws ss ps : List ℕ) → length ws ≡ length ns → length ss ≡ length ns → InBox (window_counts ns ws ss) ps → (k : ℕ) → k < length ns → (get_or ws k 0 ≤ get_or ns k 0) ⊎ (get_or ws k 0 ≤ 1)
window-le [] ws ss ps lw ls b k lt = absurd (omega arith)
window-le (n ∷ ns) [] ss ps lw ls b k lt = absurd (omega arith)
window-le (n ∷ ns) (w ∷ ws) [] ps lw ls b k lt = absurd (omega arith)
window-le (n ∷ ns) (w ∷ ws) (s ∷ ss) [] lw ls b k lt = absurd b
window-le (n ∷ ns) (w ∷ ws) (s ∷ ss) (p ∷ ps) lw ls b zero lt = let f = window-fits n w s p b.0 in inl (omega arith)
window-le (n ∷ ns) (w ∷ ws) (s ∷ ss) (p ∷ ps) lw ls b (suc k) lt = window-le ns ws ss ps (omega arith) (omega arith) b.1 k (omega arith)

-- a factor modulo m makes no difference modulo m
mod-factor : (m y p z : ℕ) → (y + p * (z % m)) % m ≡ (y + p * z) % m
mod-factor m y p z =
    let d = div-add-mod' z m in
    let e : p * z ≡ p * (z / m * m + z % m) = ap (λ x. p * x) (sym d) in
    let sum : y + p * z ≡ y + p * (z % m) + m * (p * (z / m)) = omega arith in
    sym (ap (λ x. x % m) sum ∙ add-mul-mod_self_left (y + p * (z % m)) m (p * (z / m)))

-- the place of a position and of an index of its window add up to that of the index of the array
dot-window_index : (x : ℕ) (bs ss ds ps js : List ℕ) → length ss ≡ length bs → length ds ≡ length bs → length ps ≡ length bs → length js ≡ length bs → ((k : ℕ) → k < length bs → get_or ds k 0 ≡ (get_or bs k 0 * get_or ss k 0) % 2 ^ 64) → (x + dot ds ps + dot bs js) % 2 ^ 64 ≡ (x + dot bs (window_index ss ps js)) % 2 ^ 64
unfolding dot
dot-window_index x [] [] [] ps js ls ld lp lj h = ap (λ y. y % 2 ^ 64) (omega arith)
dot-window_index x [] [] (d ∷ ds) ps js ls ld lp lj h = absurd (omega arith)
dot-window_index x [] (s ∷ ss) ds ps js ls ld lp lj h = absurd (omega arith)
dot-window_index x (b ∷ bs) [] ds ps js ls ld lp lj h = absurd (omega arith)
dot-window_index x (b ∷ bs) (s ∷ ss) [] ps js ls ld lp lj h = absurd (omega arith)
dot-window_index x (b ∷ bs) (s ∷ ss) (d ∷ ds) [] js ls ld lp lj h = absurd (omega arith)
dot-window_index x (b ∷ bs) (s ∷ ss) (d ∷ ds) (p ∷ ps) [] ls ld lp lj h = absurd (omega arith)
dot-window_index x (b ∷ bs) (s ∷ ss) (d ∷ ds) (p ∷ ps) (j ∷ js) ls ld lp lj h =
    let ed : d ≡ (b * s) % 2 ^ 64 = h 0 (omega arith) in
    let y : ℕ = x + j * b + p * ((b * s) % 2 ^ 64) in
    let pd : p * d ≡ p * ((b * s) % 2 ^ 64) = ap (λ z. p * z) ed in
    let ih = dot-window_index y bs ss ds ps js (omega arith) (omega arith) (omega arith) (omega arith) (λ k lt. h (suc k) (omega arith)) in
    let rest : ℕ = dot bs (window_index ss ps js) in
    let sum1 : x + (p * d + dot ds ps) + (j * b + dot bs js) ≡ y + dot ds ps + dot bs js = omega arith in
    let sum2 : y + rest ≡ x + j * b + rest + p * ((b * s) % 2 ^ 64) = omega arith in
    let sum3 : x + j * b + rest + p * (b * s) ≡ x + ((p * s + j) * b + rest) = omega arith in
    ap (λ z. z % 2 ^ 64) sum1
    ∙ (ih ∙ (ap (λ z. z % 2 ^ 64) sum2 ∙ (mod-factor (2 ^ 64) (x + j * b + rest) p (b * s) ∙ ap (λ z. z % 2 ^ 64) sum3)))

-- where there are positions, they lie the stride times the step apart
apart-by_steps : (cs bs ss ds ps : List ℕ) → AreStepsOf cs bs ss ds → InBox cs ps → (k : ℕ) → k < length cs → get_or ds k 0 ≡ (get_or bs k 0 * get_or ss k 0) % 2 ^ 64
apart-by_steps cs bs ss ds ps h b k lt = elim (h.each k lt) [ inl z ↦ (let g = InBox-get cs ps k b lt in absurd (omega arith)) | inr e ↦ e ]

window-same : (start : ℕ) (bs ss ds ps js : List ℕ) → length ss ≡ length bs → length ds ≡ length bs → length ps ≡ length bs → length js ≡ length bs → ((k : ℕ) → k < length bs → get_or ds k 0 ≡ (get_or bs k 0 * get_or ss k 0) % 2 ^ 64) → place (place start ds ps) bs js ≡ place start bs (window_index ss ps js)
unfolding place
window-same start bs ss ds ps js ls ld lp lj h =
    mod-add-mod (start + dot ds ps) (2 ^ 64) (dot bs js) ∙ dot-window_index start bs ss ds ps js ls ld lp lj h

pub windows-images : {A one : Type 0} (at : ℕ → Option A) (ns : List ℕ) (start : ℕ) (bs ws ss ds : List ℕ) → Reaches one at ns start bs → AreWindowsOf ns ws → ArePositive ns ss → AreStepsOf (window_counts ns ws ss) bs ss ds → AreImages ns start bs (window_counts ns ws ss) ds ws bs (window_index ss)
windows-images at ns start bs ws ss ds h aw pos apart =
    let lw = aw.as_many in
    let ls = pos.as_many in
    let lb = h.as_many in
    let lc = length-window_counts ns ws ss lw ls in
    let limit = h.limit in
    record {
      as_many = apart.as_many;
      limit = let n = nonzero-smaller (window_counts ns ws ss) ns lc (λ k lt. subst (λ c. (c ≤ get_or ns k 0) ⊎ (c ≤ 1)) (sym (get_or-window_counts ns ws ss k lw ls lt)) (window_count-le (get_or ns k 0) (get_or ws k 0) (get_or ss k 0) (pos.positive k 0 (omega arith)) (aw.none k lt))) in omega arith;
      each = λ p b.
          let lp = InBox-length (window_counts ns ws ss) p b in
          record {
            as_many = omega arith;
            limit = let n = nonzero-smaller ws ns lw (window-le ns ws ss p lw ls b) in omega arith;
            image = λ js c. window-inside ns ws ss p js lw ls b c;
            same = λ js c.
                let lj = InBox-length ws js c in
                let la = apart.as_many in
                window-same start bs ss ds p js (omega arith) (omega arith) (omega arith) (omega arith) (λ k lt. apart-by_steps (window_counts ns ws ss) bs ss ds p apart b k (omega arith));
            nested = λ no. absurd no;
          };
    }
