-- Index lists of a row counted from a start: they are a row too.
use Rattle.std.proofs.Common.{◌≡◌, ℕ, ◌+◌, ◌<◌, ◌≤◌, ◌^◌, suc, zero, List, [], ◌∷◌, length, map, set, get_or, Some, refl, sym, ◌∙◌, ap, arith}
use Rattle.std.specs.Prelude.{All, filter_map}
use Rattle.std.proofs.lemmas.List.{get_or-set_same, length-set}
use Rattle.std.proofs.lemmas.List.Elements.{All-head, All-tail}
use Rattle.std.proofs.lemmas.Simd.{map-map}
use Rattle.ndarray.specs.Index.{InBox}
use Rattle.ndarray.specs.Grid.{array_by, cell}
use Rattle.ndarray.specs.base.IndexLists.{shifted_index}
use Rattle.ndarray.specs.base.Ranks.{row_from}
use Rattle.ndarray.proofs.boxes.Boxes.{InBox-get}
use Rattle.ndarray.proofs.cells.Cells.{array_by-cell}
use Rattle.ndarray.proofs.lists.Elements.{filter_map-from_map, map-same}

-- one more on an axis
shifted-more : (ss is : List ℕ) (k : ℕ) → shifted_index ss (set is k (get_or is k 0 + 1)) ≡ set (shifted_index ss is) k (get_or (shifted_index ss is) k 0 + 1)
unfolding shifted_index
shifted-more [] is k = refl
shifted-more (s ∷ ss) [] zero = refl
shifted-more (s ∷ ss) [] (suc k) = refl
shifted-more (s ∷ ss) (i ∷ is) zero = ap (λ n. n ∷ shifted_index ss is) (let e : s + (i + 1) ≡ s + i + 1 = omega arith in e)
shifted-more (s ∷ ss) (i ∷ is) (suc k) = ap (λ js. (s + i) ∷ js) (shifted-more ss is k)

pub shifted-row : (ss : List ℕ) (axis n : ℕ) (is : List ℕ) → row_from (shifted_index ss is) axis n ≡ map (shifted_index ss) (row_from is axis n)
shifted-row ss axis zero is = refl
shifted-row ss axis (suc n) is = ap (λ js. shifted_index ss is ∷ row_from js axis n) (sym (shifted-more ss is axis)) ∙ ap (λ l. shifted_index ss is ∷ l) (shifted-row ss axis n (set is axis (get_or is axis 0 + 1)))

-- the lists of a row of the box
pub lists-row : (ss ns is : List ℕ) (axis n : ℕ) → All (InBox ns) (row_from is axis n) → row_from (shifted_index ss is) axis n ≡ filter_map (cell (array_by ns (shifted_index ss))) (row_from is axis n)
lists-row ss ns is axis n within =
    shifted-row ss axis n is
    ∙ sym (filter_map-from_map (cell (array_by ns (shifted_index ss))) (row_from is axis n) (map (shifted_index ss) (row_from is axis n))
    (map-same (cell (array_by ns (shifted_index ss))) (λ js. Some (shifted_index ss js)) (InBox ns) (row_from is axis n) (λ js b. array_by-cell ns (shifted_index ss) js b) within ∙ sym (map-map Some (shifted_index ss) (row_from is axis n))))

-- a row of the box ends below the length of its axis
pub row-room : (ns : List ℕ) (axis n : ℕ) (is : List ℕ) → axis < length is → axis < length ns → All (InBox ns) (row_from is axis (suc n)) → get_or is axis 0 + suc n ≤ get_or ns axis 0
row-room ns axis zero is lt ln within = let b = InBox-get ns is axis (All-head (InBox ns) is [] within) ln in omega arith
row-room ns axis (suc n) is lt ln within =
    let js : List ℕ = set is axis (get_or is axis 0 + 1) in
    let l = length-set is axis (get_or is axis 0 + 1) in
    let here : get_or js axis 0 ≡ get_or is axis 0 + 1 = get_or-set_same is axis (get_or is axis 0 + 1) 0 lt in
    let r = row-room ns axis n js (omega arith) ln (All-tail (InBox ns) is (row_from js axis (suc n)) within) in
    omega arith

pub shifted-get : (ss is : List ℕ) (k : ℕ) → k < length ss → k < length is → get_or (shifted_index ss is) k 0 ≡ get_or ss k 0 + get_or is k 0
unfolding shifted_index
shifted-get [] is k ls li = absurd (omega arith)
shifted-get (s ∷ ss) [] k ls li = absurd (omega arith)
shifted-get (s ∷ ss) (i ∷ is) zero ls li = refl
shifted-get (s ∷ ss) (i ∷ is) (suc k) ls li = shifted-get ss is k (omega arith) (omega arith)

-- so that the counted ones stay in the range
pub list-room : (ss ns is : List ℕ) (axis n : ℕ) → length ss ≡ length ns → length is ≡ length ns → ((k : ℕ) → k < length ns → get_or ss k 0 + get_or ns k 0 < 2 ^ 64) → axis < length ns → 0 < n → All (InBox ns) (row_from is axis n)
    → get_or (shifted_index ss is) axis 0 + n ≤ 2 ^ 64
list-room ss ns is axis zero ls li room lt some within = absurd (omega arith)
list-room ss ns is axis (suc n) ls li room lt some within =
    let r = row-room ns axis n is (omega arith) lt within in
    let e = shifted-get ss is axis (omega arith) (omega arith) in
    let m = room axis lt in
    omega arith
