-- An axis taken out, and an index put in at it; an axis of length 1 put in.
use Rattle.std.proofs.Common.{◌≡◌, ℕ, ◌+◌, ◌*◌, ◌%◌, ◌<◌, ◌≤◌, ◌^◌, suc, zero, List, [], ◌∷◌, length, get_or, ◌∙◌, ap, arith, Option}
use Rattle.std.specs.Prelude.{insert, remove}
use Rattle.std.proofs.Math.Nat.{mul-le-mul_left}
use Rattle.std.proofs.lemmas.List.Edits.{length-remove, length-insert}
use Rattle.ndarray.specs.Index.{InBox}
use Rattle.ndarray.specs.Limits.{nonzero_size}
use Rattle.ndarray.specs.base.Places.{dot, place, Reaches, Rearranges}
use Rattle.ndarray.proofs.boxes.Boxes.{InBox-length}
use Rattle.ndarray.proofs.strides.NestedMoves.{nested-inserted, nested-removed}
use Rattle.ndarray.proofs.strides.Reach.{mod_twice}
use Rattle.ndarray.proofs.boxes.Sizes.{nonzero-insert_one}

pub dot-insert : (bs js : List ℕ) (k i : ℕ) → k < length bs → length js + 1 ≡ length bs → dot bs (insert js k i) ≡ dot (remove bs k) js + i * get_or bs k 0
unfolding dot
dot-insert [] js k i lt l = absurd (omega arith)
dot-insert (c ∷ bs) js zero i lt l = omega arith
dot-insert (c ∷ bs) [] (suc k) i lt l = absurd (omega arith)
dot-insert (c ∷ bs) (j ∷ js) (suc k) i lt l = let h = dot-insert bs js k i (omega arith) (omega arith) in omega arith

pub InBox-insert : (ns js : List ℕ) (k i : ℕ) → k < length ns → i < get_or ns k 0 → InBox (remove ns k) js → InBox ns (insert js k i)
InBox-insert [] js k i lt b h = absurd (omega arith)
InBox-insert (n ∷ ns) js zero i lt b h = (b, h)
InBox-insert (n ∷ ns) [] (suc k) i lt b h = absurd h
InBox-insert (n ∷ ns) (j ∷ js) (suc k) i lt b h = (h.0, InBox-insert ns js k i (omega arith) b h.1)

nonzero-tail : (n : ℕ) (ns : List ℕ) → nonzero_size ns ≤ nonzero_size (n ∷ ns)
nonzero-tail zero ns = omega arith
nonzero-tail (suc n) ns = let m : nonzero_size ns * 1 ≤ nonzero_size ns * suc n = mul-le-mul_left (nonzero_size ns) (omega arith) in omega arith

nonzero-cons : (n : ℕ) (xs ys : List ℕ) → nonzero_size xs ≤ nonzero_size ys → nonzero_size (n ∷ xs) ≤ nonzero_size (n ∷ ys)
nonzero-cons zero xs ys h = h
nonzero-cons (suc n) xs ys h = mul-le-mul_left (suc n) h

pub nonzero-remove : (ns : List ℕ) (k : ℕ) → nonzero_size (remove ns k) ≤ nonzero_size ns
nonzero-remove [] zero = omega arith
nonzero-remove [] (suc k) = omega arith
nonzero-remove (n ∷ ns) zero = nonzero-tail n ns
nonzero-remove (n ∷ ns) (suc k) = nonzero-cons n (remove ns k) ns (nonzero-remove ns k)

-- item i along an axis lies where the array lies at the index lists with i put in
pub rearranges-item : {A one : Type 0} (two : Type 0) (at : ℕ → Option A) (ns : List ℕ) (start : ℕ) (bs : List ℕ) (k i start' : ℕ) → Reaches one at ns start bs → k < length ns → i < get_or ns k 0 → start' ≡ (start + (i * get_or bs k 0) % 2 ^ 64) % 2 ^ 64 → Rearranges two ns start bs (remove ns k) start' (remove bs k) (λ js. insert js k i)
unfolding place
rearranges-item two at ns start bs k i start' h lt below es =
    let ab = h.as_many in
    record {
      as_many = omega (arith, length-remove {X = ℕ});
      limit = let r = nonzero-remove ns k in let l = h.limit in omega arith;
      image = λ js box. InBox-insert ns js k i lt below box;
      same = λ js box.
          let lj = InBox-length (remove ns k) js box in
          let d = dot-insert bs js k i (omega arith) (omega (arith, length-remove {X = ℕ})) in
          let sum : start + i * get_or bs k 0 + dot (remove bs k) js ≡ start + dot bs (insert js k i) = omega arith in
          ap (λ x. (x + dot (remove bs k) js) % 2 ^ 64) es
          ∙ (mod_twice (2 ^ 64) start (i * get_or bs k 0) (dot (remove bs k) js) ∙ ap (λ x. x % 2 ^ 64) sum);
      nested = λ _. nested-removed ns bs k h.as_many lt;
    }

-- ---- an axis of length 1 put in

dot-remove : (bs js : List ℕ) (k b : ℕ) → k ≤ length bs → length js ≡ length bs + 1 → dot (insert bs k b) js ≡ dot bs (remove js k) + get_or js k 0 * b
unfolding dot
dot-remove bs [] k b le l = absurd (omega arith)
dot-remove bs (j ∷ js) zero b le l = omega arith
dot-remove [] (j ∷ js) (suc k) b le l = absurd (omega arith)
dot-remove (c ∷ bs) (j ∷ js) (suc k) b le l = let ih = dot-remove bs js k b (omega arith) (omega arith) in omega arith

InBox-remove : (ns js : List ℕ) (k n : ℕ) → k ≤ length ns → InBox (insert ns k n) js → InBox ns (remove js k) × (get_or js k 0 < n)
InBox-remove ns [] zero n le h = absurd h
InBox-remove ns (j ∷ js) zero n le h = (h.1, h.0)
InBox-remove [] js (suc k) n le h = absurd (omega arith)
InBox-remove (m ∷ ns) [] (suc k) n le h = absurd h
InBox-remove (m ∷ ns) (j ∷ js) (suc k) n le h = let ih = InBox-remove ns js k n (omega arith) h.1 in ((h.0, ih.0), ih.1)

-- an array with an axis of length 1 lies where it lies at the index lists without the index there
pub rearranges-inserted : {A one : Type 0} (two : Type 0) (at : ℕ → Option A) (ns : List ℕ) (start : ℕ) (bs : List ℕ) (k b : ℕ) → Reaches one at ns start bs → k ≤ length ns → Rearranges two ns start bs (insert ns k 1) start (insert bs k b) (λ js. remove js k)
unfolding place
rearranges-inserted two at ns start bs k b h le =
    let ab = h.as_many in
    let lb : length (insert bs k b) ≡ length bs + 1 = length-insert bs k b (omega arith) in
    let ln = length-insert ns k 1 le in
    let one_there : (js : List ℕ) → InBox (insert ns k 1) js → get_or js k 0 ≡ 0 = λ js box. omega (arith, (InBox-remove ns js k 1 le box).1) in
    record {
      as_many = omega arith;
      limit = let e = nonzero-insert_one ns k in let l = h.limit in omega arith;
      image = λ js box. (InBox-remove ns js k 1 le box).0;
      same = λ js box.
          let l = InBox-length (insert ns k 1) js box in
          let z = one_there js box in
          let d = dot-remove bs js k b (omega arith) (omega arith) in
          let n : get_or js k 0 * b ≡ 0 * b = ap (λ x. x * b) z in
          let e : dot (insert bs k b) js ≡ dot bs (remove js k) = omega arith in
          ap (λ x. (start + x) % 2 ^ 64) e;
      nested = λ _. nested-inserted ns bs k b h.as_many le;
    }
