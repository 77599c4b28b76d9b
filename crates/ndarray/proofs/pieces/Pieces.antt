-- The pieces of an array at the positions of a box: what each of them reaches, and which array it is.
use Rattle.std.proofs.Common.{◌≡◌, ℕ, ◌+◌, ◌*◌, ◌%◌, ◌<◌, ◌^◌, ◌⊎◌, inl, inr, zero, suc, List, [], ◌∷◌, length, get_or, refl, sym, ◌∙◌, ap, arith, subst, Option, Some}
use Rattle.std.specs.Prelude.{insert, remove}
use Rattle.std.proofs.Math.Nat.{add-mod-mod}
use Rattle.ndarray.specs.Index.{InBox}
use Rattle.ndarray.specs.Limits.{IsWithinLimit}
use Rattle.ndarray.specs.Grid.{Grid, cell, tabulate, array_by}
use Rattle.ndarray.specs.Subviews.{lanes_of}
use Rattle.ndarray.specs.base.Places.{dot, place, Reaches, Rearranges, grid_at}
use Rattle.ndarray.specs.base.Pieces.{ReachPieces, pieces_at}
use Rattle.ndarray.proofs.cells.Cells.{array_by-cell, array_by-same, array_by-whole, tabulate-is}
use Rattle.ndarray.proofs.views.Images.{Reaches-rearranged, grid-seen}
use Rattle.std.proofs.Math.Nat.{mod-add-mod}
use Rattle.std.proofs.lemmas.List.Edits.{length-remove}
use Rattle.ndarray.proofs.boxes.Boxes.{InBox-length}
use Rattle.ndarray.proofs.views.Items.{dot-insert, InBox-insert, nonzero-remove, rearranges-item}
use Rattle.ndarray.proofs.strides.Reach.{Reaches-same}
use Rattle.ndarray.proofs.boxes.Sizes.{nonzero-one_of}

-- where the piece at each position is the array's image by a function
pub record AreImages (ns : List ℕ) (start : ℕ) (bs ps : List ℕ) (steps ms cs : List ℕ) (f : List ℕ → List ℕ → List ℕ) : Type 0 where
  pub as_many : length steps ≡ length ps
  pub limit : IsWithinLimit ps
  pub each : (p : List ℕ) → InBox ps p → Rearranges ⊥ ns start bs ms (place start steps p) cs (f p)

module _ {ns : List ℕ} {start : ℕ} {bs ps steps ms cs : List ℕ} {f : List ℕ → List ℕ → List ℕ} (r : AreImages ns start bs ps steps ms cs f) where
  pub pieces-reach : {A one : Type 0} (at at' : ℕ → Option A) → ((p : ℕ) → at' p ≡ at p) → Reaches one at ns start bs → ReachPieces at' ps start steps ms cs
  pieces-reach at at' e h = record {
    as_many = r.as_many;
    limit = r.limit;
    each = λ p b. Reaches-same at at' ms (place start steps p) cs (λ no. no) (λ q. sym (e q)) (Reaches-rearranged (r.each p b) at (λ no. absurd no) h);
  }

  pub pieces-seen : {A one : Type 0} (at at' : ℕ → Option A) (g : Grid A) (qs ls : List ℕ) → ((p : ℕ) → at' p ≡ at p) → Reaches one at ns start bs → grid_at at ns start bs ≡ g → ps ≡ qs → ms ≡ ls → pieces_at at' ps start steps ms cs ≡ array_by qs (λ p. tabulate ls (λ js. cell g (f p js)))
  pieces-seen at at' g qs ls e h v eq el =
      array_by-same ps qs (λ p. grid_at at' ms (place start steps p) cs) (λ p. tabulate ls (λ js. cell g (f p js))) eq
      (λ p b. grid-seen (r.each p b) at at' g ls e h v el)

-- ---- the pieces at some of the positions

-- positions alone, whatever lies there
pub positions-reach : (ps : List ℕ) (start : ℕ) (steps : List ℕ) → length steps ≡ length ps → IsWithinLimit ps → Reaches {A = ℕ} ⊥ (λ _. Some 0) ps start steps
positions-reach ps start steps l limit = record { as_many = l; limit = limit; inside = λ is b. refl; nested = λ no. absurd no }

module _ {ps : List ℕ} {start : ℕ} {steps ps' : List ℕ} {start' : ℕ} {steps' : List ℕ} {f : List ℕ → List ℕ} (r : Rearranges ⊥ ps start steps ps' start' steps' f) {A : Type 0} (at : ℕ → Option A) (ns bs : List ℕ) where
  pub some-reach : ReachPieces at ps start steps ns bs → ReachPieces at ps' start' steps' ns bs
  some-reach h = record {
    as_many = r.as_many;
    limit = r.limit;
    each = λ p b. subst (λ q. Reaches ⊥ at ns q bs) (sym (r.same p b)) (h.each (f p) (r.image p b));
  }

  pub some-seen : (g : Grid (Grid A)) (ls : List ℕ) → pieces_at at ps start steps ns bs ≡ g → ps' ≡ ls → pieces_at at ps' start' steps' ns bs ≡ tabulate ls (λ js. cell g (f js))
  some-seen g ls v el =
      tabulate-is (pieces_at at ps' start' steps' ns bs) ls (λ js. cell g (f js)) (array_by-whole ps' (λ p. grid_at at ns (place start' steps' p) bs)) el
      (λ js b.
      array_by-cell ps' (λ p. grid_at at ns (place start' steps' p) bs) js b
      ∙ (ap (λ q. Some (grid_at at ns q bs)) (r.same js b)
      ∙ (sym (array_by-cell ps (λ p. grid_at at ns (place start steps p) bs) (f js) (r.image js b)) ∙ ap (λ y. cell y (f js)) v)))

-- ---- items along an axis

images-items : {A one : Type 0} (at : ℕ → Option A) (ns : List ℕ) (start : ℕ) (bs : List ℕ) (k : ℕ) → Reaches one at ns start bs → k < length ns → (p : List ℕ) → InBox (get_or ns k 0 ∷ []) p → Rearranges ⊥ ns start bs (remove ns k) (place start (get_or bs k 0 ∷ []) p) (remove bs k) (λ js. insert js k (get_or p 0 0))
unfolding place dot
images-items at ns start bs k h lt [] b = absurd b
images-items at ns start bs k h lt (i ∷ []) b = rearranges-item ⊥ at ns start bs k i ((start + (i * get_or bs k 0 + 0)) % 2 ^ 64) h lt b.0 (ap (λ x. (start + x) % 2 ^ 64) (omega arith) ∙ sym (add-mod-mod start (i * get_or bs k 0) (2 ^ 64)))
images-items at ns start bs k h lt (i ∷ j ∷ p) b = absurd b.1

pub items-images : {A one : Type 0} (at : ℕ → Option A) (ns : List ℕ) (start : ℕ) (bs : List ℕ) (k : ℕ) → Reaches one at ns start bs → k < length ns → AreImages ns start bs (get_or ns k 0 ∷ []) (get_or bs k 0 ∷ []) (remove ns k) (remove bs k) (λ p js. insert js k (get_or p 0 0))
items-images at ns start bs k h lt = record {
  as_many = refl;
  limit = let a = nonzero-one_of ns k lt in let b = h.limit in omega arith;
  each = images-items at ns start bs k h lt;
}

-- ---- lanes along an axis

lane-image : (ns : List ℕ) (k : ℕ) (p : List ℕ) → k < length ns → InBox (remove ns k) p → (is : List ℕ) → InBox (get_or ns k 0 ∷ []) is → InBox ns (insert p k (get_or is 0 0))
lane-image ns k p lt b [] c = absurd c
lane-image ns k p lt b (i ∷ []) c = InBox-insert ns p k i lt c.0 b
lane-image ns k p lt b (i ∷ j ∷ is) c = absurd c.1

lane-same : (start : ℕ) (ns bs : List ℕ) (k : ℕ) (p : List ℕ) → k < length ns → length bs ≡ length ns → length p + 1 ≡ length bs → (is : List ℕ) → InBox (get_or ns k 0 ∷ []) is → place (place start (remove bs k) p) (get_or bs k 0 ∷ []) is ≡ place start bs (insert p k (get_or is 0 0))
unfolding place dot
lane-same start ns bs k p lt lb lp [] c = absurd c
lane-same start ns bs k p lt lb lp (i ∷ []) c =
    let d = dot-insert bs p k i (omega arith) lp in
    let sum : start + dot (remove bs k) p + (i * get_or bs k 0 + 0) ≡ start + dot bs (insert p k i) = omega arith in
    mod-add-mod (start + dot (remove bs k) p) (2 ^ 64) (i * get_or bs k 0 + 0) ∙ ap (λ x. x % 2 ^ 64) sum
lane-same start ns bs k p lt lb lp (i ∷ j ∷ is) c = absurd c.1

none-same : (start stride : ℕ) (p : List ℕ) → InBox [] p → (is : List ℕ) → InBox (1 ∷ []) is → place (place start [] p) (stride ∷ []) is ≡ place start [] []
unfolding place dot
none-same start stride [] b [] c = absurd c
none-same start stride [] b (i ∷ []) c =
    let z : i ≡ 0 = omega (arith, c.0) in
    let e : i * stride ≡ 0 = ap (λ x. x * stride) z ∙ omega arith in
    mod-add-mod (start + 0) (2 ^ 64) (i * stride + 0) ∙ ap (λ x. x % 2 ^ 64) (omega arith)
none-same start stride [] b (i ∷ j ∷ is) c = absurd c.1
none-same start stride (x ∷ p) b is c = absurd b

none-lane : (start stride : ℕ) (p : List ℕ) → InBox [] p → Rearranges ⊥ [] start [] (1 ∷ []) (place start [] p) (stride ∷ []) (λ is. [])
none-lane start stride p b = record {
  as_many = refl;
  limit = omega arith;
  image = λ is c. tt;
  same = none-same start stride p b;
  nested = λ no. absurd no;
}

-- the lane at an index list of the other axes lies where the array lies with an index put in
rearranges-lane : {A one : Type 0} (at : ℕ → Option A) (ns : List ℕ) (start : ℕ) (bs : List ℕ) (k : ℕ) → Reaches one at ns start bs → k < length ns → (p : List ℕ) → InBox (remove ns k) p → Rearranges ⊥ ns start bs (get_or ns k 0 ∷ []) (place start (remove bs k) p) (get_or bs k 0 ∷ []) (λ is. insert p k (get_or is 0 0))
unfolding place dot
rearranges-lane at ns start bs k h lt p b =
    let ab = h.as_many in
    let lp = InBox-length (remove ns k) p b in
    let lr = length-remove ns k lt in
    record {
      as_many = refl;
      limit = let a = nonzero-one_of ns k lt in let m = h.limit in omega arith;
      image = lane-image ns k p lt b;
      same = lane-same start ns bs k p lt (omega arith) (omega arith);
      nested = λ no. absurd no;
    }

pub lanes-images : {A one : Type 0} (at : ℕ → Option A) (ns : List ℕ) (start : ℕ) (bs : List ℕ) (k : ℕ) → Reaches one at ns start bs → k < length ns → AreImages ns start bs (remove ns k) (remove bs k) (get_or ns k 0 ∷ []) (get_or bs k 0 ∷ []) (λ p is. insert p k (get_or is 0 0))
lanes-images at ns start bs k h lt = record {
  as_many = let ab = h.as_many in let a = length-remove ns k lt in let b = length-remove bs k (omega arith) in omega arith;
  limit = let a = nonzero-remove ns k in let m = h.limit in omega arith;
  each = rearranges-lane at ns start bs k h lt;
}

-- the one lane of an array of no axes
pub lanes-images_none : {A one : Type 0} (at : ℕ → Option A) (start stride : ℕ) → Reaches one at [] start [] → AreImages [] start [] [] [] (1 ∷ []) (stride ∷ []) (λ p is. [])
lanes-images_none at start stride h = record {
  as_many = refl;
  limit = omega arith;
  each = none-lane start stride;
}

-- the length and the stride of a lane: those of the axis, and a length of 1 where there are no axes
abbrev pub AreOfLane : List ℕ → List ℕ → ℕ → ℕ → ℕ → Type 0
AreOfLane ns bs k len stride = ((ns ≡ []) × (len ≡ 1)) ⊎ ((k < length ns) × (len ≡ get_or ns k 0) × (stride ≡ get_or bs k 0))

pub remove-none : (k : ℕ) → remove {X = ℕ} [] k ≡ []
remove-none zero = refl
remove-none (suc k) = refl

pub lanes-reach : {A one : Type 0} (at at' : ℕ → Option A) (ns : List ℕ) (start : ℕ) (bs : List ℕ) (k len stride : ℕ) → ((p : ℕ) → at' p ≡ at p) → Reaches one at ns start bs → AreOfLane ns bs k len stride → ReachPieces at' (remove ns k) start (remove bs k) (len ∷ []) (stride ∷ [])
lanes-reach at at' [] start (b ∷ bs) k len stride e h l = let a = h.as_many in absurd (omega arith)
lanes-reach at at' [] start [] k len stride e h l =
    elim l [
      | inl q ↦ rw (remove-none k, q.1) (pieces-reach (lanes-images_none at start stride h) at at' e h)
      | inr q ↦ absurd (omega (arith, q.0))
    ]
lanes-reach at at' (n ∷ ns) start bs k len stride e h l =
    elim l [
      | inl q ↦ (let no = q.0 in cc)
      | inr q ↦ rw (q.1, q.2) (pieces-reach (lanes-images at (n ∷ ns) start bs k h q.0) at at' e h)
    ]

lanes-own : {A one : Type 0} (at at' : ℕ → Option A) (ns : List ℕ) (start : ℕ) (bs : List ℕ) (k len stride : ℕ) → ((p : ℕ) → at' p ≡ at p) → Reaches one at ns start bs → AreOfLane ns bs k len stride → pieces_at at' (remove ns k) start (remove bs k) (len ∷ []) (stride ∷ []) ≡ lanes_of (grid_at at ns start bs) k
lanes-own at at' [] start (b ∷ bs) k len stride e h l = let a = h.as_many in absurd (omega arith)
lanes-own at at' [] start [] k len stride e h l =
    elim l [
      | inl q ↦ rw (remove-none k, q.1) (pieces-seen (lanes-images_none at start stride h) at at' (grid_at at [] start []) [] (1 ∷ []) e h refl refl refl)
      | inr q ↦ absurd (omega (arith, q.0))
    ]
lanes-own at at' (n ∷ ns) start bs k len stride e h l =
    elim l [
      | inl q ↦ (let no = q.0 in cc)
      | inr q ↦ rw (q.1, q.2) (pieces-seen (lanes-images at (n ∷ ns) start bs k h q.0) at at' (grid_at at (n ∷ ns) start bs) (remove (n ∷ ns) k) (get_or (n ∷ ns) k 0 ∷ []) e h refl refl refl)
    ]

pub lanes-seen : {A one : Type 0} (at at' : ℕ → Option A) (ns : List ℕ) (start : ℕ) (bs : List ℕ) (k len stride : ℕ) (g : Grid A) → ((p : ℕ) → at' p ≡ at p) → Reaches one at ns start bs → AreOfLane ns bs k len stride → grid_at at ns start bs ≡ g → pieces_at at' (remove ns k) start (remove bs k) (len ∷ []) (stride ∷ []) ≡ lanes_of g k
lanes-seen at at' ns start bs k len stride g e h l v = subst (λ y. pieces_at at' (remove ns k) start (remove bs k) (len ∷ []) (stride ∷ []) ≡ lanes_of y k) v (lanes-own at at' ns start bs k len stride e h l)
