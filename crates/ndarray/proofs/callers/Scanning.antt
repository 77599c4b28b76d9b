-- Arrays after `scan_lanes` with a closure that computes functions of the value and the old cell.
use Rattle.std.proofs.Common.{◌≡◌, ◌∙◌, ◌+◌, ◌<◌, ap, arith, ℕ, zero, suc, List, [], ◌∷◌, ◌++◌, Some, length, get_or, remove, take, refl, sym, subst, append-nil, append_assoc}
use Rattle.std.specs.Prelude.{slice_get, slice_index}
use Rattle.std.specs.List.{FoldsTo, fold, scan}
use Rattle.std.proofs.lemmas.List.{set-get_or}
use Rattle.ndarray.specs.Algebra.{CommutativeMonoid}
use Rattle.ndarray.specs.AlongAxis.{IsSummableArray}
use Rattle.ndarray.specs.Elementwise.{CanMap}
use Rattle.ndarray.specs.Grid.{Grid, IsGrid, array_by, cell}
use Rattle.ndarray.specs.Index.{InBox}
use Rattle.ndarray.specs.Scans.{ScanStep, MayScanLanes, ScansLanes}
use Rattle.ndarray.specs.Subviews.{lane, lanes_of}
use Rattle.ndarray.specs.Sums.{IsSummable, total}
use Rattle.ndarray.proofs.boxes.Boxes.{InBox-get}
use Rattle.ndarray.proofs.callers.Elementwise.{array_by-follows}
use Rattle.ndarray.proofs.cells.Cells.{array_by-same, cell-inside}
use Rattle.ndarray.proofs.cells.LaneCells.{lane-among, lane-cell}
use Rattle.ndarray.proofs.sums.Fronts.{element-in-range, front-in-range, total-more}

-- on the way along a list from a value, each value is in range with the element there
abbrev pub StaysInRange : {A B : Type 0} → (B → A → Type 0) → (B → A → B) → B → List A → Type 0
StaysInRange in_range next b [] = Unit {0}
StaysInRange in_range next b (x ∷ xs) = in_range b x × StaysInRange in_range next (next b x) xs

-- A closure that returns `next` and `out` of the value and the old cell, wherever these are in range.
module _ {A B : Type 0} (gives : B → A → B × A → Type 0) (in_range : B → A → Type 0) (next : B → A → B) (out : B → A → A)
    (each : (b : B) (x : A) (r : B × A) → in_range b x → gives b x r → r ≡ (next b x, out b x)) where
  made : (xs : List A) (p q : B × List A) → StaysInRange in_range next p.0 xs → FoldsTo (ScanStep gives) p xs q → q.1 ≡ p.1 ++ scan next out p.0 xs
  made [] p q stays f = ap (λ (s : B × List A). s.1) (sym f) ∙ sym (append-nil p.1)
  made (x ∷ xs) p q stays f =
      let (m, (y, e, g), rest) = f in
      let is : ◌≡◌ {A = B × A} (m.0, y) (next p.0 x, out p.0 x) = each p.0 x (m.0, y) stays.0 g in
      made xs m q (subst (λ (s : B × A). StaysInRange in_range next s.0 xs) (sym is) stays.1) rest
      ∙ (ap (λ l. l ++ scan next out m.0 xs) e ∙ (append_assoc p.1 (y ∷ []) (scan next out m.0 xs) ∙ ap (λ (s : B × A). p.1 ++ (s.1 ∷ scan next out s.0 xs)) is))

  may-on : (can : B → A → Type 0) → ((b : B) (x : A) → in_range b x → can b x) → (done : List A) (x : A) (rest : List A) (p q : B × List A) → StaysInRange in_range next p.0 (done ++ (x ∷ rest)) → FoldsTo (ScanStep gives) p done q → can q.0 x
  may-on can callable [] x rest p q stays f = subst (λ (s : B × List A). can s.0 x) f (callable p.0 x stays.0)
  may-on can callable (d ∷ done) x rest p q stays f =
      let (m, (y, e, g), after) = f in
      let is : ◌≡◌ {A = B × A} (m.0, y) (next p.0 d, out p.0 d) = each p.0 d (m.0, y) stays.0 g in
      may-on can callable done x rest m q (subst (λ (s : B × A). StaysInRange in_range next s.0 (done ++ (x ∷ rest))) (sym is) stays.1) after

  module _ (init : B) (old : Grid A) (k : ℕ) (stays : CanMap (λ l. StaysInRange in_range next init l.cells) (lanes_of old k)) where
    -- the calls may be made along each lane
    pub may-scan_lanes : (can : B → A → Type 0) → ((b : B) (x : A) → in_range b x → can b x) → MayScanLanes gives can k init old
    may-scan_lanes can callable = record { lanes = λ js l e. record { at = λ done x rest q parts f. may-on can callable done x rest (init, []) q (subst (StaysInRange in_range next init) (sym parts) (stays js l e)) f } }

    -- each lane is the scan of its old cells
    pub scan-follows : (new : Grid A) → ScansLanes gives k init old new → (js : List ℕ) (l m : Grid A) → cell (lanes_of old k) js ≡ Some l → cell (lanes_of new k) js ≡ Some m → m.cells ≡ scan next out init l.cells
    scan-follows new s js l m e f = let (last, steps) = s.lanes js l m e f in made l.cells (init, []) (last, m.cells) (stays js l e) steps

scan-at : {A : Type 0} (f : A → A → A) (xs : List A) (b : A) (j : ℕ) (z : A) → slice_get (scan f f b xs) j ≡ Some z → z ≡ fold f b (take (suc j) xs)
scan-at f [] b j z e = cc
scan-at f (x ∷ xs) b zero z e = cc
scan-at f (x ∷ xs) b (suc j) z e = scan-at f xs (f b x) j z e

-- A closure that returns f of the value and the old cell as the next value and as the new cell.
module _ {A : Type 0} (gives : A → A → A × A → Type 0) (f : A → A → A) (init : A) (old : Grid A) (k : ℕ) where
  module _ (in_range : A → A → Type 0) (each : (b x : A) (r : A × A) → in_range b x → gives b x r → r ≡ (f b x, f b x)) (stays : CanMap (λ l. StaysInRange in_range f init l.cells) (lanes_of old k)) where
    -- wherever these are in range: each cell is the old cells of its lane up to there folded
    pub scan-folds-in-range : IsGrid old → k < length old.lengths → (new : Grid A) → ScansLanes gives k init old new → new ≡ array_by old.lengths (λ is. fold f init (take (slice_index is k + 1) (lane old k (remove is k)).cells))
    scan-folds-in-range whole lt new s =
        array_by-follows new old.lengths (λ is. fold f init (take (slice_index is k + 1) (lane old k (remove is k)).cells)) s.whole s.lengths
        (λ is z e.
        let now : k < length new.lengths = subst (λ ns. k < length ns) (sym s.lengths) lt in
        let b' : InBox new.lengths is = cell-inside new is z e in
        let b : InBox old.lengths is = subst (λ ns. InBox ns is) s.lengths b' in
        let own : slice_get (lane new k (remove is k)).cells (get_or is k 0) ≡ Some z = lane-cell new s.whole k now is b' (get_or is k 0) (InBox-get new.lengths is k b' now) ∙ (ap (cell new) (set-get_or is k 0) ∙ e) in
        let same = scan-follows gives in_range f f each init old k stays new s (remove is k) (lane old k (remove is k)) (lane new k (remove is k)) (lane-among old whole k lt is b) (lane-among new s.whole k now is b') in
        let one : suc (get_or is k 0) ≡ slice_index is k + 1 = omega arith in
        scan-at f (lane old k (remove is k)).cells init (get_or is k 0) z (ap (λ l. slice_get l (get_or is k 0)) (sym same) ∙ own)
        ∙ ap (λ n. fold f init (take n (lane old k (remove is k)).cells)) one)

  always : (xs : List A) (b : A) → StaysInRange (λ b x. Unit {0}) f b xs
  always [] b = tt
  always (x ∷ xs) b = (tt, always xs (f b x))

  -- the same, whatever these are
  pub scan-folds : ((b x : A) (r : A × A) → gives b x r → r ≡ (f b x, f b x)) → IsGrid old → k < length old.lengths → (new : Grid A) → ScansLanes gives k init old new → new ≡ array_by old.lengths (λ is. fold f init (take (slice_index is k + 1) (lane old k (remove is k)).cells))
  scan-folds each = scan-folds-in-range (λ b x. Unit {0}) (λ b x r t. each b x r) (λ js l e. always l.cells init)

-- Values of which each, the element there and their sum are in range.
module _ {C : Type 0} (M : CommutativeMonoid C) (fits : C → Type 0) where
  -- the two and their sum
  abbrev pub SumFits : C → C → Type 0
  SumFits b x = fits b × (fits x × fits (M.op b x))

  sums-stay : (done xs : List C) (b : C) → b ≡ total M done → IsSummable M fits (done ++ xs) → StaysInRange SumFits M.op b xs
  sums-stay done [] b known s = tt
  sums-stay done (x ∷ xs) b known s =
      let more : IsSummable M fits ((done ++ (x ∷ [])) ++ xs) = subst (IsSummable M fits) (sym (append_assoc done (x ∷ []) xs)) s in
      let next : M.op b x ≡ total M (done ++ (x ∷ [])) = ap (λ v. M.op v x) known ∙ sym (total-more M done x) in
      ((subst fits (sym known) (front-in-range M fits done (x ∷ xs) s), (element-in-range M fits done x xs s, subst fits (sym next) (front-in-range M fits (done ++ (x ∷ [])) xs more))), sums-stay (done ++ (x ∷ [])) xs (M.op b x) next more)

  fold-total : (xs : List C) (b : C) → fold M.op b xs ≡ M.op b (total M xs)
  fold-total [] b = sym (M.unit_op b) ∙ M.commutes M.unit b
  fold-total (x ∷ xs) b = fold-total xs (M.op b x) ∙ M.associates b x (total M xs)

  -- A closure that returns the sum of the value and the old cell as both, where each selection of a lane has its sum in range.
  module _ (gives : C → C → C × C → Type 0) (each : (b x : C) (r : C × C) → SumFits b x → gives b x r → r ≡ (M.op b x, M.op b x)) (old : Grid C) (k : ℕ) (sums : CanMap (IsSummableArray M fits (λ x. x)) (lanes_of old k)) where
    pub may-scan-sums : (can : C → C → Type 0) → ((b x : C) → SumFits b x → can b x) → MayScanLanes gives can k M.unit old
    may-scan-sums = may-scan_lanes gives SumFits M.op M.op each M.unit old k (λ js l e. sums-stay [] l.cells M.unit refl (sums js l e))

    -- each cell is the sum of the old cells of its lane up to there
    pub scan-sums : IsGrid old → k < length old.lengths → (new : Grid C) → ScansLanes gives k M.unit old new → new ≡ array_by old.lengths (λ is. total M (take (slice_index is k + 1) (lane old k (remove is k)).cells))
    scan-sums whole lt new s =
        scan-folds-in-range gives M.op M.unit old k SumFits each (λ js l e. sums-stay [] l.cells M.unit refl (sums js l e)) whole lt new s
        ∙ array_by-same old.lengths old.lengths (λ is. fold M.op M.unit (take (slice_index is k + 1) (lane old k (remove is k)).cells)) (λ is. total M (take (slice_index is k + 1) (lane old k (remove is k)).cells)) refl
        (λ is b. fold-total (take (slice_index is k + 1) (lane old k (remove is k)).cells) M.unit ∙ M.unit_op (total M (take (slice_index is k + 1) (lane old k (remove is k)).cells)))
