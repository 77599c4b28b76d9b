-- The elements of an owned array, split into its cells and the elements that it hides, and put together again.
use Rattle.std.proofs.Common.{◌≡◌, ◌≢◌, ℕ, ◌<◌, suc, List, [], ◌∷◌, ◌++◌, length, drop, get_or, refl, sym, ◌∙◌, ap, arith}
use Rattle.std.specs.Prelude.{slice_get, All, AllPairs, ⊤}
use Rattle.std.proofs.Math.Seq.{drop-append_seam}
use Rattle.std.proofs.lemmas.List.{length-map, length-set, set-get_or, get_or-set_same, get_or-set_other}
use Rattle.std.proofs.lemmas.List.Elements.{All-head, All-tail}
use Rattle.std.proofs.lemmas.Option.{slice_get_within}
use lib.ListN.{set}
use Rattle.ndarray.specs.Grid.{Grid}
use Rattle.ndarray.specs.Writes.{refit}
use Rattle.ndarray.specs.base.Parts.{cells_from}
use Rattle.ndarray.specs.base.Places.{place, Reaches, grid_at, places_at}
use Rattle.ndarray.specs.declared.base.shape.Order.TheVariants.{RowMajor}
use Rattle.ndarray.specs.places.ElementPlaces.{AreDistinctPlaces}
use Rattle.ndarray.proofs.lists.Elements.{some-of}
use Rattle.ndarray.proofs.lists.Pairs.{AllPairs-tail}
use Rattle.ndarray.proofs.lists.Refits.{length-refit, refit-all, refit-front}
use Rattle.ndarray.proofs.moving.BorrowedCells.{AreDistinctPlaces-all}
use Rattle.ndarray.proofs.strides.Reach.{length-cells_at}
use Rattle.ndarray.proofs.boxes.Orders.{length-row_order}
use Rattle.ndarray.specs.Index.{row_order}

-- ys at the places, where ws lay
abbrev pub put_at : {A : Type 0} → List ℕ → List A → List A → List A
put_at [] ys ws = ws
put_at (p ∷ ps) [] ws = ws
put_at (p ∷ ps) (y ∷ ys) ws = set (put_at ps ys ws) p y

length-put_at : {A : Type 0} (ps : List ℕ) (ys ws : List A) → length (put_at ps ys ws) ≡ length ws
length-put_at [] ys ws = refl
length-put_at (p ∷ ps) [] ws = refl
length-put_at (p ∷ ps) (y ∷ ys) ws = length-set (put_at ps ys ws) p y ∙ length-put_at ps ys ws

length-cells_from : {A : Type 0} (ps : List ℕ) (xs ws : List A) → length xs ≡ length ps → length (cells_from ps xs ws) ≡ length xs
length-cells_from [] [] ws l = refl
length-cells_from [] (x ∷ xs) ws l = absurd (omega arith)
length-cells_from (p ∷ ps) [] ws l = absurd (omega arith)
length-cells_from (p ∷ ps) (x ∷ xs) ws l = ap suc (length-cells_from ps xs ws (omega arith))

put_at-same : {A : Type 0} (ps : List ℕ) (xs ws : List A) → put_at ps (cells_from ps xs ws) ws ≡ ws
put_at-same [] xs ws = refl
put_at-same (p ∷ ps) [] ws = refl
put_at-same (p ∷ ps) (x ∷ xs) ws = ap (λ l. set l p (get_or ws p x)) (put_at-same ps xs ws) ∙ set-get_or ws p x

cells_from-set : {A : Type 0} (ps : List ℕ) (xs ws : List A) (p : ℕ) (y : A) → All (λ q. q ≢ p) ps → cells_from ps xs (set ws p y) ≡ cells_from ps xs ws
cells_from-set [] xs ws p y h = refl
cells_from-set (q ∷ ps) [] ws p y h = refl
cells_from-set (q ∷ ps) (x ∷ xs) ws p y h =
    ap (λ z. z ∷ cells_from ps xs (set ws p y)) (get_or-set_other ws p q y x (All-head (λ r. r ≢ p) q ps h))
    ∙ ap (λ l. get_or ws q x ∷ l) (cells_from-set ps xs ws p y (All-tail (λ r. r ≢ p) q ps h))

cells_from-put_at : {A : Type 0} (ps : List ℕ) (xs ys ws : List A) → AllPairs (λ p q. p ≡ q → ⊥) ps → All (λ p. p < length ws) ps → length xs ≡ length ps → length ys ≡ length ps → cells_from ps xs (put_at ps ys ws) ≡ ys
cells_from-put_at [] xs [] ws once within l m = refl
cells_from-put_at [] xs (y ∷ ys) ws once within l m = absurd (omega arith)
cells_from-put_at (p ∷ ps) [] ys ws once within l m = absurd (omega arith)
cells_from-put_at (p ∷ ps) (x ∷ xs) [] ws once within l m = absurd (omega arith)
cells_from-put_at (p ∷ ps) (x ∷ xs) (y ∷ ys) ws once within l m =
    let apart : All (λ q. q ≢ p) ps = λ k d lt same. once 0 (suc k) d (omega arith) (omega arith) (sym same) in
    let long = length-put_at ps ys ws in
    let here = All-head (λ q. q < length ws) p ps within in
    ap (λ z. z ∷ cells_from ps xs (set (put_at ps ys ws) p y)) (get_or-set_same (put_at ps ys ws) p y x (omega arith))
    ∙ ap (λ l. y ∷ l) (cells_from-set ps xs (put_at ps ys ws) p y apart
    ∙ cells_from-put_at ps xs ys ws (AllPairs-tail (λ q r. q ≡ r → ⊥) p ps once) (All-tail (λ q. q < length ws) p ps within) (omega arith) (omega arith))

-- of the elements ws₀, the cells xs lie at the places ps
module _ {A : Type 0} (ps : List ℕ) (xs ws₀ : List A) where
  -- the elements that are told by other cells, and other elements after them
  abbrev pub told : List A → List A
  told ys = put_at ps (refit xs ys) (refit ws₀ (drop (length xs) ys))

  -- the cells of ws, and then ws
  abbrev pub tells : List A → List A
  tells ws = cells_from ps xs ws ++ ws

  pub told-tells : length xs ≡ length ps → (ws : List A) → length ws ≡ length ws₀ → told (tells ws) ≡ ws
  told-tells l ws same =
      let m = length-cells_from ps xs ws l in
      ap (λ zs. put_at ps zs (refit ws₀ (drop (length xs) (tells ws)))) (refit-front xs (cells_from ps xs ws) ws m)
      ∙ ap (λ zs. put_at ps (cells_from ps xs ws) (refit ws₀ zs)) (ap (λ n. drop n (tells ws)) (sym m) ∙ drop-append_seam (cells_from ps xs ws) ws)
      ∙ ap (put_at ps (cells_from ps xs ws)) (refit-all ws₀ ws same)
      ∙ put_at-same ps xs ws

  pub cells-told : length xs ≡ length ps → AllPairs (λ p q. p ≡ q → ⊥) ps → All (λ p. p < length ws₀) ps → (ys : List A) → cells_from ps xs (told ys) ≡ refit xs ys
  cells-told l once within ys =
      let m = length-refit ws₀ (drop (length xs) ys) in
      let k = length-refit xs ys in
      cells_from-put_at ps xs (refit xs ys) (refit ws₀ (drop (length xs) ys)) once (λ i d lt. let here = within i d lt in omega arith) l (omega arith)

-- so it is with an array that owns its cells
module _ {A : Type 0} (ws₀ : List A) (ns : List ℕ) (start : ℕ) (bs : List ℕ) (h : Reaches ⊤ (slice_get ws₀) ns start bs) (g : Grid A) (v : grid_at (slice_get ws₀) ns start bs ≡ g) where
  lent : AreDistinctPlaces (slice_get ws₀) (places_at ns start bs)
  lent = AreDistinctPlaces-all (slice_get ws₀) ns start bs h RowMajor

  many : length g.cells ≡ length (places_at ns start bs)
  many = sym (ap (λ y. length y.cells) v) ∙ (length-cells_at (slice_get ws₀) ns start bs h ∙ sym (length-map (row_order ns) (place start bs) ∙ length-row_order ns))

  within : All (λ p. p < length ws₀) (places_at ns start bs)
  within k d lt = let x = some-of (slice_get ws₀ (get_or (places_at ns start bs) k d)) (lent.held k d lt) in slice_get_within ws₀ (get_or (places_at ns start bs) k d) x.0 x.1

  pub told-again : (ws : List A) → length ws ≡ length ws₀ → told (places_at ns start bs) g.cells ws₀ (tells (places_at ns start bs) g.cells ws₀ ws) ≡ ws
  told-again = told-tells (places_at ns start bs) g.cells ws₀ many

  pub cells-told_at : (ys : List A) → cells_from (places_at ns start bs) g.cells (told (places_at ns start bs) g.cells ws₀ ys) ≡ refit g.cells ys
  cells-told_at = cells-told (places_at ns start bs) g.cells ws₀ many lent.once within
