-- An input is read in one way.
use Rattle.ndarray.proofs.Common.{◌≡◌, ◌∙◌, ◌∷◌, [], ℕ, ℤ, List, ap, map, pos, sym, Grid, grid}
use Rattle.uses.specs.Inputs.{IsArrayOf, ReadsPicture}
use Rattle.uses.specs.Pixels.{ReadsPixels}
use Rattle.uses.specs.Spelling.{count_of}

first_of : List (List ℕ) → List ℕ
first_of [] = []
first_of (w ∷ ws) = w

others_of : List (List ℕ) → List (List ℕ)
others_of [] = []
others_of (w ∷ ws) = ws

same-first : (w v : List ℕ) (ws vs : List (List ℕ)) → w ∷ ws ≡ v ∷ vs → w ≡ v
unfolding first_of
same-first w v ws vs e = ap first_of e

same-others : (w v : List ℕ) (ws vs : List (List ℕ)) → w ∷ ws ≡ v ∷ vs → ws ≡ vs
unfolding others_of
same-others w v ws vs e = ap others_of e

pub one-array : {A : Type 0} (ns ms : List ℕ) (xs ys : List A) (g h : Grid A) → IsArrayOf ns xs g → IsArrayOf ms ys h → ns ≡ ms → xs ≡ ys → g ≡ h
one-array ns ms xs ys g h a b e f = ap (λ ks. grid ks g.cells) (a.lengths ∙ (e ∙ sym b.lengths)) ∙ ap (grid h.lengths) (a.cells ∙ (f ∙ sym b.cells))

pub one-pixels : (words : List (List ℕ)) (ns ms : List ℕ) (xs ys : List ℤ) → ReadsPixels words (ns, xs) → ReadsPixels words (ms, ys) → (ns ≡ ms) × (xs ≡ ys)
one-pixels words ns ms xs ys a b =
    let head = same-others _ _ _ _ (sym a.words ∙ b.words) in
    let columns : a.columns ≡ b.columns = same-first _ _ _ _ head in
    let behind = same-others _ _ _ _ head in
    let rows : a.rows ≡ b.rows = same-first _ _ _ _ behind in
    let pixels : a.pixels ≡ b.pixels = same-others _ _ _ _ (same-others _ _ _ _ behind) in (
      a.lengths ∙ (ap (λ w. count_of w ∷ count_of a.columns ∷ []) rows ∙ (ap (λ w. count_of b.rows ∷ count_of w ∷ []) columns ∙ sym b.lengths)),
      a.cells.values ∙ (ap (map (λ w. pos (count_of w))) pixels ∙ sym b.cells.values),
    )

pub one-picture : (text : List ℕ) (g h : Grid ℤ) → ReadsPicture text g → ReadsPicture text h → g ≡ h
one-picture text g h a b =
    let (lengths, pixels) = one-pixels _ a.lengths b.lengths a.pixels b.pixels a.words b.words in
    one-array a.lengths b.lengths a.pixels b.pixels g h a.array b.array lengths pixels
