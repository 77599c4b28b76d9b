-- The words of a picture in plain PGM.
use Rattle.std.specs.Prelude.{◌≡◌, ◌≤◌, ℕ, ℤ, pos, List, [], ◌∷◌, codes, map, All}
use Rattle.uses.specs.Spelling.{IsCountWord, count_of}

-- the word spells a pixel: a number up to 255 that is not above the greatest one
abbrev pub IsPixelWord : ℕ → List ℕ → Type 0
IsPixelWord most word = IsCountWord 8 word × (count_of word ≤ most)

-- the words spell these pixels, none above the greatest one
pub record SpellPixels (most : ℕ) (words : List (List ℕ)) (pixels : List ℤ) : Type 0 where
  pub spelled : All (IsPixelWord most) words
  pub values : pixels ≡ map (λ word. pos (count_of word)) words

-- the words are `P2`, how many columns and rows there are, the greatest pixel, which is at most 255, and pixels; and these are the lengths and the pixels
pub record ReadsPixels (given : List (List ℕ)) (picture : List ℕ × List ℤ) : Type 0 where
  pub columns : List ℕ
  pub rows : List ℕ
  pub most : List ℕ
  pub pixels : List (List ℕ)
  pub words : given ≡ codes "P2" ∷ columns ∷ rows ∷ most ∷ pixels
  pub spelled : IsCountWord 64 columns × IsCountWord 64 rows × IsCountWord 8 most
  pub lengths : picture.0 ≡ count_of rows ∷ count_of columns ∷ []
  pub cells : SpellPixels (count_of most) pixels picture.1
