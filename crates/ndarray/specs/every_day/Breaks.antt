-- Inside `everyday`: what stands before each cell of a text.
use Rattle.std.specs.Prelude.{ℕ, ◌+◌, ◌%◌, ◌==◌, if◌then◌else◌, List, [], ◌∷◌, ◌++◌, length, replicate, Option, Some}
use Rattle.std.specs.Fmt.{◌++?◌}
use Rattle.ndarray.specs.ArrayTexts.{between_items}
use Rattle.ndarray.specs.Index.{size}

-- what stands before cell j, which is not the first: where items end, their brackets, and what is between two items
abbrev pub break_text : ℕ → List ℕ → ℕ → List ℕ
break_text depth [] j = []
break_text depth (n ∷ ns) j =
    if j % size ns == 0
    then replicate (length ns) 93 ++ (between_items depth (length ns) ++ replicate (length ns) 91)
    else break_text (depth + 1) ns (j % size ns)

-- the same, also before the first
abbrev pub lead_text : ℕ → List ℕ → ℕ → List ℕ
lead_text depth ns j = if j == 0 then [] else break_text depth ns j

-- the cells from j on, each behind what stands before it
abbrev pub cells_text : {A : Type 0} → (A → Option (List ℕ)) → (ℕ → List ℕ) → ℕ → List A → Option (List ℕ)
cells_text show lead j [] = Some []
cells_text show lead j (x ∷ xs) = (Some (lead j) ++? show x) ++? cells_text show lead (j + 1) xs
