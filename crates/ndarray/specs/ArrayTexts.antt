-- The text of an array.
use Rattle.std.specs.Prelude.{codes, ℕ, zero, suc, ◌+◌, ◌==◌, if◌then◌else◌, List, [], ◌∷◌, ◌++◌, length, replicate, take, drop, Option, Some}
use Rattle.std.specs.Fmt.{◌++?◌, debug_list, decimal}
use Rattle.ndarray.specs.Index.{size}

-- what stands between two items of an array with so many brackets open outside it, whose items have so many axes: a comma, and a space or
-- as many ends of lines as these have axes, with the next line indented
abbrev pub between_items : ℕ → ℕ → List ℕ
between_items depth zero = 44 ∷ 32 ∷ []
between_items depth (suc inner) = 44 ∷ (replicate (suc inner) 10 ++ replicate (depth + 1) 32)

-- the texts of n blocks of m elements each, the first after `lead`, the others after `between`
abbrev pub blocks_text : {A : Type 0} → (List A → Option (List ℕ)) → ℕ → List ℕ → List ℕ → ℕ → List A → Option (List ℕ)
blocks_text show m lead between zero xs = Some []
blocks_text show m lead between (suc n) xs = Some lead ++? show (take m xs) ++? blocks_text show m between between n (drop m xs)

-- the text of the cells of an array that is not empty, with so many brackets open outside it: those of its items in brackets
abbrev pub nested_text : {A : Type 0} → (A → Option (List ℕ)) → ℕ → List ℕ → List A → Option (List ℕ)
nested_text show depth [] [] = Some []
nested_text show depth [] (x ∷ xs) = show x
nested_text show depth (n ∷ ns) xs = Some (91 ∷ []) ++? blocks_text (nested_text show (depth + 1) ns) (size ns) [] (between_items depth (length ns)) n xs ++? Some (93 ∷ [])

-- the text of an array: of one without cells, its brackets
abbrev pub array_text : {A : Type 0} → (A → Option (List ℕ)) → List ℕ → List A → Option (List ℕ)
array_text show ns xs = if size ns == 0 then Some (replicate (length ns) 91 ++ replicate (length ns) 93) else nested_text show 0 ns xs

-- the same for programmers: behind it its lengths
abbrev pub array_debug_text : {A : Type 0} → (A → Option (List ℕ)) → List ℕ → List A → Option (List ℕ)
array_debug_text show ns xs = array_text show ns xs ++? Some (codes ", shape=") ++? debug_list (λ n. Some (decimal n)) ns
