-- Some of the places of a slice: for `base`, `subviews`, `places` and `iter`. A place that is held has its value, another is `None`.
use Rattle.std.specs.Prelude.{◌≡◌, ℕ, ◌+◌, ◌≤◌, length, take, drop, map, replicate, ◌++◌, Bool, true, false, List, [], ◌∷◌, Option, Some, None, get_or}

module _ {X : Type 0} where
  -- the values that are held
  abbrev pub somes : List (Option X) → List X
  somes [] = []
  somes (None ∷ cs) = somes cs
  somes (Some x ∷ cs) = x ∷ somes cs

  -- the value at a place, where it is held
  abbrev pub held_at : List (Option X) → ℕ → Option X
  held_at cs i = get_or cs i None

  -- the place holds a value
  abbrev pub IsFilled : List (Option X) → ℕ → Type 0
  IsFilled cs i = (x : X) × (held_at cs i ≡ Some x)

  -- the len places from from on hold values
  abbrev pub IsRun : List (Option X) → ℕ → ℕ → Type 0
  IsRun cs from len = (from + len ≤ length cs) × ((xs : List X) × (take len (drop from cs) ≡ map Some xs))

  -- cs with ws in the place of what lies there, from `from` on
  abbrev pub put_in : List (Option X) → ℕ → List X → List (Option X)
  put_in cs from ws = take from cs ++ (map Some ws ++ drop (length ws) (drop from cs))

  -- the places of the mask
  abbrev pub slots_in : List Bool → List (Option X) → List (Option X)
  slots_in m [] = []
  slots_in [] (c ∷ cs) = None ∷ slots_in [] cs
  slots_in (true ∷ m) (c ∷ cs) = c ∷ slots_in m cs
  slots_in (false ∷ m) (c ∷ cs) = None ∷ slots_in m cs

  -- the places that are not of the mask
  abbrev pub slots_outside : List Bool → List (Option X) → List (Option X)
  slots_outside m [] = []
  slots_outside [] (c ∷ cs) = c ∷ slots_outside [] cs
  slots_outside (true ∷ m) (c ∷ cs) = None ∷ slots_outside m cs
  slots_outside (false ∷ m) (c ∷ cs) = c ∷ slots_outside m cs

  -- the values of both parts, in the order of their places
  abbrev pub weave : List Bool → List (Option X) → List X → List X → List X
  weave m [] xs ys = []
  weave [] (None ∷ cs) xs ys = weave [] cs xs ys
  weave (b ∷ m) (None ∷ cs) xs ys = weave m cs xs ys
  weave [] (Some c ∷ cs) xs [] = []
  weave [] (Some c ∷ cs) xs (y ∷ ys) = y ∷ weave [] cs xs ys
  weave (true ∷ m) (Some c ∷ cs) [] ys = []
  weave (true ∷ m) (Some c ∷ cs) (x ∷ xs) ys = x ∷ weave m cs xs ys
  weave (false ∷ m) (Some c ∷ cs) xs [] = []
  weave (false ∷ m) (Some c ∷ cs) xs (y ∷ ys) = y ∷ weave m cs xs ys

-- the mask of one place
abbrev pub only_at : ℕ → List Bool
only_at i = replicate i false ++ true ∷ []
