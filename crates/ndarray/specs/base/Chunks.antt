-- Inside `subviews`: the chunks along an axis that are still to come.
use Rattle.std.specs.Prelude.{◌≡◌, ℕ, ◌+◌, ◌-◌, ◌*◌, ◌%◌, ◌^◌, ◌<◌, ◌≤◌, min, List, [], ◌∷◌, length, map, slice_index, slice_set, All}
use Rattle.std.specs.Int.{div_ceil}
use Rattle.ndarray.specs.Index.{InBox}
use Rattle.ndarray.specs.Grid.{Grid}
use Rattle.ndarray.specs.Subviews.{axis_chunk}
use Rattle.ndarray.specs.base.CellLayouts.{CellLayout, cell_layout}

-- the chunks of the positions that are left
abbrev pub chunks_along : {A : Type 0} → Grid A → ℕ → ℕ → List (List ℕ) → List (Grid A)
chunks_along g axis size ps = map (λ p. axis_chunk g axis size (slice_index p 0)) ps

-- each position is that of a chunk
pub record AreChunkPositions {A : Type 0} (g : Grid A) (axis size : ℕ) (ps : List (List ℕ)) : Type 0 where
  pub bound : axis < length g.lengths
  pub positive : 1 ≤ size
  pub within : All (InBox (div_ceil (slice_index g.lengths axis) size ∷ [])) ps

-- how long chunk c of size s is on an axis of length n: the last one has what is left
abbrev pub chunk_len : ℕ → ℕ → ℕ → ℕ
chunk_len n s c = min s (n - c * s)

-- where chunk c of size s lies
abbrev pub chunk_layout : List ℕ → ℕ → List ℕ → ℕ → ℕ → ℕ → CellLayout
chunk_layout ns start bs axis s c = cell_layout (slice_set ns axis (chunk_len (slice_index ns axis) s c)) ((start + (c * s * slice_index bs axis) % 2 ^ 64) % 2 ^ 64) (slice_set bs axis ((slice_index bs axis * 1) % 2 ^ 64))

-- where those of the positions lie that are left
abbrev pub chunk_layouts : List ℕ → ℕ → List ℕ → ℕ → ℕ → List (List ℕ) → List CellLayout
chunk_layouts ns start bs axis s ps = map (λ p. chunk_layout ns start bs axis s (slice_index p 0)) ps

-- each position is that of a chunk of a layout
pub record ChunkLayoutsStand (ns bs : List ℕ) (axis s : ℕ) (ps : List (List ℕ)) : Type 0 where
  pub as_many : length bs ≡ length ns
  pub bound : axis < length ns
  pub fits : slice_index ns axis < 2 ^ 63
  pub positive : 1 ≤ s
  pub within : All (InBox (div_ceil (slice_index ns axis) s ∷ [])) ps
