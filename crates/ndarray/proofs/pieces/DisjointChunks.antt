-- The chunks along an axis as sub-views to write in: they have no place in common.
use Rattle.std.proofs.Common.{◌≡◌, ℕ, ◌+◌, ◌*◌, ◌/◌, ◌<◌, ◌≤◌, List, [], ◌∷◌, length, get_or, set, Option, refl, sym, ◌∙◌, ap, arith, subst}
use Rattle.std.specs.Prelude.{All, ⊤}
use Rattle.std.specs.Int.{div_ceil}
use Rattle.std.proofs.lemmas.Nat.{div-mul-add}
use Rattle.std.proofs.lemmas.Simd.{map-map}
use Rattle.ndarray.specs.Grid.{Grid}
use Rattle.ndarray.specs.Index.{InBox, row_order, IsBefore}
use Rattle.ndarray.specs.Subviews.{axis_chunk}
use Rattle.ndarray.specs.base.Chunks.{chunk_len, chunk_layout, chunk_layouts, chunks_along}
use Rattle.ndarray.specs.base.Places.{Reaches, Rearranges, grid_at}
use Rattle.ndarray.specs.base.Masks.{Shares, grids_at}
use Rattle.ndarray.specs.base.CellLayouts.{CellLayout}
use Rattle.ndarray.proofs.pieces.Chunks.{chunk-begins}
use Rattle.ndarray.proofs.views.Cuts.{rearranges-part, cuts-apart}
use Rattle.ndarray.proofs.views.Images.{grid-seen}
use Rattle.ndarray.proofs.lists.Elements.{map-same}
use Rattle.ndarray.proofs.boxes.Orders.{row_order-is, IsBefore-not_itself}
use Rattle.ndarray.proofs.regions.Masks.{Shares-images}

-- the number of a chunk is told by any index in it
chunks-differ : (n s c d i j : ℕ) → i < chunk_len n s c → j < chunk_len n s d → c * s + i ≡ d * s + j → c ≡ d
chunks-differ n s c d i j li lj e = sym (div-mul-add c s i (omega arith)) ∙ (ap (λ z. z / s) e ∙ div-mul-add d s j (omega arith))

-- a position is one number
position-one : (n : ℕ) (p : List ℕ) → InBox (n ∷ []) p → (get_or p 0 0 < n) × (p ≡ get_or p 0 0 ∷ [])
position-one n [] b = absurd b
position-one n (i ∷ []) b = (b.0, refl)
position-one n (i ∷ j ∷ p) b = absurd b.1

module _ {A : Type 0} (at : ℕ → Option A) (ns : List ℕ) (start : ℕ) (bs : List ℕ) (k s : ℕ) (h : Reaches ⊤ at ns start bs) (lt : k < length ns) (some : 1 ≤ s) where
  -- a chunk is the part of the axis from its first index on
  rearranges-chunk : (p : List ℕ) → InBox (div_ceil (get_or ns k 0) s ∷ []) p → Rearranges ⊤ ns start bs (chunk_layout ns start bs k s (get_or p 0 0)).lengths (chunk_layout ns start bs k s (get_or p 0 0)).start (chunk_layout ns start bs k s (get_or p 0 0)).strides (λ js. set js k (get_or p 0 0 * s + get_or js k 0))
  rearranges-chunk p b =
      let n : ℕ = get_or ns k 0 in
      let c : ℕ = get_or p 0 0 in
      let begins = chunk-begins n s c some (position-one (div_ceil n s) p b).0 in
      rearranges-part ⊤ at ns start bs h k lt (c * s) (chunk_len n s c) (omega arith)

  pub chunks-share : Shares at (chunk_layouts ns start bs k s (row_order (div_ceil (get_or ns k 0) s ∷ [])))
  chunks-share =
      let n : ℕ = get_or ns k 0 in
      let o = row_order-is (div_ceil n s ∷ []) in
      Shares-images at ns start bs h (λ p. chunk_layout ns start bs k s (get_or p 0 0)) (λ p js. set js k (get_or p 0 0 * s + get_or js k 0)) (row_order (div_ceil n s ∷ []))
      (λ i d li. rearranges-chunk _ (o.within i d li))
      (λ i j d li lj is js bi bj.
      let p : List ℕ = get_or (row_order (div_ceil n s ∷ [])) i d in
      let q : List ℕ = get_or (row_order (div_ceil n s ∷ [])) j d in
      let up = position-one (div_ceil n s) p (o.within i d (omega arith)) in
      let uq = position-one (div_ceil n s) q (o.within j d lj) in
      cuts-apart ns k lt (chunk_len n s (get_or p 0 0)) (chunk_len n s (get_or q 0 0)) (λ x. get_or p 0 0 * s + x) (λ x. get_or q 0 0 * s + x)
      (λ x y lx ly e.
      let same : p ≡ q = up.1 ∙ (ap (λ z. z ∷ []) (chunks-differ n s (get_or p 0 0) (get_or q 0 0) x y lx ly e) ∙ sym uq.1) in
      IsBefore-not_itself q (subst (λ z. IsBefore z q) same (o.rising i j d li lj)))
      is js bi bj)

  -- and each is the chunk of the array
  pub chunks-seen : (g : Grid A) → grid_at at ns start bs ≡ g → (ps : List (List ℕ)) → All (InBox (div_ceil (get_or ns k 0) s ∷ [])) ps → grids_at at (chunk_layouts ns start bs k s ps) ≡ chunks_along g k s ps
  chunks-seen g v ps within =
      map-map (λ (t : CellLayout). grid_at at t.lengths t.start t.strides) (λ p. chunk_layout ns start bs k s (get_or p 0 0)) ps
      ∙ map-same _ (λ p. axis_chunk g k s (get_or p 0 0)) (InBox (div_ceil (get_or ns k 0) s ∷ [])) ps
      (λ p b. grid-seen (rearranges-chunk p b) at at g _ (λ q. refl) h v
      (ap (λ ms. set ms k (chunk_len (get_or ms k 0) s (get_or p 0 0))) (ap (λ x. x.lengths) v) ∙ ap (set g.lengths k) (omega arith)))
      within
