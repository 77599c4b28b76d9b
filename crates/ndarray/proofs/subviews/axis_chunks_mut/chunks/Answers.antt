use Rattle.std.proofs.Common.{◌≡◌, ◌∷◌, [], ◌<◌, ◌^◌, map, ap, sym, ◌∙◌, subst, length, get_or, arith}
use Rattle.std.proofs.lemmas.Simd.{map-map}
use Rattle.std.proofs.lemmas.List.FromFn.{length-map-range_with_len}
use Rattle.std.specs.Int.{div_ceil}
use Rattle.std.specs.List.{range_with_len}
use Rattle.ndarray.specs.Index.{row_order}
use Rattle.ndarray.specs.Limits.{nonzero_size}
use Rattle.ndarray.specs.Subviews.{axis_chunk}
use Rattle.ndarray.specs.base.Chunks.{chunk_layouts, chunks_along}
use Rattle.ndarray.specs.base.Masks.{grids_at}
use Rattle.ndarray.specs.base.Slots.{held_at}
use Rattle.ndarray.proofs.pieces.Chunks.{div_ceil-le}
use Rattle.ndarray.proofs.pieces.DisjointChunks.{chunks-share, chunks-seen}
use Rattle.ndarray.proofs.boxes.Orders.{row_order-is, row_order-one}
use Rattle.ndarray.proofs.boxes.Sizes.{limit-one}
use Rattle.ndarray.proofs.subviews.axis_chunks_mut.chunks.Goals as goal

pub new-requires : goal.new-requires
new-requires g c =
    let le = div_ceil-le c.len_of.result c.args.size c.requires.size in
    let count = c.div_ceil-count.ensures in
    subst (λ ns. nonzero_size ns < 2 ^ 63) (sym c.Ix1.ensures) (limit-one c.div_ceil-count.result (omega (arith, c.len_of.ensures.fits)))

module _ (g : _) (c : goal.After-new g) where
  axis-lt : c.args.axis.0 < length (g.D.Lengths.numbers c.view.inside.layout.dim)
  axis-lt = omega (arith, ap (λ v. length v.lengths) c.view.view_is, c.requires.axis)

  -- the positions that the walk goes over
  walked : c.new.result ≡ row_order (div_ceil (get_or (g.D.Lengths.numbers c.view.inside.layout.dim) c.args.axis.0 0) c.args.size ∷ [])
  walked = c.new.ensures.list ∙ ap row_order (c.Ix1.ensures ∙ ap (λ n. n ∷ []) (c.div_ceil-count.ensures ∙ ap (λ n. div_ceil n c.args.size) (c.len_of.ensures.value ∙ sym (ap (λ v. get_or v.lengths c.args.axis.0 0) c.view.view_is))))

pub invariant_of-result-2 : goal.invariant_of-result-2
invariant_of-result-2 g c =
    rw (walked g c)
    (chunks-share (held_at c.view.inside.storage.slots) (g.D.Lengths.numbers c.view.inside.layout.dim) c.view.inside.layout.start (g.D.Lengths.numbers c.view.inside.layout.strides) c.args.axis.0 c.args.size c.view.invariant (axis-lt g c) c.requires.size)

pub returns-clause-items : goal.returns-clause-items
returns-clause-items g c =
    let ns = g.D.Lengths.numbers c.view.inside.layout.dim in
    let bs = g.D.Lengths.numbers c.view.inside.layout.strides in
    let k = c.args.axis.0 in
    let s = c.args.size in
    let count = div_ceil (get_or ns k 0) s in
    let at = held_at c.view.inside.storage.slots in
    let same = ap (λ v. get_or v.lengths k 0) c.view.view_is in
    ap (λ ps. grids_at at (chunk_layouts ns c.view.inside.layout.start bs k s ps)) (walked g c)
    ∙ (chunks-seen at ns c.view.inside.layout.start bs k s c.view.invariant (axis-lt g c) c.requires.size c.args.view c.view.view_is (row_order (count ∷ [])) (row_order-is (count ∷ [])).within
    ∙ (ap (chunks_along c.args.view k s) (row_order-one count)
    ∙ (map-map (λ p. axis_chunk c.args.view k s (get_or p 0 0)) (λ i. i ∷ []) (range_with_len 0 count)
    ∙ ap (λ n. map (axis_chunk c.args.view k s) (range_with_len 0 (div_ceil n s))) same)))

pub returns-clause-fits : goal.returns-clause-fits
returns-clause-fits g c =
    let e = ap length (returns-clause-items g c) in
    let l = length-map-range_with_len (axis_chunk c.args.view c.args.axis.0 c.args.size) 0 (div_ceil (get_or c.args.view.lengths c.args.axis.0 0) c.args.size) in
    let le = div_ceil-le (get_or c.args.view.lengths c.args.axis.0 0) c.args.size c.requires.size in
    let v = c.len_of.ensures.value in
    let f = c.len_of.ensures.fits in
    omega (arith, e, l, le, v, f)
