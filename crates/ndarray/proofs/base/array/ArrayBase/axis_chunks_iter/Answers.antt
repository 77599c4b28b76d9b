use Rattle.std.proofs.Common.{◌≡◌, ◌∷◌, [], ◌<◌, ◌^◌, ap, sym, ◌∙◌, subst, length, get_or, arith}
use Rattle.std.proofs.lemmas.Simd.{map-map}
use Rattle.std.proofs.lemmas.List.FromFn.{length-map-range_with_len}
use Rattle.std.specs.Int.{div_ceil}
use Rattle.std.specs.List.{range_with_len}
use Rattle.ndarray.specs.Limits.{nonzero_size}
use Rattle.ndarray.specs.Index.{row_order}
use Rattle.ndarray.specs.Subviews.{axis_chunk}
use Rattle.ndarray.specs.base.Chunks.{chunks_along}
use Rattle.ndarray.proofs.pieces.Chunks.{div_ceil-le}
use Rattle.ndarray.proofs.boxes.Orders.{row_order-is, row_order-one}
use Rattle.ndarray.proofs.boxes.Sizes.{limit-one}
use Rattle.ndarray.proofs.base.array.ArrayBase.axis_chunks_iter.Goals as goal

pub new-requires : goal.new-requires
new-requires g c =
    let le = div_ceil-le c.len_of.result c.args.size c.requires.size in
    let count = c.div_ceil-count.ensures in
    subst (λ ns. nonzero_size ns < 2 ^ 63) (sym c.Ix1.ensures) (limit-one c.div_ceil-count.result (omega (arith, c.len_of.ensures.fits)))

-- the positions that the walk goes over
walked : (g : _) (c : goal.After-new g) → c.new.result ≡ row_order (div_ceil (get_or c.args.self.now.lengths c.args.axis.0 0) c.args.size ∷ [])
walked g c = c.new.ensures.list ∙ ap row_order (c.Ix1.ensures ∙ ap (λ n. n ∷ []) (c.div_ceil-count.ensures ∙ ap (λ n. div_ceil n c.args.size) c.len_of.ensures.value))

pub invariant_of-result : goal.invariant_of-result
invariant_of-result g c =
    rw (c.view.ensures.same, walked g c) (record { bound = c.requires.axis; positive = c.requires.size; within = (row_order-is _).within })

pub returns-clause-items : goal.returns-clause-items
returns-clause-items g c =
    let a = c.args.self.now in
    let k = c.args.axis.0 in
    let s = c.args.size in
    ap (λ v. chunks_along v k s c.new.result) c.view.ensures.same
    ∙ (ap (chunks_along a k s) (walked g c ∙ row_order-one _)
    ∙ map-map (λ p. axis_chunk a k s (get_or p 0 0)) (λ i. i ∷ []) (range_with_len 0 _))

pub returns-clause-fits : goal.returns-clause-fits
returns-clause-fits g c =
    let e = ap length (returns-clause-items g c) in
    let l = length-map-range_with_len (axis_chunk c.args.self.now c.args.axis.0 c.args.size) 0 (div_ceil (get_or c.args.self.now.lengths c.args.axis.0 0) c.args.size) in
    let le = div_ceil-le (get_or c.args.self.now.lengths c.args.axis.0 0) c.args.size c.requires.size in
    let v = c.len_of.ensures.value in
    let f = c.len_of.ensures.fits in
    omega arith
