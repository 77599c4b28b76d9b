use Rattle.std.proofs.Common.{◌≡◌, ◌<◌, arith, rules, length, get_or, set, ap, refl, sym, subst, ◌∙◌, w64}
use Rattle.std.specs.Prelude.{FitsSigned}
use Rattle.std.specs.Int.{cast_unsigned}
use Rattle.std.proofs.lemmas.Int.{to_z-of_z}
use Rattle.ndarray.specs.Grid.{cell, tabulate}
use Rattle.ndarray.specs.Slices.{IsSliceOf, slice_index_at, slice_length}
use Rattle.ndarray.specs.base.Places.{Rearranges}
use Rattle.ndarray.proofs.views.Cuts.{IsAxisCut, rearranges-cut}
use Rattle.ndarray.proofs.views.Images.{Reaches-rearranged, grid-seen}
use Rattle.ndarray.proofs.strides.Reach.{length-cells_at}
use Rattle.ndarray.proofs.boxes.Sizes.{length-fits}
use Rattle.ndarray.proofs.views.Slices.{IsAxisCut-slice}
use Rattle.ndarray.proofs.base.array.ArrayBase.slice_axis_inplace.Goals as goal

pub extent-from-requires-clause-fits : goal.extent-from-requires-clause-fits
extent-from-requires-clause-fits g c =
    let ns = g.D.Lengths.numbers c.self.inside.layout.dim in
    let lt : c.args.axis.0 < length ns = omega (arith, ap (λ v. length v.lengths) c.self.view_is, c.requires.axis) in
    let f = length-fits ns c.args.axis.0 lt c.self.invariant.limit in
    omega arith

length-is : (g : _) (c : goal.After-cut g) → c.axis.result ≡ get_or c.args.self.now.lengths c.args.axis.0 0
length-is g c = c.axis.ensures ∙ ap (λ v. get_or v.lengths c.args.axis.0 0) c.self.view_is

taken : (g : _) (c : goal.After-cut g) → Rearranges (g.S.Data.apart c.self.inside.storage) (g.D.Lengths.numbers c.self.inside.layout.dim) c.self.inside.layout.start (g.D.Lengths.numbers c.self.inside.layout.strides) (g.D.Lengths.numbers c.cut.new.self.dim) c.cut.new.self.start (g.D.Lengths.numbers c.cut.new.self.strides) (λ js. set js c.args.axis.0 (slice_index_at c.axis.result c.args.slice (get_or js c.args.axis.0 0)))
taken g c =
    let a = c.self.inside.layout in
    let ns = g.D.Lengths.numbers a.dim in
    let s = c.args.slice in
    let lt : c.args.axis.0 < length ns = omega (arith, ap (λ v. length v.lengths) c.self.view_is, c.requires.axis) in
    let within : IsSliceOf c.axis.result s = subst (λ n. IsSliceOf n s) (sym (length-is g c)) c.requires.within in
    let word : FitsSigned w64 s.step = search rules in
    let step : c.cast_unsigned.result ≡ cast_unsigned w64 s.step = c.cast_unsigned.ensures ∙ ap (cast_unsigned w64) (to_z-of_z w64 s.step word) in
    let cut : IsAxisCut (get_or ns c.args.axis.0 0) c.extent-from.result.0 c.extent-from.result.1 (cast_unsigned w64 s.step) (slice_index_at c.axis.result s) =
    subst (λ n. IsAxisCut n c.extent-from.result.0 c.extent-from.result.1 (cast_unsigned w64 s.step) (slice_index_at c.axis.result s)) c.axis.ensures
    (IsAxisCut-slice c.axis.result s within c.extent-from.result.0 c.extent-from.result.1 word c.extent-from.ensures.len c.extent-from.ensures.indices) in
    rw (c.cut.ensures.dim, c.cut.ensures.start, c.cut.ensures.strides, step) (rearranges-cut (g.S.Data.apart c.self.inside.storage) _ ns a.start (g.D.Lengths.numbers a.strides) c.self.invariant c.args.axis.0 lt c.extent-from.result.0 c.extent-from.result.1 (cast_unsigned w64 s.step) (slice_index_at c.axis.result s) cut)

pub invariant_of-self : goal.invariant_of-self
invariant_of-self g c = Reaches-rearranged (taken g c) _ (λ x. x) c.self.invariant

pub returns-clause-value : goal.returns-clause-value
returns-clause-value g c =
    let lengths = c.cut.ensures.dim ∙ (ap (set (g.D.Lengths.numbers c.self.inside.layout.dim) c.args.axis.0) c.extent-from.ensures.len ∙ ap (λ v. set v.lengths c.args.axis.0 (slice_length c.axis.result c.args.slice)) c.self.view_is) in
    grid-seen (taken g c) (g.S.Data.at c.self.inside.storage) _ _ _ (λ p. refl) c.self.invariant c.self.view_is lengths
    ∙ ap (λ n. tabulate (set c.args.self.now.lengths c.args.axis.0 (slice_length n c.args.slice)) (λ is. cell c.args.self.now (set is c.args.axis.0 (slice_index_at n c.args.slice (get_or is c.args.axis.0 0))))) (length-is g c)

pub returns-clause-whole : goal.returns-clause-whole
returns-clause-whole g c = length-cells_at _ _ _ _ (invariant_of-self g c)
