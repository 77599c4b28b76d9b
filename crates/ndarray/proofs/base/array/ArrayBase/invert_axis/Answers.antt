use Rattle.std.proofs.Common.{◌≡◌, ◌<◌, ◌-◌, ◌+◌, ◌%◌, ◌^◌, arith, length, get_or, ap, refl, sym, ◌∙◌, subst}
use Rattle.std.proofs.lemmas.List.{set-get_or}
use Rattle.ndarray.specs.Grid.{cell, tabulate}
use Rattle.ndarray.specs.Views.{mirrored_index}
use Rattle.ndarray.specs.base.Places.{Rearranges}
use Rattle.ndarray.proofs.views.Cuts.{IsAxisCut, IsAxisCut-turned, rearranges-cut}
use Rattle.ndarray.proofs.views.Images.{Reaches-rearranged, grid-seen}
use Rattle.ndarray.proofs.strides.Reach.{length-cells_at}
use Rattle.ndarray.proofs.boxes.Sizes.{length-fits}
use Rattle.ndarray.proofs.base.array.ArrayBase.invert_axis.Goals as goal

turn : (g : _) (c : goal.After-cut g) → Rearranges (g.S.Data.apart c.self.inside.storage) (g.D.Lengths.numbers c.self.inside.layout.dim) c.self.inside.layout.start (g.D.Lengths.numbers c.self.inside.layout.strides) (g.D.Lengths.numbers c.cut.new.self.dim) c.cut.new.self.start (g.D.Lengths.numbers c.cut.new.self.strides) (mirrored_index (g.D.Lengths.numbers c.self.inside.layout.dim) c.args.axis.0)
unfolding mirrored_index
turn g c =
    let a = c.self.inside.layout in
    let ns = g.D.Lengths.numbers a.dim in
    let lt : c.args.axis.0 < length ns = omega (arith, ap (λ v. length v.lengths) c.self.view_is, c.requires) in
    let n = get_or ns c.args.axis.0 0 in
    let cut : IsAxisCut n ((c.axis-len.result + (2 ^ 64 - 1)) % 2 ^ 64) c.axis-len.result (2 ^ 64 - 1) (λ i. n - 1 - i) =
    subst (λ len. IsAxisCut n ((len + (2 ^ 64 - 1)) % 2 ^ 64) len (2 ^ 64 - 1) (λ i. n - 1 - i)) (sym c.axis-len.ensures) (IsAxisCut-turned n (length-fits ns c.args.axis.0 lt c.self.invariant.limit)) in
    rw (c.cut.ensures.dim, c.cut.ensures.start, c.cut.ensures.strides) (rearranges-cut (g.S.Data.apart c.self.inside.storage) _ ns a.start (g.D.Lengths.numbers a.strides) c.self.invariant c.args.axis.0 lt ((c.axis-len.result + (2 ^ 64 - 1)) % 2 ^ 64) c.axis-len.result (2 ^ 64 - 1) (λ i. n - 1 - i) cut)

pub invariant_of-self : goal.invariant_of-self
invariant_of-self g c = Reaches-rearranged (turn g c) _ (λ x. x) c.self.invariant

pub returns-clause-value : goal.returns-clause-value
returns-clause-value g c =
    let same = ap (λ v. v.lengths) c.self.view_is in
    let lengths : g.D.Lengths.numbers c.cut.new.self.dim ≡ c.args.self.now.lengths = rw (c.cut.ensures.dim, c.axis-len.ensures, set-get_or) same in
    grid-seen (turn g c) (g.S.Data.at c.self.inside.storage) _ _ _ (λ p. refl) c.self.invariant c.self.view_is lengths
    ∙ ap (λ ns. tabulate c.args.self.now.lengths (λ is. cell c.args.self.now (mirrored_index ns c.args.axis.0 is))) same

pub returns-clause-whole : goal.returns-clause-whole
returns-clause-whole g c = length-cells_at _ _ _ _ (invariant_of-self g c)
