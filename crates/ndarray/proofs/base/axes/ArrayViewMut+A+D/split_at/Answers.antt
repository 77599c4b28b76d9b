use Rattle.std.proofs.Common.{List, ◌≡◌, ◌<◌, ◌≤◌, ◌+◌, ◌-◌, ℕ, [], ◌∷◌, arith, length, get_or, set, ap, refl, ◌∙◌}
use Rattle.std.specs.Prelude.{⊤}
use Rattle.ndarray.specs.Index.{InBox}
use Rattle.ndarray.specs.base.Places.{Rearranges}
use Rattle.ndarray.specs.base.CellLayouts.{CellLayout, cell_layout}
use Rattle.ndarray.specs.base.Slots.{held_at}
use Rattle.ndarray.proofs.views.Cuts.{rearranges-part, cuts-apart}
use Rattle.ndarray.proofs.views.Images.{grid-seen}
use Rattle.ndarray.proofs.strides.Reach.{length-cells_at}
use Rattle.ndarray.specs.base.Masks.{SharesBoth}
use Rattle.ndarray.proofs.regions.Masks.{SharesBoth-images, one-reaches, one-seen, other-reaches, other-seen}
use Rattle.ndarray.proofs.base.axes.ArrayViewMut+A+D.split_at.Goals as goal
use Rattle.ndarray.proofs.base.axes.ArrayViewMut+A+D.split_at.Goals.{After-split-here}

module _ (g : _) (c : After-split-here g) where
  -- the lengths of the view, the axis and where it is cut
  axis-lt : c.args.axis.0 < length (g.D.Lengths.numbers c.self.inside.layout.dim)
  axis-lt = omega (arith, ap (λ v. length v.lengths) c.self.view_is, c.requires.axis)

  abbrev axis-len : ℕ
  axis-len = get_or (g.D.Lengths.numbers c.self.inside.layout.dim) c.args.axis.0 0

  index-le : c.args.index ≤ axis-len
  index-le = omega (arith, ap (λ v. get_or v.lengths c.args.axis.0 0) c.self.view_is, c.requires.within)

  -- where each part lies
  abbrev here : CellLayout
  here = cell_layout (g.D.Lengths.numbers c.cut.new.self.dim) c.cut.new.self.start (g.D.Lengths.numbers c.cut.new.self.strides)

  abbrev rest : CellLayout
  rest = cell_layout (g.D.Lengths.numbers c.cut-2.new.self.dim) c.cut-2.new.self.start (g.D.Lengths.numbers c.cut-2.new.self.strides)

  here-kept : Rearranges ⊤ (g.D.Lengths.numbers c.self.inside.layout.dim) c.self.inside.layout.start (g.D.Lengths.numbers c.self.inside.layout.strides) (g.D.Lengths.numbers c.cut.new.self.dim) c.cut.new.self.start (g.D.Lengths.numbers c.cut.new.self.strides) (λ js. set js c.args.axis.0 (0 + get_or js c.args.axis.0 0))
  here-kept =
      rw (c.cut.ensures.dim, c.cut.ensures.start, c.cut.ensures.strides, c.copied-first.ensures.dim, c.copied-first.ensures.start, c.copied-first.ensures.strides)
      (rearranges-part ⊤ (held_at c.self.inside.storage.slots) (g.D.Lengths.numbers c.self.inside.layout.dim) c.self.inside.layout.start (g.D.Lengths.numbers c.self.inside.layout.strides) c.self.invariant c.args.axis.0 axis-lt 0 c.args.index (omega (arith, index-le)))

  rest-kept : Rearranges ⊤ (g.D.Lengths.numbers c.self.inside.layout.dim) c.self.inside.layout.start (g.D.Lengths.numbers c.self.inside.layout.strides) (g.D.Lengths.numbers c.cut-2.new.self.dim) c.cut-2.new.self.start (g.D.Lengths.numbers c.cut-2.new.self.strides) (λ js. set js c.args.axis.0 (c.args.index + get_or js c.args.axis.0 0))
  rest-kept =
      let l : c.axis-len.result - c.args.index ≡ axis-len - c.args.index = omega (arith, c.axis-len.ensures) in
      rw (c.cut-2.ensures.dim, c.cut-2.ensures.start, c.cut-2.ensures.strides, l)
      (rearranges-part ⊤ (held_at c.self.inside.storage.slots) (g.D.Lengths.numbers c.self.inside.layout.dim) c.self.inside.layout.start (g.D.Lengths.numbers c.self.inside.layout.strides) c.self.invariant c.args.axis.0 axis-lt c.args.index (axis-len - c.args.index) (omega (arith, index-le)))

  differ : (is js : List ℕ) → InBox (g.D.Lengths.numbers c.cut.new.self.dim) is → InBox (g.D.Lengths.numbers c.cut-2.new.self.dim) js → set is c.args.axis.0 (0 + get_or is c.args.axis.0 0) ≡ set js c.args.axis.0 (c.args.index + get_or js c.args.axis.0 0) → ⊥
  differ =
      rw (c.cut.ensures.dim, c.cut-2.ensures.dim, c.copied-first.ensures.dim)
      (cuts-apart (g.D.Lengths.numbers c.self.inside.layout.dim) c.args.axis.0 axis-lt c.args.index _ (λ i. 0 + i) (λ i. c.args.index + i) (λ i j li lj e. omega arith))

  both : SharesBoth (held_at c.self.inside.storage.slots) (here ∷ []) (rest ∷ [])
  both = SharesBoth-images (held_at c.self.inside.storage.slots) (g.D.Lengths.numbers c.self.inside.layout.dim) c.self.inside.layout.start (g.D.Lengths.numbers c.self.inside.layout.strides) c.self.invariant here rest _ _ here-kept rest-kept differ

pub invariant_of-result : goal.invariant_of-result
invariant_of-result g c = rw c.split-here.ensures.first (one-reaches c.self.inside.storage.slots (here g c) _ (both g c))

pub invariant_of-result-2 : goal.invariant_of-result-2
invariant_of-result-2 g c = rw c.split-here.ensures.second (other-reaches c.self.inside.storage.slots (rest g c) _ (both g c))

pub returns-clause-first : goal.returns-clause-first
returns-clause-first g c = rw c.split-here.ensures.first (one-seen c.self.inside.storage.slots (here g c) _ (both g c)
    ∙ grid-seen (here-kept g c) (held_at c.self.inside.storage.slots) _ _ _ (λ p. refl) c.self.invariant c.self.view_is
    (c.cut.ensures.dim ∙ (ap (λ ns. set ns c.args.axis.0 c.args.index) c.copied-first.ensures.dim ∙ (ap (λ v. set v.lengths c.args.axis.0 c.args.index) c.self.view_is ∙ ap (set c.args.self.lengths c.args.axis.0) (omega arith)))))

pub returns-clause-second : goal.returns-clause-second
returns-clause-second g c = rw c.split-here.ensures.second (other-seen c.self.inside.storage.slots (rest g c) _ (both g c)
    ∙ grid-seen (rest-kept g c) (held_at c.self.inside.storage.slots) _ _ _ (λ p. refl) c.self.invariant c.self.view_is
    (c.cut-2.ensures.dim ∙ (ap (λ n. set (g.D.Lengths.numbers c.self.inside.layout.dim) c.args.axis.0 (n - c.args.index)) c.axis-len.ensures ∙ ap (λ v. set v.lengths c.args.axis.0 (get_or v.lengths c.args.axis.0 0 - c.args.index)) c.self.view_is)))

pub returns-clause-first_whole : goal.returns-clause-first_whole
returns-clause-first_whole g c = length-cells_at _ _ _ _ (invariant_of-result g c)

pub returns-clause-second_whole : goal.returns-clause-second_whole
returns-clause-second_whole g c = length-cells_at _ _ _ _ (invariant_of-result-2 g c)
