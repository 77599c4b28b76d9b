use contract.BorrowLft.{⊑_meet, ⊑_refl, ⊑_static}
use Rattle.std.proofs.Common.{List, ◌^◌, ◌*◌, ◌%◌, ◌<◌, ◌≤◌, ◌+◌, ◌-◌, ℕ, arith, length, get_or, set, ap, ◌∙◌, subst, sym}
use Rattle.ndarray.specs.Index.{row_order}
use Rattle.ndarray.specs.base.Places.{Rearranges}
use Rattle.ndarray.specs.base.CellLayouts.{CellLayout}
use Rattle.ndarray.specs.base.Slots.{held_at}
use Rattle.ndarray.specs.base.Pieces.{piece_layouts}
use Rattle.ndarray.proofs.cells.Cells.{array_by-whole}
use Rattle.ndarray.proofs.views.Cuts.{cuts-apart, part-once}
use Rattle.ndarray.proofs.pieces.Pieces.{some-seen}
use Rattle.ndarray.specs.base.Masks.{SharesBoth}
use Rattle.ndarray.proofs.regions.Masks.{Shares-slots_in, Shares-slots_outside, grids-slots_in, grids-slots_outside}
use Rattle.ndarray.proofs.pieces.SomePieces.{positions-cut, parts-share, pieces-same}
use Rattle.ndarray.proofs.subviews.pieces_mut.PiecesMut.split_at.Goals as goal
use Rattle.ndarray.proofs.subviews.pieces_mut.PiecesMut.split_at.Goals.{After-split-here}

module _ (g : _) (c : After-split-here g) where
  -- the positions, the lengths and the strides of each piece, the axis and where it is cut
  abbrev ps : List ℕ
  ps = g.P.Lengths.numbers c.self.inside.positions.dim

  abbrev steps : List ℕ
  steps = g.P.Lengths.numbers c.self.inside.positions.strides

  abbrev start : ℕ
  start = c.self.inside.positions.start

  abbrev ns : List ℕ
  ns = g.D.Lengths.numbers c.self.inside.dim

  abbrev bs : List ℕ
  bs = g.D.Lengths.numbers c.self.inside.strides

  axis-lt : c.args.axis.0 < length ps
  axis-lt = subst (λ n. c.args.axis.0 < n) (sym (ap (λ v. length v.lengths) c.self.view_is)) c.requires.axis

  abbrev axis-len : ℕ
  axis-len = get_or ps c.args.axis.0 0

  index-le : c.args.index ≤ axis-len
  index-le = subst (λ n. c.args.index ≤ n) (sym (ap (λ v. get_or v.lengths c.args.axis.0 0) c.self.view_is)) c.requires.within

  here-kept : Rearranges ⊥ ps start steps (g.P.Lengths.numbers c.cut.new.self.dim) c.cut.new.self.start (g.P.Lengths.numbers c.cut.new.self.strides) (λ js. set js c.args.axis.0 (0 + get_or js c.args.axis.0 0))
  here-kept =
      let l = c.copied-low.ensures in
      positions-cut ps start steps c.self.invariant.as_many c.self.invariant.limit c.args.axis.0 axis-lt 0 c.args.index (omega (arith, index-le)) _ _ _
      (c.cut.ensures.dim ∙ ap (λ ms. set ms c.args.axis.0 c.args.index) l.dim)
      (c.cut.ensures.start ∙ (ap (λ x. (x + (0 * get_or (g.P.Lengths.numbers c.copied-low.result.strides) c.args.axis.0 0) % 2 ^ 64) % 2 ^ 64) l.start ∙ ap (λ xs. (start + (0 * get_or xs c.args.axis.0 0) % 2 ^ 64) % 2 ^ 64) l.strides))
      (c.cut.ensures.strides ∙ ap (λ xs. set xs c.args.axis.0 ((get_or xs c.args.axis.0 0 * 1) % 2 ^ 64)) l.strides)

  rest-kept : Rearranges ⊥ ps start steps (g.P.Lengths.numbers c.cut-2.new.self.dim) c.cut-2.new.self.start (g.P.Lengths.numbers c.cut-2.new.self.strides) (λ js. set js c.args.axis.0 (c.args.index + get_or js c.args.axis.0 0))
  rest-kept =
      positions-cut ps start steps c.self.invariant.as_many c.self.invariant.limit c.args.axis.0 axis-lt c.args.index (axis-len - c.args.index) (omega (arith, index-le)) _ _ _
      (c.cut-2.ensures.dim ∙ ap (λ n. set ps c.args.axis.0 (n - c.args.index)) c.axis-len.ensures) c.cut-2.ensures.start c.cut-2.ensures.strides

  -- where the pieces of each part lie
  abbrev here : List CellLayout
  here = piece_layouts c.cut.new.self.start (g.P.Lengths.numbers c.cut.new.self.strides) ns bs (row_order (g.P.Lengths.numbers c.cut.new.self.dim))

  abbrev rest : List CellLayout
  rest = piece_layouts c.cut-2.new.self.start (g.P.Lengths.numbers c.cut-2.new.self.strides) ns bs (row_order (g.P.Lengths.numbers c.cut-2.new.self.dim))

  both : SharesBoth (held_at c.self.inside.region.slots) here rest
  both =
      parts-share (held_at c.self.inside.region.slots) ps start steps ns bs c.self.invariant here-kept rest-kept
      (rw (c.cut.ensures.dim, c.copied-low.ensures.dim) (part-once ps c.args.axis.0 axis-lt c.args.index 0))
      (rw c.cut-2.ensures.dim (part-once ps c.args.axis.0 axis-lt _ c.args.index))
      (rw (c.cut.ensures.dim, c.cut-2.ensures.dim, c.copied-low.ensures.dim)
      (cuts-apart ps c.args.axis.0 axis-lt c.args.index _ (λ i. 0 + i) (λ i. c.args.index + i) (λ i j li lj e. omega arith)))

pub invariant_of-result : goal.invariant_of-result
invariant_of-result g c =
    rw (c.split-here.ensures.first, c.copied.ensures.value, c.copied-2.ensures.value)
    (record { as_many = (here-kept g c).as_many; limit = (here-kept g c).limit; shares = Shares-slots_in c.self.inside.region.slots (here g c) (rest g c) (both g c) })

pub invariant_of-result-2 : goal.invariant_of-result-2
invariant_of-result-2 g c =
    rw (c.split-here.ensures.second, c.copied.ensures.value, c.copied-2.ensures.value)
    (record { as_many = (rest-kept g c).as_many; limit = (rest-kept g c).limit; shares = Shares-slots_outside c.self.inside.region.slots (here g c) (rest g c) (both g c) })

pub returns : goal.returns
returns g c = record {
  first =
      rw (c.split-here.ensures.first, c.copied.ensures.value, c.copied-2.ensures.value)
      (pieces-same _ _ (ns g c) (bs g c) (held_at c.self.inside.region.slots) _ _ (grids-slots_in c.self.inside.region.slots (here g c) (rest g c) (both g c))
      ∙ some-seen (here-kept g c) (held_at c.self.inside.region.slots) (ns g c) (bs g c) c.args.self _ c.self.view_is
      (c.cut.ensures.dim ∙ (ap (λ ms. set ms c.args.axis.0 c.args.index) c.copied-low.ensures.dim ∙ (ap (λ v. set v.lengths c.args.axis.0 c.args.index) c.self.view_is ∙ ap (set c.args.self.lengths c.args.axis.0) (omega arith)))));
  second =
      rw (c.split-here.ensures.second, c.copied.ensures.value, c.copied-2.ensures.value)
      (pieces-same _ _ (ns g c) (bs g c) (held_at c.self.inside.region.slots) _ _ (grids-slots_outside c.self.inside.region.slots (here g c) (rest g c) (both g c))
      ∙ some-seen (rest-kept g c) (held_at c.self.inside.region.slots) (ns g c) (bs g c) c.args.self _ c.self.view_is
      (c.cut-2.ensures.dim ∙ (ap (λ n. set (ps g c) c.args.axis.0 (n - c.args.index)) c.axis-len.ensures ∙ ap (λ v. set v.lengths c.args.axis.0 (get_or v.lengths c.args.axis.0 0 - c.args.index)) c.self.view_is)));
  first_whole = array_by-whole _ _;
  second_whole = array_by-whole _ _;
}

-- what names the places outlives the call
pub split-here-requires : goal.split-here-requires
split-here-requires g c κs within =
    let p = within.1.0 in
    let d = within.1.1 in
    let none = ⊑_static κs.1.1.1.0 in
    let pn = ⊑_meet _ _ _ p none in
    let dn = ⊑_meet _ _ _ d none in
    let end = ⊑_static κs.1.1.0 in
    let lent = ⊑_meet _ _ _ (⊑_meet _ _ _ (⊑_meet _ _ _ (⊑_meet _ _ _ (⊑_refl κs.1.1.0) end) end) end) end in
    let named = ⊑_meet _ _ _ (⊑_meet _ _ _ p dn) (⊑_meet _ _ _ (⊑_meet _ _ _ pn (⊑_meet _ _ _ p pn)) (⊑_meet _ _ _ d dn)) in
    (within.0, (lent, named))
