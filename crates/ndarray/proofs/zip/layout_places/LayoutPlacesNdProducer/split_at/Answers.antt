use Rattle.std.proofs.Common.{◌≡◌, ◌^◌, ◌*◌, ◌%◌, ◌+◌, ◌-◌, arith, get_or, set, ap, ◌∙◌, subst, sym}
use Rattle.ndarray.specs.Producers.{IsPart}
use Rattle.ndarray.specs.base.Places.{Rearranges, place}
use Rattle.ndarray.proofs.pieces.SomePieces.{positions-cut}
use Rattle.ndarray.proofs.zip.layout_places.LayoutPlacesNdProducer.split_at.Goals as goal
use Rattle.ndarray.proofs.zip.layout_places.LayoutPlacesNdProducer.split_at.Goals.{After-cut, After-cut-2}

-- the places of each part lie where they lay
low : (g : _) (c : After-cut g) → Rearranges ⊥ (g.D.Lengths.numbers c.args.self.layout.dim) c.args.self.layout.start (g.D.Lengths.numbers c.args.self.layout.strides) (g.D.Lengths.numbers c.cut.new.self.dim) c.cut.new.self.start (g.D.Lengths.numbers c.cut.new.self.strides) (λ js. set js c.args.axis.0 (0 + get_or js c.args.axis.0 0))
low g c =
    let s = c.args.self in
    let l = c.copied-low.ensures in
    positions-cut (g.D.Lengths.numbers s.layout.dim) s.layout.start (g.D.Lengths.numbers s.layout.strides) s.as_many s.limit c.args.axis.0 c.requires.axis_below 0 c.args.index (let le = c.requires.index_at_most in omega arith) _ _ _
    (c.cut.ensures.dim ∙ ap (λ ms. set ms c.args.axis.0 c.args.index) l.dim)
    (c.cut.ensures.start ∙ (ap (λ x. (x + (0 * get_or (g.D.Lengths.numbers c.copied-low.result.strides) c.args.axis.0 0) % 2 ^ 64) % 2 ^ 64) l.start ∙ ap (λ xs. (s.layout.start + (0 * get_or xs c.args.axis.0 0) % 2 ^ 64) % 2 ^ 64) l.strides))
    (c.cut.ensures.strides ∙ ap (λ xs. set xs c.args.axis.0 ((get_or xs c.args.axis.0 0 * 1) % 2 ^ 64)) l.strides)

high : (g : _) (c : After-cut-2 g) → Rearranges ⊥ (g.D.Lengths.numbers c.args.self.layout.dim) c.args.self.layout.start (g.D.Lengths.numbers c.args.self.layout.strides) (g.D.Lengths.numbers c.cut-2.new.self.dim) c.cut-2.new.self.start (g.D.Lengths.numbers c.cut-2.new.self.strides) (λ js. set js c.args.axis.0 (c.args.index + get_or js c.args.axis.0 0))
high g c =
    let s = c.args.self in
    let ns = g.D.Lengths.numbers s.layout.dim in
    positions-cut ns s.layout.start (g.D.Lengths.numbers s.layout.strides) s.as_many s.limit c.args.axis.0 c.requires.axis_below c.args.index (get_or ns c.args.axis.0 0 - c.args.index) (let le = c.requires.index_at_most in omega arith) _ _ _
    (c.cut-2.ensures.dim ∙ ap (λ n. set ns c.args.axis.0 (n - c.args.index)) c.axis-len.ensures) c.cut-2.ensures.start c.cut-2.ensures.strides

pub of-requires-clause-limit : goal.of-requires-clause-limit
of-requires-clause-limit g c = (low g (goal.at.of-requires-clause-limit g c).After-cut).limit

pub of-requires-2-clause-limit : goal.of-requires-2-clause-limit
of-requires-2-clause-limit g c = (high g (goal.at.of-requires-2-clause-limit g c).After-cut-2).limit

pub returns-clause-first : goal.returns-clause-first
returns-clause-first g c =
    let s = c.args.self in
    subst (λ l. IsPart c.args.axis.0 0 c.args.index (g.D.Lengths.numbers s.layout.dim) (λ i p. p ≡ place s.layout.start (g.D.Lengths.numbers s.layout.strides) i) (g.D.Lengths.numbers l.dim) (λ i p. p ≡ place l.start (g.D.Lengths.numbers l.strides) i)) (sym c.of.ensures)
    (record {
      lengths = c.cut.ensures.dim ∙ (ap (λ ms. set ms c.args.axis.0 c.args.index) c.copied-low.ensures.dim ∙ ap (set (g.D.Lengths.numbers s.layout.dim) c.args.axis.0) (omega arith));
      items = λ js b x. ((λ e. e ∙ (low g (goal.at.returns-clause-first g c).After-cut).same js b), (λ e. e ∙ sym ((low g (goal.at.returns-clause-first g c).After-cut).same js b)));
    })

pub returns-clause-second : goal.returns-clause-second
returns-clause-second g c =
    let s = c.args.self in
    let ns = g.D.Lengths.numbers s.layout.dim in
    subst (λ l. IsPart c.args.axis.0 c.args.index (get_or ns c.args.axis.0 0) ns (λ i p. p ≡ place s.layout.start (g.D.Lengths.numbers s.layout.strides) i) (g.D.Lengths.numbers l.dim) (λ i p. p ≡ place l.start (g.D.Lengths.numbers l.strides) i)) (sym c.of-2.ensures)
    (record {
      lengths = c.cut-2.ensures.dim ∙ ap (λ n. set ns c.args.axis.0 (n - c.args.index)) c.axis-len.ensures;
      items = λ js b x. ((λ e. e ∙ (high g (goal.at.returns-clause-second g c).After-cut-2).same js b), (λ e. e ∙ sym ((high g (goal.at.returns-clause-second g c).After-cut-2).same js b)));
    })
