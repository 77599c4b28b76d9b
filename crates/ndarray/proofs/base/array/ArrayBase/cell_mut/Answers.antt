use Rattle.std.proofs.Common.{sym, ◌∙◌, ap, inl, inr, refl, subst}
use Rattle.std.specs.Prelude.{IsTrue}
use Rattle.std.specs.Option.{is_some}
use Rattle.ndarray.specs.Index.{InBox}
use Rattle.ndarray.proofs.strides.Reach.{cell_found, cell_not_found}
use Rattle.ndarray.proofs.cells.Writes.{grid-written}
use Rattle.ndarray.proofs.base.array.ArrayBase.cell_mut.Goals as goal

pub returns-in-None : goal.returns-in-None
returns-in-None g c =
    let a = c.self.inside in
    let none = sym (cell_not_found (g.S.Data.at a.storage) (g.D.Lengths.numbers a.layout.dim) a.layout.start (g.D.Lengths.numbers a.layout.strides) _ _ c.self.view_is c.in-None.ensures) in
    (ap (λ y. inr y) c.self.view_is, record { writes_back = tt; value = none; within = ((λ yes. absurd (cc)), λ b. absurd (c.in-None.ensures (subst (λ ns. InBox ns (g.D.Lengths.numbers c.args.index.now)) (sym (ap (λ v. v.lengths) c.self.view_is)) b))) })

pub returns-in-Some : goal.returns-in-Some
returns-in-Some g c =
    let a = c.self.inside in
    let at = g.S.Data.at a.storage in
    let e = c.in-Some.ensures.1 in
    let written = λ (w : _). grid-written at (g.S.Data.at (g.S.DataMut.with_element a.storage c.in-Some.place w)) (g.D.Lengths.numbers a.layout.dim) a.layout.start (g.D.Lengths.numbers a.layout.strides) c.self.invariant (g.met.S.DataMut.is_apart a.storage) (g.D.Lengths.numbers c.args.index.now) c.in-Some.ensures.0 w (ap (g.S.Data.at (g.S.DataMut.with_element a.storage c.in-Some.place w)) (sym e) ∙ g.met.S.DataMut.written_here a.storage c.in-Some.place w (subst (λ y. IsTrue (is_some y)) (sym c.element_mut.ensures.value) refl)) (λ j ne. g.met.S.DataMut.written_elsewhere a.storage c.in-Some.place j w (λ q. ne (q ∙ e))) c.args.self.now c.self.view_is in (
      (λ i. inl (c.element_mut.result.ghost_name, λ w. written w i)),
      record { writes_back = tt; value = sym (cell_found at (g.D.Lengths.numbers a.layout.dim) a.layout.start (g.D.Lengths.numbers a.layout.strides) _ _ c.in-Some.place _ c.self.invariant c.self.view_is c.in-Some.ensures.0 c.in-Some.ensures.1 c.element_mut.ensures.value); within = ((λ _. subst (λ ns. InBox ns (g.D.Lengths.numbers c.args.index.now)) (ap (λ v. v.lengths) c.self.view_is) c.in-Some.ensures.0), λ _. refl) },
    )
