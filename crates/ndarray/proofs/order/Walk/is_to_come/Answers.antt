use Rattle.std.proofs.Common.{rules, arith, ◌≡◌, ℕ, ◌-◌, ◌<◌, ◌≤◌, Bool, nat_lt, nat_le, List, sym, ◌∙◌, subst}
use Rattle.std.proofs.lemmas.Bool.Decides.{nat_tests}
use Rattle.std.specs.Prelude.{Contains, IsTrue}
use Rattle.ndarray.specs.Index.{InBox}
use Rattle.ndarray.specs.base.Ranks.{rank_in}
use Rattle.ndarray.proofs.boxes.Boxes.{InBox-length}
use Rattle.ndarray.proofs.strides.Strides.{place-strides}
use Rattle.ndarray.proofs.boxes.Walks.{to-come, to-come_back}
use Rattle.ndarray.proofs.order.Walk.is_to_come.Goals as goal
use Rattle.ndarray.proofs.order.Walk.is_to_come.Goals.{then-next-rank, else-next-rank}

pub returns-in_default : goal.returns-in_default
returns-in_default g c =
    let axes = g.D.Lengths.numbers in
    let w = c.self.inside in
    let js = axes c.args.index.now in (
      λ f. absurd (search rules),
      λ there.
          let inside = to-come w.order (axes w.dim) (axes w.index) js w.left c.self.invariant (omega (arith, c.if-self-eq0.false)) (subst (λ (l : List (List ℕ)). Contains l js) (sym c.self.view_is) there) in
          absurd (c.in_default.ensures (subst (λ ns. InBox ns js) (sym c.copied.ensures.value) inside.0)),
    )

pub place-next-requires : goal.place-next-requires
place-next-requires g c =
    let axes = g.D.Lengths.numbers in
    let w = c.self.inside in
    c.default_strides.ensures.strides.as_many ∙ sym (InBox-length (axes w.dim) (axes w.index) (c.self.invariant.within (omega (arith, c.if-self-eq0.false))))

-- where a test of two numbers says so, the one is below the other
below : (a b : ℕ) (r : Bool) → r ≡ (nat_lt a b) → IsTrue r → a < b
below a b r e is = grind (arith, nat_tests)

-- or at most the other
at_most : (a b : ℕ) (r : Bool) → r ≡ (nat_le a b) → IsTrue r → a ≤ b
at_most a b r e is = grind (arith, nat_tests)

-- and where it is below, the test says so
is_below : (a b : ℕ) (r : Bool) → r ≡ (nat_lt a b) → a < b → IsTrue r
is_below a b r e lt = grind (arith, nat_tests)

pub returns : goal.returns
returns g c =
    let axes = g.D.Lengths.numbers in
    let w = c.self.inside in
    let js = axes c.args.index.now in
    let some : 0 < w.left = omega (arith, c.if-self-eq0.false) in
    let inside : InBox (axes w.dim) js = subst (λ ns. InBox ns js) c.copied.ensures.value c.in-Some.ensures.0 in
    let rank_is : c.in-Some.rank ≡ rank_in w.order (axes w.dim) js = c.in-Some.ensures.1 ∙ place-strides w.order (axes w.dim) (axes c.default_strides.result) c.default_strides.ensures.strides c.self.invariant.limit js inside in
    let next_is : c.place-next.result ≡ rank_in w.order (axes w.dim) (axes w.index) = c.place-next.ensures ∙ place-strides w.order (axes w.dim) (axes c.default_strides.result) c.default_strides.ensures.strides c.self.invariant.limit (axes w.index) (c.self.invariant.within some) in
    let P : List (List ℕ) → Type 0 = λ l. Contains l js in
    elim c.if-next-rank.branch [
      | then-next-rank b ↦ (
        λ is. (let near = below (c.in-Some.rank - c.place-next.result) w.left c.if-next-rank.result b.result-is is in
            subst P c.self.view_is (to-come_back w.order (axes w.dim) (axes w.index) js w.left c.self.invariant some inside (omega (arith, b.if-next-rank.true)) (omega (arith, b.if-next-rank.true)))),
        λ there. (let r = to-come w.order (axes w.dim) (axes w.index) js w.left c.self.invariant some (subst P (sym c.self.view_is) there) in
            is_below (c.in-Some.rank - c.place-next.result) w.left c.if-next-rank.result b.result-is (omega (arith, r.1, r.2))),
      )
      | else-next-rank b ↦ (
        λ is. (let low : c.place-next.result ≤ c.in-Some.rank = at_most c.place-next.result c.in-Some.rank c.if-next-rank.result b.result-is is in absurd (omega (arith, b.if-next-rank.false))),
        λ there. (let r = to-come w.order (axes w.dim) (axes w.index) js w.left c.self.invariant some (subst P (sym c.self.view_is) there) in absurd (omega (arith, b.if-next-rank.false, r.1))),
      )
    ]
