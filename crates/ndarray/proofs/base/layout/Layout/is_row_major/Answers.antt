use Rattle.std.proofs.Common.{ℕ, suc, length, drop, Option, Some, None, arith, ◌≡◌, ◌+◌, ◌-◌, ◌∙◌, ap, sym, inl, inr, refl, subst, get_or}
use Rattle.std.specs.Prelude.{IsTrue}
use Rattle.std.specs.Option.{is_some, SomeIff}
use Rattle.std.proofs.lemmas.Bool.{cases_lt}
use Rattle.ndarray.specs.Index.{size}
use Rattle.ndarray.specs.declared.base.shape.Order.TheVariants.{RowMajor}
use Rattle.ndarray.proofs.boxes.Sizes.{size-one_of}
use Rattle.ndarray.proofs.strides.Strides.{IsContiguousAt, block_in-fits, block-step, last-fits, place-follows, stride-follows}
use Rattle.ndarray.proofs.base.layout.Layout.is_row_major.Goals as goal
use Rattle.ndarray.proofs.base.layout.Layout.is_row_major.Goals.{else-len-ne1-via-then-len-ne1+else-axis-block, else-len-ne1-via-else-len-ne1}

pub returns-then-axis-block-clause-one : goal.returns-then-axis-block-clause-one
returns-then-axis-block-clause-one g c = λ e.
    let k = c.ndim-ndim.result - 1 - c.loop-p.p in
    let l = size-one_of (g.D.Lengths.numbers c.args.self.now.dim) k (omega arith) e in
    absurd (c.if-len-ne1.true (c.axis-len.ensures ∙ l))

pub returns-then-axis-block-clause-places : goal.returns-then-axis-block-clause-places
returns-then-axis-block-clause-places g c = (
  λ y. absurd (cc),
  λ beside.
      let ns = g.D.Lengths.numbers c.args.self.now.dim in
      let bs = g.D.Lengths.numbers c.args.self.now.strides in
      let k = c.ndim-ndim.result - 1 - c.loop-p.p in
      let next : suc k ≡ length ns - c.loop-p.p = omega arith in
      let same = stride-follows ns bs c.args.self.now.start c.requires.as_many c.requires.some beside k (omega arith) (λ e. c.if-len-ne1.true (c.axis-len.ensures ∙ e)) (omega (arith, c.axis.ensures, c.axis.type_inv)) in
      absurd (c.if-axis-block.true (c.axis.ensures ∙ (same ∙ (ap (λ j. size (drop j ns)) next ∙ sym c.loop-p.invariant.block)))),
)

pub overflow_mul-block : goal.overflow_mul-block
overflow_mul-block g c =
    let ns = g.D.Lengths.numbers c.args.self.now.dim in
    let f = block_in-fits RowMajor ns (c.loop-p.p + 1) c.requires.limit in
    let more = block-step RowMajor ns c.ndim-ndim.result c.loop-p.p (c.ndim-ndim.result - 1 - c.loop-p.p) c.loop-p.block c.axis-len.result c.ndim-ndim.ensures.value c.loop-p-test.true refl c.axis-len.ensures c.loop-p.invariant.block in
    omega (arith, more, f)

pub loop-p-preserved : goal.loop-p-preserved
loop-p-preserved g c =
    let ns = g.D.Lengths.numbers c.args.self.now.dim in
    let bs = g.D.Lengths.numbers c.args.self.now.strides in
    let n = c.ndim-ndim.ensures.value in
    let p = c.loop-p.p in
    let this : IsContiguousAt ns bs p = elim c.else-len-ne1.branch [
      | else-len-ne1-via-then-len-ne1+else-axis-block w ↦ inr (ap (λ m. get_or bs (m - 1 - p) 0) (sym n) ∙ (sym w.axis.ensures ∙ (w.if-axis-block.false ∙ c.loop-p.invariant.block)))
      | else-len-ne1-via-else-len-ne1 w ↦ inl (ap (λ m. get_or ns (m - 1 - p) 0) (sym n) ∙ (sym c.axis-len.ensures ∙ w.if-len-ne1.false))
    ] in
    record {
      block = block-step RowMajor ns c.ndim-ndim.result p (c.ndim-ndim.result - 1 - p) c.loop-p.block c.axis-len.result n c.loop-p-test.true refl c.axis-len.ensures c.loop-p.invariant.block;
      each = λ q h. elim (cases_lt q p) [
        | inl below ↦ c.loop-p.invariant.each q below
        | inr above ↦ (let e : p ≡ q = omega (arith, above) in subst (IsContiguousAt ns bs) e this)
      ];
    }

within : {P : Type 0} (sum : Option ℕ) (v : ℕ) → SomeIff sum P v → IsTrue (is_some sum) → P
within None v h y = absurd (cc)
within (Some x) v h y = h.0

found : {P : Type 0} (sum : Option ℕ) (v : ℕ) → SomeIff sum P v → P → IsTrue (is_some sum)
found None v h p = absurd (h p)
found (Some x) v h p = refl

pub returns-clause-places : goal.returns-clause-places
returns-clause-places g c =
    let ns = g.D.Lengths.numbers c.args.self.now.dim in
    let bs = g.D.Lengths.numbers c.args.self.now.strides in
    let start = c.args.self.now.start in
    let none : length ns - c.loop-p.p ≡ 0 = omega arith in
    let all : c.loop-p.block ≡ size ns = c.loop-p.invariant.block ∙ ap (λ k. size (drop k ns)) none in (
      λ y. let room = within c.checked_add.result _ c.checked_add.ensures (subst IsTrue c.is_some.ensures y) in
          place-follows ns bs start c.requires.as_many (λ q lt. c.loop-p.invariant.each q (omega arith)) (omega (arith, room, all)),
      λ beside. let fits = last-fits ns bs start c.requires.as_many c.requires.some beside in
          subst IsTrue (sym c.is_some.ensures) (found c.checked_add.result _ c.checked_add.ensures (omega (arith, fits, all))),
    )
