use Rattle.std.proofs.Common.{◌≡◌, ◌<◌, ◌+◌, ◌-◌, ◌/◌, ◌%◌, ◌^◌, sym, ◌∙◌, ap, arith, subst, length, set, get_or, ℕ, List}
use Rattle.std.proofs.lemmas.List.{length-set, get_or-replicate, length-replicate}
use Rattle.std.proofs.lemmas.List.Sums.{sum_by-set}
use Rattle.ndarray.specs.Index.{InBox}
use Rattle.ndarray.specs.base.Places.{place}
use Rattle.ndarray.specs.base.Nested.{distance, sum_over_axes, forward_index, below_first, AreNested}
use Rattle.ndarray.proofs.boxes.Boxes.{InBox-some}
use Rattle.ndarray.proofs.strides.IndexOfPlace.{SearchState, nested-known, sought-first, sought-below, sought-next, sought-last}
use Rattle.ndarray.proofs.base.layout.Layout.index_of.Goals as goal
use Rattle.ndarray.proofs.base.layout.Layout.index_of.Goals.{After-axis-len, After-find, in_default-find-via-in-Some-find+else-found-at, in_default-find-via-in_default-find}

pub returns-then-size-eq0 : goal.returns-then-size-eq0
returns-then-size-eq0 g c = λ is b. absurd (let s = InBox-some _ is b in omega (arith, s))

pub loop-k-init : goal.loop-k-init
loop-k-init g c =
    let ns : List ℕ = g.D.Lengths.numbers c.args.self.now.dim in
    let bs : List ℕ = g.D.Lengths.numbers c.args.self.now.strides in
    let e : g.D.Lengths.numbers c.copied-dim.result ≡ ns = c.copied-dim.ensures.value in
    let nested : AreNested ns bs = c.requires.nested (omega arith) in
    let ln = ap length e in
    let lz = ap length c.zeros-index.ensures ∙ length-replicate c.ndim.result 0 in
    let n = c.ndim.ensures.value in
    record {
      dims = ln;
      indices = omega (arith, lz, n, ln);
      nested = subst (λ xs. AreNested xs bs) (sym e) nested;
      each = λ is b at.
          let s = sought-first ns bs (g.D.Lengths.numbers c.zeros-index.result) is c.args.self.now.start c.args.at c.requires.as_many nested (omega arith) b at
          (λ k lt. ap (λ xs. get_or xs k 0) c.zeros-index.ensures ∙ get_or-replicate c.ndim.result k 0 0 (omega (arith, lt, n, ln))) in
          let d : ((c.args.at + (2 ^ 64 - c.args.self.now.start)) % 2 ^ 64 + sum_over_axes below_first ns bs) % 2 ^ 64 ≡ ((c.args.at + (2 ^ 64 - c.args.self.now.start)) % 2 ^ 64 + c.below_start.result) % 2 ^ 64 = ap (λ x. ((c.args.at + (2 ^ 64 - c.args.self.now.start)) % 2 ^ 64 + x) % 2 ^ 64) (sym c.below_start.ensures) in
          subst (λ ms. SearchState ns bs ms (((c.args.at + (2 ^ 64 - c.args.self.now.start)) % 2 ^ 64 + c.below_start.result) % 2 ^ 64) (g.D.Lengths.numbers c.zeros-index.result) is) (sym e)
          (subst (λ r. SearchState ns bs ns r (g.D.Lengths.numbers c.zeros-index.result) is) d s);
    }

-- the size of the stride of the axis that is told
stride_size : (g : _) (c : After-axis-len g) → c.distance-m.result ≡ distance (get_or (g.D.Lengths.numbers c.args.self.now.strides) c.in-Some.k 0)
stride_size g c = c.distance-m.ensures ∙ ap distance c.axis-stride.ensures

module _ (g : _) (c : After-axis-len g) (is : List ℕ) (b : InBox (g.D.Lengths.numbers c.args.self.now.dim) is) (at : place c.args.self.now.start (g.D.Lengths.numbers c.args.self.now.strides) is ≡ c.args.at) where
  -- where the place has an index list, its index of the axis is below the length
  below : c.loop-k.rest / c.distance-m.result < c.axis-len.result
  below =
      let i = c.loop-k.invariant in
      let e = c.in-Some.ensures in
      let s = sought-below (g.D.Lengths.numbers c.args.self.now.dim) (g.D.Lengths.numbers c.args.self.now.strides) (g.D.Lengths.numbers c.loop-k.dim) (g.D.Lengths.numbers c.loop-k.index) is c.loop-k.rest c.in-Some.k i.dims i.indices c.requires.as_many (omega arith) e.1 i.nested e.2 b (i.each is b at) in
      rw (stride_size g c, c.axis-len.ensures) s

  -- and with it known the others are sought
  next : (v : ℕ) → v ≡ forward_index c.axis-len.result c.axis-stride.result (c.loop-k.rest / c.distance-m.result) → SearchState (g.D.Lengths.numbers c.args.self.now.dim) (g.D.Lengths.numbers c.args.self.now.strides) (set (g.D.Lengths.numbers c.loop-k.dim) c.in-Some.k 1) (c.loop-k.rest % c.distance-m.result) (set (g.D.Lengths.numbers c.loop-k.index) c.in-Some.k v) is
  next v ev =
      let i = c.loop-k.invariant in
      let e = c.in-Some.ensures in
      let m = stride_size g c in
      rw m (sought-next (g.D.Lengths.numbers c.args.self.now.dim) (g.D.Lengths.numbers c.args.self.now.strides) (g.D.Lengths.numbers c.loop-k.dim) (g.D.Lengths.numbers c.loop-k.index) is c.loop-k.rest c.in-Some.k i.dims i.indices c.requires.as_many (omega arith) e.1 i.nested e.2 b (i.each is b at) v
      (ev ∙ (ap (λ n. forward_index n c.axis-stride.result (c.loop-k.rest / c.distance-m.result)) c.axis-len.ensures
      ∙ (ap (λ n. forward_index (get_or (g.D.Lengths.numbers c.loop-k.dim) c.in-Some.k 0) n (c.loop-k.rest / c.distance-m.result)) c.axis-stride.ensures
      ∙ ap (λ n. forward_index (get_or (g.D.Lengths.numbers c.loop-k.dim) c.in-Some.k 0) (get_or (g.D.Lengths.numbers c.args.self.now.strides) c.in-Some.k 0) (c.loop-k.rest / n)) m))))

pub returns-then-i-len : goal.returns-then-i-len
returns-then-i-len g c = λ is b at. let l = below g (goal.at.returns-then-i-len g c).After-axis-len is b at in omega (arith, l)

pub loop-k-preserved : goal.loop-k-preserved
loop-k-preserved g c =
    let i = c.loop-k.invariant in
    let e = c.in-Some.ensures in
    let d = ap length c.set_axis-in-Some.ensures ∙ length-set (g.D.Lengths.numbers c.loop-k.dim) c.in-Some.k 1 in
    let x = ap length c.set_axis.ensures ∙ length-set (g.D.Lengths.numbers c.loop-k.index) c.in-Some.k c.forward_index.result in
    let as_many = c.requires.as_many in
    record {
      dims = d ∙ i.dims;
      indices = x ∙ i.indices;
      nested = subst (λ ms. AreNested ms (g.D.Lengths.numbers c.args.self.now.strides)) (sym c.set_axis-in-Some.ensures) (nested-known (g.D.Lengths.numbers c.loop-k.dim) (g.D.Lengths.numbers c.args.self.now.strides) c.in-Some.k (let y = i.dims in omega (arith, as_many, y)) e.0 e.1 i.nested);
      each = λ is b at.
          subst (λ ms. SearchState (g.D.Lengths.numbers c.args.self.now.dim) (g.D.Lengths.numbers c.args.self.now.strides) ms (c.loop-k.rest % c.distance-m.result) (g.D.Lengths.numbers c.set_axis.new.self) is) (sym c.set_axis-in-Some.ensures)
          (subst (λ xs. SearchState (g.D.Lengths.numbers c.args.self.now.dim) (g.D.Lengths.numbers c.args.self.now.strides) (set (g.D.Lengths.numbers c.loop-k.dim) c.in-Some.k 1) (c.loop-k.rest % c.distance-m.result) xs is) (sym c.set_axis.ensures)
          (next g (goal.at.loop-k-preserved g c).After-axis-len is b at c.forward_index.result c.forward_index.ensures));
    }

pub loop-k-smaller : goal.loop-k-smaller
loop-k-smaller g c =
    let e = c.in-Some.ensures in
    let s = sum_by-set (λ n. n) (g.D.Lengths.numbers c.loop-k.dim) c.in-Some.k 1 0 e.0 in
    rw c.set_axis-in-Some.ensures (omega (arith, e, s))

-- the index list that was found, where the place has one
all_known : (g : _) (c : After-find g) → (is : List ℕ) → InBox (g.D.Lengths.numbers c.args.self.now.dim) is → place c.args.self.now.start (g.D.Lengths.numbers c.args.self.now.strides) is ≡ c.args.at → g.D.Lengths.numbers c.loop-k.index ≡ is
all_known g c is b at =
    let i = c.loop-k.invariant in
    sought-last (g.D.Lengths.numbers c.args.self.now.dim) (g.D.Lengths.numbers c.args.self.now.strides) (g.D.Lengths.numbers c.loop-k.dim) (g.D.Lengths.numbers c.loop-k.index) is c.loop-k.rest i.indices (λ k lt. c.in_default.ensures k (let y = i.dims in omega (arith, y, lt))) b (i.each is b at)

pub returns : goal.returns
returns g c = λ is b at.
    let e = all_known g (goal.at.returns g c).After-find is b at in
    elim c.in_default-find.branch [
      | in_default-find-via-in-Some-find+else-found-at w ↦ (
          let f = w.in-Some-find.ensures in
          w.if-found-at.false (f.1 ∙ (ap (place c.args.self.now.start (g.D.Lengths.numbers c.args.self.now.strides)) e ∙ at)))
      | in_default-find-via-in_default-find w ↦ w.in_default-find.ensures (subst (InBox (g.D.Lengths.numbers c.args.self.now.dim)) (sym e) b)
    ]
