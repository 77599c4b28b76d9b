use Rattle.std.proofs.Common.{◌≡◌, ◌∙◌, ℕ, ◌+◌, ◌-◌, List, ◌++◌, ap, arith, drop, map, subst, sym, take}
use Rattle.std.proofs.lemmas.List.{drop-drop, map-append, take-append-drop}
use Rattle.ndarray.specs.reduce.SmallProducts.{ExtremesSoFar}
use Rattle.ndarray.proofs.reduce.small_products.extremes_of_slices.Goals as goal

pub turns-init : goal.turns-init
turns-init g c =
    let v = g.A.Number.value in
    record { in_range = omega arith; left = c.no_extremes-first.ensures (map v c.args.xs.now); right = c.no_extremes-second.ensures (map v c.args.ys.now) }

-- the values from i on are those of a block and those behind it
block : {A C : Type 0} (f : A → C) (i m : ℕ) (xs : List A) → map f (drop i xs) ≡ map f (take (i + m - i) (drop i xs)) ++ map f (drop (i + m) xs)
block f i m xs =
    let many : i + m - i ≡ m = omega arith in
    ap (map f) (sym (take-append-drop m (drop i xs)))
    ∙ (map-append f (take m (drop i xs)) (drop m (drop i xs))
    ∙ (ap (λ k. map f (take k (drop i xs)) ++ map f (drop m (drop i xs))) (sym many)
    ∙ ap (λ l. map f (take (i + m - i) (drop i xs)) ++ map f l) (drop-drop m i xs)))

pub turns-preserved : goal.turns-preserved
turns-preserved g c =
    let v = g.A.Number.value in
    let fits = g.A.Number.fits in
    let t = c.turns in
    let m = c.min.result in
    record {
      in_range = (let le = c.min.ensures in let lt = c.turns-test.true in omega (arith, le, lt));
      left =
          c.with_slice-first.ensures (map v c.args.xs.now) (map v (drop (t.i + m) c.args.xs.now))
          (subst (λ l. ExtremesSoFar fits (map v c.args.xs.now) l (v t.first.least) (v t.first.greatest)) (block v t.i m c.args.xs.now) t.invariant.left);
      right =
          c.with_slice-second.ensures (map v c.args.ys.now) (map v (drop (t.i + m) c.args.ys.now))
          (subst (λ l. ExtremesSoFar fits (map v c.args.ys.now) l (v t.second.least) (v t.second.greatest)) (block v t.i m c.args.ys.now) t.invariant.right);
    }
