-- A view that is broadcast.
use Rattle.std.proofs.Common.{◌≡◌, ◌≢◌, ℕ, ◌+◌, ◌-◌, ◌*◌, ◌%◌, ◌<◌, ◌^◌, ◌⊎◌, suc, zero, cond, List, [], ◌∷◌, length, drop, get_or, Option, inl, inr, refl, sym, ◌∙◌, ap, arith, subst}
use Rattle.std.proofs.lemmas.Bool.{cases_eq}
use Rattle.std.proofs.lemmas.Bool.Decides.{nat_tests}
use Rattle.std.proofs.lemmas.List.{length-drop, get_or-drop}
use Rattle.std.specs.Prelude.{◌==◌}
use Rattle.ndarray.specs.Index.{InBox}
use Rattle.ndarray.specs.Limits.{nonzero_size}
use Rattle.ndarray.specs.Broadcast.{zero_on_unit_axes, broadcast_index}
use Rattle.ndarray.specs.base.Places.{dot, place, Reaches, Rearranges}
use Rattle.ndarray.specs.base.Strides.{StretchedBy}
use Rattle.ndarray.proofs.boxes.Boxes.{InBox-length, InBox-drop}

dot-missing : (k : ℕ) (cs js : List ℕ) → length cs ≡ length js → ((j : ℕ) → j < k → get_or cs j 0 ≡ 0) → dot cs js ≡ dot (drop k cs) (drop k js)
unfolding dot
dot-missing zero cs js l h = refl
dot-missing (suc k) [] js l h = refl
dot-missing (suc k) (c ∷ cs) [] l h = absurd (omega arith)
dot-missing (suc k) (c ∷ cs) (j ∷ js) l h =
    let ih = dot-missing k cs js (omega arith) (λ i lt. h (suc i) (omega arith)) in
    let e : j * c ≡ j * 0 = ap (λ x. j * x) (h 0 (omega arith)) in
    omega arith

pin-one : (n j : ℕ) → n ≡ 1 → cond (n == 1) 0 j ≡ 0
pin-one n j h = grind (arith, nat_tests)

pin-other : (n j : ℕ) → n ≢ 1 → cond (n == 1) 0 j ≡ j
pin-other n j h = grind (arith, nat_tests)

-- one axis
pin : (n m j b c : ℕ) → ((n ≡ 1) × (c ≡ 0)) ⊎ ((n ≡ m) × (c ≡ b)) → j < m → (cond (n == 1) 0 j < n) × (j * c ≡ cond (n == 1) 0 j * b)
pin n m j b c h lt =
    elim (cases_eq n 1) [
      | inl e ↦ (
          let z = pin-one n j e in
          let zb : cond (n == 1) 0 j * b ≡ 0 * b = ap (λ x. x * b) z in
          let jc : j * c ≡ 0 = elim h [ inl p ↦ ap (λ x. j * x) p.1 ∙ omega arith | inr p ↦ (let j0 : j ≡ 0 = omega (arith, p.0) in ap (λ x. x * c) j0 ∙ omega arith) ] in
          (omega arith, omega arith))
      | inr ne ↦ (
          let z = pin-other n j ne in
          elim h [
            | inl p ↦ absurd (ne p.0)
            | inr p ↦ (let zb : cond (n == 1) 0 j * b ≡ j * b = ap (λ x. x * b) z in let jc : j * c ≡ j * b = ap (λ x. j * x) p.1 in (omega (arith, p.0), omega arith))
          ])
    ]

dot-none : (bs : List ℕ) → dot bs [] ≡ 0
unfolding dot
dot-none [] = refl
dot-none (b ∷ bs) = refl

-- With 0 on the axes of length 1, an index list of one box is in another, and lies as far, where on each axis lengths and strides are the same, or are 1 and 0.
pub zero_on_unit_axes-all : (ns ms bs cs js : List ℕ) → length ns ≡ length ms → length bs ≡ length ns → length cs ≡ length ms → ((k : ℕ) → k < length ns → ((get_or ns k 0 ≡ 1) × (get_or cs k 0 ≡ 0)) ⊎ ((get_or ns k 0 ≡ get_or ms k 0) × (get_or cs k 0 ≡ get_or bs k 0))) → InBox ms js → InBox ns (zero_on_unit_axes ns js) × (dot cs js ≡ dot bs (zero_on_unit_axes ns js))
unfolding dot
zero_on_unit_axes-all [] [] bs cs [] l lb lc h b = (tt, dot-none cs ∙ sym (dot-none bs))
zero_on_unit_axes-all [] [] bs cs (j ∷ js) l lb lc h b = absurd b
zero_on_unit_axes-all [] (m ∷ ms) bs cs js l lb lc h b = absurd (omega arith)
zero_on_unit_axes-all (n ∷ ns) [] bs cs js l lb lc h b = absurd (omega arith)
zero_on_unit_axes-all (n ∷ ns) (m ∷ ms) [] cs js l lb lc h b = absurd (omega arith)
zero_on_unit_axes-all (n ∷ ns) (m ∷ ms) (s ∷ bs) [] js l lb lc h b = absurd (omega arith)
zero_on_unit_axes-all (n ∷ ns) (m ∷ ms) (s ∷ bs) (c ∷ cs) [] l lb lc h b = absurd b
zero_on_unit_axes-all (n ∷ ns) (m ∷ ms) (s ∷ bs) (c ∷ cs) (j ∷ js) l lb lc h b =
    let p = pin n m j s c (h 0 (omega arith)) b.0 in
    let r = zero_on_unit_axes-all ns ms bs cs js (omega arith) (omega arith) (omega arith) (λ k lt. h (suc k) (omega arith)) b.1 in
    ((p.0, r.0), omega (arith, p.1, r.1))

pub rearranges-stretched : {A one : Type 0} (held : ℕ → Option A) (ns : List ℕ) (start : ℕ) (bs ms cs : List ℕ) → Reaches one held ns start bs → StretchedBy ns ms bs cs → nonzero_size ms < 2 ^ 63 → Rearranges ⊥ ns start bs ms start cs (broadcast_index ns)
unfolding place broadcast_index
rearranges-stretched held ns start bs ms cs h t limit =
    let pad : ℕ = length ms - length ns in
    let f = t.fewer in
    let ac = t.as_many in
    let ab = h.as_many in
    let lm = length-drop pad ms in
    let lc = length-drop pad cs in
    let seen : (js : List ℕ) → InBox ms js → InBox ns (zero_on_unit_axes ns (drop pad js)) × (dot cs js ≡ dot bs (zero_on_unit_axes ns (drop pad js))) =
    λ js box.
    let lj = InBox-length ms js box in
    let a = zero_on_unit_axes-all ns (drop pad ms) bs (drop pad cs) (drop pad js) (omega arith) (omega arith) (omega arith)
    (λ k lt. let gm = get_or-drop pad ms k 0 in let gc = get_or-drop pad cs k 0 in
    elim (t.each k lt) [ inl p ↦ inl (p.0, gc ∙ p.1) | inr p ↦ inr (p.0 ∙ sym gm, gc ∙ p.1) ])
    (InBox-drop pad ms js box) in
    (a.0, dot-missing pad cs js (omega arith) t.missing ∙ a.1) in
    let same_pad : (js : List ℕ) → InBox ms js → length js - length ns ≡ pad = λ js box. let lj = InBox-length ms js box in omega arith in
    record {
      as_many = t.as_many;
      limit = limit;
      image = λ js box. subst (λ k. InBox ns (zero_on_unit_axes ns (drop k js))) (sym (same_pad js box)) (seen js box).0;
      same = λ js box. ap (λ x. (start + x) % 2 ^ 64) ((seen js box).1 ∙ ap (λ k. dot bs (zero_on_unit_axes ns (drop k js))) (sym (same_pad js box)));
      nested = λ no. absurd no;
    }
