-- Positive and negative whole numbers that are added apart, one after the other.
use Rattle.std.proofs.Common.{◌≡◌, ◌↔◌, List, [], ◌∷◌, Option, None, Some, map, refl, sym, ap, ◌∙◌, ◌⊎◌, inl, inr, subst, arith}
use Rattle.std.specs.Prelude.{ℤ, pos, negsuc, ◌+ℤ◌, ◌≤ℤ◌, ◌<ℤ◌, IfSome, IsPermutation, IsTrue, MatchOption}
use Rattle.std.specs.Option.{is_some}
use Rattle.num_traits.specs.Laws.{Checks}
use Rattle.std.proofs.lemmas.Int.{ints}
use Rattle.std.proofs.lemmas.List.Sorted.{IsPermutation-map}
use Rattle.ndarray.specs.Integers.{int_sums, negative_sum, positive_sum}
use Rattle.ndarray.specs.reduce.SignedSums.{AddedApart}
use Rattle.ndarray.specs.Sums.{total}
use Rattle.ndarray.proofs.lists.Decisions.{says_yes}
use Rattle.ndarray.proofs.sums.Rearrangements.{total-rearranged}

pub positive_sum-positive : (zs : List ℤ) → pos 0 ≤ℤ positive_sum zs
positive_sum-positive [] = omega (arith, ints)
positive_sum-positive (pos n ∷ zs) = let h = positive_sum-positive zs in omega (arith, ints)
positive_sum-positive (negsuc n ∷ zs) = positive_sum-positive zs

pub negative_sum-negative : (zs : List ℤ) → negative_sum zs ≤ℤ pos 0
negative_sum-negative [] = omega (arith, ints)
negative_sum-negative (pos n ∷ zs) = negative_sum-negative zs
negative_sum-negative (negsuc n ∷ zs) = let h = negative_sum-negative zs in omega (arith, ints)

up_front : (z : ℤ) (zs : List ℤ) → pos 0 ≤ℤ z → (positive_sum (z ∷ zs) ≡ z +ℤ positive_sum zs) × (negative_sum (z ∷ zs) ≡ negative_sum zs)
up_front (pos n) zs h = (refl, refl)
up_front (negsuc n) zs h = absurd (omega (arith, ints))

down_front : (z : ℤ) (zs : List ℤ) → z <ℤ pos 0 → (positive_sum (z ∷ zs) ≡ positive_sum zs) × (negative_sum (z ∷ zs) ≡ z +ℤ negative_sum zs)
down_front (pos n) zs h = absurd (omega (arith, ints))
down_front (negsuc n) zs h = (refl, refl)

pub either-sign : (z : ℤ) → (pos 0 ≤ℤ z) ⊎ (z <ℤ pos 0)
either-sign (pos n) = inl (omega (arith, ints))
either-sign (negsuc n) = inr (omega (arith, ints))

pub AddedApart-start : (fits : ℤ → Type 0) (whole rest : List ℤ) (up down : ℤ) → rest ≡ whole → fits (pos 0) → up ≡ pos 0 → down ≡ pos 0 → AddedApart fits whole rest up down
AddedApart-start fits whole rest up down r h e f =
    let p = ap positive_sum r in
    let n = ap negative_sum r in
    record {
      up_sum = omega (arith, ints, e, p);
      up_positive = omega (arith, ints, e);
      up_fits = subst fits (sym e) h;
      down_sum = omega (arith, ints, f, n);
      down_negative = omega (arith, ints, f);
      down_fits = subst fits (sym f) h;
    }

pub AddedApart-end : (fits : ℤ → Type 0) (whole rest : List ℤ) (up down : ℤ) → rest ≡ [] → AddedApart fits whole rest up down → fits (positive_sum whole) × fits (negative_sum whole)
AddedApart-end fits whole rest up down e h =
    let p = ap positive_sum e in
    let n = ap negative_sum e in
    let u : up ≡ positive_sum whole = omega (arith, ints, h.up_sum, p) in
    let d : down ≡ negative_sum whole = omega (arith, ints, h.down_sum, n) in
    (subst fits u h.up_fits, subst fits d h.down_fits)

-- the next number is z
module _ (fits : ℤ → Type 0) (whole now rest : List ℤ) (z up down : ℤ) (next : now ≡ z ∷ rest) (h : AddedApart fits whole now up down) where
  AddedApart-up : pos 0 ≤ℤ z → (sum : ℤ) → sum ≡ up +ℤ z → fits (up +ℤ z) → AddedApart fits whole rest sum down
  AddedApart-up positive sum e f =
      let front = up_front z rest positive in
      let p = ap positive_sum next ∙ front.0 in
      let n = ap negative_sum next ∙ front.1 in
      record {
        up_sum = omega (arith, ints, h.up_sum, p, e);
        up_positive = omega (arith, ints, h.up_positive, e);
        up_fits = subst fits (sym e) f;
        down_sum = omega (arith, ints, h.down_sum, n);
        down_negative = h.down_negative;
        down_fits = h.down_fits;
      }

  AddedApart-down : z <ℤ pos 0 → (sum : ℤ) → sum ≡ down +ℤ z → fits (down +ℤ z) → AddedApart fits whole rest up sum
  AddedApart-down negative sum e f =
      let front = down_front z rest negative in
      let p = ap positive_sum next ∙ front.0 in
      let n = ap negative_sum next ∙ front.1 in
      record {
        up_sum = omega (arith, ints, h.up_sum, p);
        up_positive = h.up_positive;
        up_fits = h.up_fits;
        down_sum = omega (arith, ints, h.down_sum, n, e);
        down_negative = omega (arith, ints, h.down_negative, e);
        down_fits = subst fits (sym e) f;
      }

  -- it is added to the sum of its sign
  pub AddedApart-next : (higher lower : ℤ) → (pos 0 ≤ℤ z → (fits (up +ℤ z) × (higher ≡ up +ℤ z)) × (lower ≡ down)) → (z <ℤ pos 0 → (fits (down +ℤ z) × (lower ≡ down +ℤ z)) × (higher ≡ up)) → AddedApart fits whole rest higher lower
  AddedApart-next higher lower positive negative =
      elim (either-sign z) [
        | inl p ↦ (let (t, same) = positive p in subst (AddedApart fits whole rest higher) (sym same) (AddedApart-up p higher t.1 t.0))
        | inr n ↦ (let (t, same) = negative n in subst (λ u. AddedApart fits whole rest u lower) (sym same) (AddedApart-down n lower t.1 t.0))
      ]

  -- where each number between two that fit does fit, an excess at z is one of the whole
  module _ (zero_fits : fits (pos 0)) (between : (x y z : ℤ) → fits x → fits z → x ≤ℤ y → y ≤ℤ z → fits y) where
    AddedApart-up_excess : pos 0 ≤ℤ z → (fits (up +ℤ z) → ⊥) → fits (positive_sum whole) → ⊥
    AddedApart-up_excess positive excess f =
        let r = positive_sum-positive rest in
        let p = ap positive_sum next ∙ (up_front z rest positive).0 in
        excess (between (pos 0) (up +ℤ z) (positive_sum whole) zero_fits f (omega (arith, ints, h.up_positive)) (omega (arith, ints, h.up_sum, p)))

    AddedApart-down_excess : z <ℤ pos 0 → (fits (down +ℤ z) → ⊥) → fits (negative_sum whole) → ⊥
    AddedApart-down_excess negative excess f =
        let r = negative_sum-negative rest in
        let n = ap negative_sum next ∙ (down_front z rest negative).1 in
        excess (between (negative_sum whole) (down +ℤ z) (pos 0) f zero_fits (omega (arith, ints, h.down_sum, n)) (omega (arith, ints, h.down_negative)))

    pub AddedApart-excess : (pos 0 ≤ℤ z → fits (up +ℤ z) → ⊥) → (z <ℤ pos 0 → fits (down +ℤ z) → ⊥) → fits (positive_sum whole) × fits (negative_sum whole) → ⊥
    AddedApart-excess positive negative both =
        elim (either-sign z) [ inl p ↦ AddedApart-up_excess p (positive p) both.0 | inr n ↦ AddedApart-down_excess n (negative n) both.1 ]

-- what adding the next number to the sum of its sign gives, where each number between two that fit does fit
pub AddedApart-added : {S T : Type 0} (fits : ℤ → Type 0) (whole now rest : List ℤ) (z : ℤ) (v : T → ℤ) (up down : T) → now ≡ z ∷ rest → AddedApart fits whole now (v up) (v down)
    → fits (pos 0) → ((x y z : ℤ) → fits x → fits z → x ≤ℤ y → y ≤ℤ z → fits y)
    → (up_of down_of : S → T) (r : Option S) → (pos 0 ≤ℤ z → Checks (λ s. v (up_of s)) fits (v up +ℤ z) r × IfSome r (λ s. down_of s ≡ down))
    → (z <ℤ pos 0 → Checks (λ s. v (down_of s)) fits (v down +ℤ z) r × IfSome r (λ s. up_of s ≡ up))
    → MatchOption r (fits (positive_sum whole) × fits (negative_sum whole) → ⊥) (λ s. AddedApart fits whole rest (v (up_of s)) (v (down_of s)))
AddedApart-added fits whole now rest z v up down next h zero_fits between up_of down_of None positive negative =
    AddedApart-excess fits whole now rest z (v up) (v down) next h zero_fits between (λ p. (positive p).0) (λ n. (negative n).0)
AddedApart-added fits whole now rest z v up down next h zero_fits between up_of down_of (Some s) positive negative =
    AddedApart-next fits whole now rest z (v up) (v down) next h (v (up_of s)) (v (down_of s))
    (λ p. let t = positive p in (t.0, ap v t.1))
    (λ n. let t = negative n in (t.0, ap v t.1))

-- ---- in another order

positive_part : ℤ → ℤ
positive_part (pos n) = pos n
positive_part (negsuc n) = pos 0

negative_part : ℤ → ℤ
negative_part (pos n) = pos 0
negative_part (negsuc n) = negsuc n

positive_sum-total : (zs : List ℤ) → positive_sum zs ≡ total int_sums (map positive_part zs)
unfolding positive_part
positive_sum-total [] = refl
positive_sum-total (pos n ∷ zs) = ap (λ t. pos n +ℤ t) (positive_sum-total zs)
positive_sum-total (negsuc n ∷ zs) = positive_sum-total zs ∙ sym (int_sums.unit_op (total int_sums (map positive_part zs)))

negative_sum-total : (zs : List ℤ) → negative_sum zs ≡ total int_sums (map negative_part zs)
unfolding negative_part
negative_sum-total [] = refl
negative_sum-total (pos n ∷ zs) = negative_sum-total zs ∙ sym (int_sums.unit_op (total int_sums (map negative_part zs)))
negative_sum-total (negsuc n ∷ zs) = ap (λ t. negsuc n +ℤ t) (negative_sum-total zs)

module _ (xs ys : List ℤ) (moved : IsPermutation xs ys) where
  pub positive_sum-rearranged : positive_sum ys ≡ positive_sum xs
  positive_sum-rearranged =
      positive_sum-total ys ∙ (total-rearranged int_sums (map positive_part xs) (map positive_part ys) (IsPermutation-map positive_part xs ys moved) ∙ sym (positive_sum-total xs))

  pub negative_sum-rearranged : negative_sum ys ≡ negative_sum xs
  negative_sum-rearranged =
      negative_sum-total ys ∙ (total-rearranged int_sums (map negative_part xs) (map negative_part ys) (IsPermutation-map negative_part xs ys moved) ∙ sym (negative_sum-total xs))

  pub AddedApart-rearranged : (fits : ℤ → Type 0) (rest : List ℤ) (up down : ℤ) → AddedApart fits ys rest up down → AddedApart fits xs rest up down
  AddedApart-rearranged fits rest up down h = record {
    up_sum = h.up_sum ∙ positive_sum-rearranged;
    up_positive = h.up_positive;
    up_fits = h.up_fits;
    down_sum = h.down_sum ∙ negative_sum-rearranged;
    down_negative = h.down_negative;
    down_fits = h.down_fits;
  }

-- ---- both together

-- the sum of all numbers is that of the positive and that of the negative ones
pub signs-total : (zs : List ℤ) → positive_sum zs +ℤ negative_sum zs ≡ total int_sums zs
signs-total [] = refl
signs-total (pos n ∷ zs) = let h = signs-total zs in omega (arith, ints)
signs-total (negsuc n ∷ zs) = let h = signs-total zs in omega (arith, ints)

-- it fits where both do
pub AddedApart-both_fit : (fits : ℤ → Type 0) (whole rest : List ℤ) (up down : ℤ) → ((x y z : ℤ) → fits x → fits z → x ≤ℤ y → y ≤ℤ z → fits y) → AddedApart fits whole rest up down → fits (up +ℤ down)
AddedApart-both_fit fits whole rest up down between h =
    between down (up +ℤ down) up h.down_fits h.up_fits (omega (arith, ints, h.up_positive)) (omega (arith, ints, h.down_negative))

-- what a checked sum of both answers
pub checked-both : {A : Type 0} (value : A → ℤ) (fits : ℤ → Type 0) (whole : List ℤ) (up down : ℤ) (r : Option A) → ((x y z : ℤ) → fits x → fits z → x ≤ℤ y → y ≤ℤ z → fits y)
    → AddedApart fits whole [] up down → Checks value fits (up +ℤ down) r → (IsTrue (is_some r) ↔ (fits (positive_sum whole) × fits (negative_sum whole))) × IfSome r (λ s. value s ≡ total int_sums whole)
checked-both value fits whole up down None between h c = absurd (c (AddedApart-both_fit fits whole [] up down between h))
checked-both value fits whole up down (Some s) between h c =
    let p = h.up_sum in
    let n = h.down_sum in
    let t = signs-total whole in
    let sum : up +ℤ down ≡ positive_sum whole +ℤ negative_sum whole = omega (arith, ints, p, n) in
    (says_yes _ (AddedApart-end fits whole [] up down refl h), c.1 ∙ (sum ∙ t))
