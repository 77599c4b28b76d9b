-- Eight parts of the first places, by their remainders, and their union.
use Rattle.std.proofs.Common.{◌≡◌, ◌≢◌, ℕ, ◌+◌, ◌%◌, ◌<◌, ◌≤◌, nat_lt, nat_eq, ◌||◌, ◌&&◌, Bool, true, false, refl, sym, subst, ◌∙◌, arith}
use Rattle.std.proofs.lemmas.Bool.Decides.{nat_tests}
use Rattle.ndarray.specs.PartialFolds.{AreApart, AreTwoParts, EndsBefore, KeepsNothing, KeepsOneMore, kept_by_either}
use Rattle.ndarray.proofs.parts.KeptPlaces.{apart_left, apart_none, apart_right}

-- every eighth place below n, from j on
abbrev pub eighth : ℕ → ℕ → ℕ → Bool
eighth j n k = nat_lt k n && nat_eq (k % 8) j

-- the places below n
abbrev pub below : ℕ → ℕ → Bool
below n k = nat_lt k n

not_below : (k n : ℕ) → n ≤ k → nat_lt k n ≡ false
not_below k n h = grind (arith, nat_tests)

is_below : (k n : ℕ) → k < n → nat_lt k n ≡ true
is_below k n h = grind (arith, nat_tests)

pub eighth-ends : (j n at : ℕ) → n ≤ at → EndsBefore (eighth j n) at
eighth-ends j n at h k l = rw (not_below k n (omega arith)) refl

pub eighth-none : (j : ℕ) → KeepsNothing (eighth j 0)
eighth-none j k = eighth-ends j 0 0 (omega arith) k (omega arith)

eighth-before : (j n k : ℕ) → n % 8 ≡ 0 → j < 8 → k < n + j → eighth j (n + 8) k ≡ eighth j n k
eighth-before j n k turns small h = grind (arith, nat_tests)

eighth-at : (j n : ℕ) → n % 8 ≡ 0 → j < 8 → eighth j (n + 8) (n + j) ≡ true
eighth-at j n turns small = grind (arith, nat_tests)

eighth-behind : (j n k : ℕ) → n % 8 ≡ 0 → j < 8 → n + j < k → eighth j (n + 8) k ≡ false
eighth-behind j n k turns small h = grind (arith, nat_tests)

-- a turn keeps one place more of each
pub eighth-more : (j n at : ℕ) → at ≡ n + j → n % 8 ≡ 0 → j < 8 → KeepsOneMore (eighth j n) at (eighth j (n + 8))
eighth-more j n at is turns small = record {
  ends = eighth-ends j n at (omega arith);
  before = λ k lt. eighth-before j n k turns small (omega arith);
  here = subst (λ m. eighth j (n + 8) m ≡ true) (sym is) (eighth-at j n turns small);
  behind = λ k gt. eighth-behind j n k turns small (omega arith);
}

pub below-all : (n k : ℕ) → k < n → below n k ≡ true
below-all n k h = is_below k n h

pub below-ends : (n : ℕ) → EndsBefore (below n) n
below-ends n k h = not_below k n h

pub below-more : (n : ℕ) → KeepsOneMore (below n) n (below (n + 1))
below-more n = record {
  ends = below-ends n;
  before = λ k lt. is_below k (n + 1) (omega arith) ∙ sym (is_below k n lt);
  here = is_below n (n + 1) (omega arith);
  behind = λ k gt. not_below k (n + 1) (omega arith);
}

eighths_apart : (a b n : ℕ) → a ≢ b → AreApart (eighth a n) (eighth b n)
eighths_apart a b n ne i h k = grind (arith, nat_tests)

-- the parts in the order in which they are joined
abbrev pub pair : ℕ → ℕ → ℕ → ℕ → Bool
pair a b n = kept_by_either (eighth a n) (eighth b n)

abbrev pub one_pair : ℕ → ℕ → Bool
one_pair n = kept_by_either (λ _. false) (pair 0 4 n)

abbrev pub two_pairs : ℕ → ℕ → Bool
two_pairs n = kept_by_either (one_pair n) (pair 1 5 n)

abbrev pub three_pairs : ℕ → ℕ → Bool
three_pairs n = kept_by_either (two_pairs n) (pair 2 6 n)

pairs_apart : (a b c d n : ℕ) → a ≢ c → a ≢ d → b ≢ c → b ≢ d → AreApart (pair a b n) (pair c d n)
pairs_apart a b c d n ac ad bc bd =
    apart_left (eighth a n) (eighth b n) (pair c d n)
    (apart_right (eighth a n) (eighth c n) (eighth d n) (eighths_apart a c n ac) (eighths_apart a d n ad))
    (apart_right (eighth b n) (eighth c n) (eighth d n) (eighths_apart b c n bc) (eighths_apart b d n bd))

one_apart : (c d n : ℕ) → 0 ≢ c → 0 ≢ d → 4 ≢ c → 4 ≢ d → AreApart (one_pair n) (pair c d n)
one_apart c d n e f g h = apart_left (λ _. false) (pair 0 4 n) (pair c d n) (apart_none (pair c d n)) (pairs_apart 0 4 c d n e f g h)

two_apart : (c d n : ℕ) → 0 ≢ c → 0 ≢ d → 4 ≢ c → 4 ≢ d → 1 ≢ c → 1 ≢ d → 5 ≢ c → 5 ≢ d → AreApart (two_pairs n) (pair c d n)
two_apart c d n e f g h i j k l = apart_left (one_pair n) (pair 1 5 n) (pair c d n) (one_apart c d n e f g h) (pairs_apart 1 5 c d n i j k l)

pub makes_pair : (a b n : ℕ) → a ≢ b → AreTwoParts (eighth a n) (eighth b n) (pair a b n)
makes_pair a b n ne = record { apart = eighths_apart a b n ne; union = λ k. refl }

pub joins_first : (n : ℕ) → AreTwoParts (λ _. false) (pair 0 4 n) (one_pair n)
joins_first n = record { apart = apart_none (pair 0 4 n); union = λ k. refl }

pub joins_second : (n : ℕ) → AreTwoParts (one_pair n) (pair 1 5 n) (two_pairs n)
joins_second n = record { apart = one_apart 1 5 n (omega arith) (omega arith) (omega arith) (omega arith); union = λ k. refl }

pub joins_third : (n : ℕ) → AreTwoParts (two_pairs n) (pair 2 6 n) (three_pairs n)
joins_third n = record { apart = two_apart 2 6 n (omega arith) (omega arith) (omega arith) (omega arith) (omega arith) (omega arith) (omega arith) (omega arith); union = λ k. refl }

residues : (m : ℕ) → m < 8 → ((((false || (nat_eq m 0 || nat_eq m 4)) || (nat_eq m 1 || nat_eq m 5)) || (nat_eq m 2 || nat_eq m 6)) || (nat_eq m 3 || nat_eq m 7)) ≡ true
residues m h = grind (arith, nat_tests)

joined_by : (b : Bool) (m : ℕ) → m < 8 → ((((false || ((b && nat_eq m 0) || (b && nat_eq m 4))) || ((b && nat_eq m 1) || (b && nat_eq m 5))) || ((b && nat_eq m 2) || (b && nat_eq m 6))) || ((b && nat_eq m 3) || (b && nat_eq m 7))) ≡ b
joined_by true m h = residues m h
joined_by false m h = refl

-- together they are the places below n
pub joins_fourth : (n : ℕ) → AreTwoParts (three_pairs n) (pair 3 7 n) (below n)
joins_fourth n = record {
  apart = apart_left (two_pairs n) (pair 2 6 n) (pair 3 7 n)
      (two_apart 3 7 n (omega arith) (omega arith) (omega arith) (omega arith) (omega arith) (omega arith) (omega arith) (omega arith))
      (pairs_apart 2 6 3 7 n (omega arith) (omega arith) (omega arith) (omega arith));
  union = λ k. sym (joined_by (nat_lt k n) (k % 8) (omega arith));
}
