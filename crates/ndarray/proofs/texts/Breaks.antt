-- What stands before a cell, axis by axis.
use Rattle.std.proofs.Common.{◌≡◌, ◌≢◌, ◌∙◌, ◌+◌, ◌-◌, ◌*◌, ◌/◌, ◌%◌, ◌<◌, ◌==◌, ◌++◌, ℕ, zero, suc, List, ◌∷◌, ap, arith, drop, eq-eqb, get_or, length, replicate, sym}
use Rattle.std.proofs.Math.Arith.{mod-mul}
use Rattle.std.proofs.Math.Nat.{mul-div_cancel, mul_comm}
use Rattle.std.proofs.Math.Seq.{drop-cons}
use Rattle.std.proofs.lemmas.Bool.{cond-false, cond-true, ne_eqb}
use Rattle.std.proofs.lemmas.List.{length-drop}
use Rattle.std.proofs.lemmas.Nat.{mod-mul-add}
use Rattle.ndarray.specs.ArrayTexts.{between_items}
use Rattle.ndarray.specs.Index.{size}
use Rattle.ndarray.specs.every_day.Breaks.{break_text}

-- what is left of a place in a block of blocks is what is left of it in one of these
pub mod-of_block : (j n m : ℕ) → 0 < n → 0 < m → (j % (n * m)) % m ≡ j % m
mod-of_block j n m n_some m_some =
    let parts = mod-mul j {m = n} {c = m} n_some m_some in
    ap (λ x. x % m) parts ∙ mod-mul-add ((j / m) % n) m (j % m) (omega arith)

pub positive : (n m : ℕ) → 0 < n * m → (0 < n) × (0 < m)
positive zero m some = absurd (omega arith)
positive (suc n) zero some = absurd (let none : suc n * 0 ≡ 0 = omega arith in omega arith)
positive (suc n) (suc m) some = (omega arith, omega arith)

-- the axis k of lengths ns, where the axes from it on have b index lists
pub record IsAxisOfBlocks (ns : List ℕ) (k b : ℕ) : Type 0 where
  pub block : b / get_or ns k 0 ≡ size (drop (k + 1) ns)
  pub some : 0 < b / get_or ns k 0
  pub whole : b ≡ get_or ns k 0 * (b / get_or ns k 0)
  pub length_some : 0 < get_or ns k 0
  pub split : drop k ns ≡ get_or ns k 0 ∷ drop (k + 1) ns

pub axis-blocks : (ns : List ℕ) (k b : ℕ) → k < length ns → b ≡ size (drop k ns) → 0 < b → IsAxisOfBlocks ns k b
axis-blocks ns k b lt block some =
    let n : ℕ = get_or ns k 0 in
    let more : suc k ≡ k + 1 = omega arith in
    let split : drop k ns ≡ n ∷ drop (k + 1) ns = drop-cons ns k 0 lt ∙ ap (λ j. n ∷ drop j ns) more in
    let m : ℕ = size (drop (k + 1) ns) in
    let all : b ≡ n * m = block ∙ ap size split in
    let parts = positive n m (omega (arith, some, all)) in
    let each : b / n ≡ m = ap (λ x. x / n) (all ∙ mul_comm n m) ∙ mul-div_cancel m parts.0 in
    record {
      block = each;
      some = omega (arith, each, parts.1);
      whole = all ∙ ap (λ x. n * x) (sym each);
      length_some = parts.0;
      split = split;
    }

module _ (ns : List ℕ) (k b j : ℕ) (axis : IsAxisOfBlocks ns k b) where
  inner-place : (j % b) % (b / get_or ns k 0) ≡ j % (b / get_or ns k 0)
  inner-place = ap (λ x. (j % x) % (b / get_or ns k 0)) axis.whole ∙ mod-of_block j (get_or ns k 0) (b / get_or ns k 0) axis.length_some axis.some

  place-in_block : (j % b) % size (drop (k + 1) ns) ≡ j % (b / get_or ns k 0)
  place-in_block = ap (λ x. (j % b) % x) (sym axis.block) ∙ inner-place

  -- an item of the axis ends before the cell
  pub break-here : j % (b / get_or ns k 0) ≡ 0 → k < length ns → break_text k (drop k ns) (j % b)
      ≡ replicate (length ns - 1 - k) 93 ++ (between_items k (length ns - 1 - k) ++ replicate (length ns - 1 - k) 91)
  break-here here lt =
      let inner : length (drop (k + 1) ns) ≡ length ns - 1 - k = length-drop (k + 1) ns ∙ omega arith in
      ap (λ l. break_text k l (j % b)) axis.split
      ∙ (cond-true ((j % b) % size (drop (k + 1) ns) == 0) _ _ (eq-eqb _ _ (place-in_block ∙ here))
      ∙ ap (λ i. replicate i 93 ++ (between_items k i ++ replicate i 91)) inner)

  -- none does
  pub break-later : j % (b / get_or ns k 0) ≢ 0 → break_text k (drop k ns) (j % b) ≡ break_text (k + 1) (drop (k + 1) ns) (j % (b / get_or ns k 0))
  break-later later =
      ap (λ l. break_text k l (j % b)) axis.split
      ∙ (cond-false ((j % b) % size (drop (k + 1) ns) == 0) _ _ (ne_eqb _ _ (λ e. later (sym place-in_block ∙ e)))
      ∙ ap (break_text (k + 1) (drop (k + 1) ns)) place-in_block)
