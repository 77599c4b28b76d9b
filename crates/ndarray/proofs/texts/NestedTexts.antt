-- The text of an array is that of its cells, each behind what stands before it.
use Rattle.std.proofs.Common.{◌≡◌, ◌∙◌, ◌+◌, ◌*◌, ◌%◌, ◌<◌, ◌≤◌, ◌==◌, ◌++◌, ℕ, zero, suc, List, [], ◌∷◌, Option, Some, None, ap, append_assoc, append-nil, arith, drop, eq-eqb, inl, inr, length, refl, replicate, sym, take}
use Rattle.std.specs.Fmt.{◌++?◌}
use Rattle.std.proofs.Math.Nat.{mul-mod_left, one-le-mul}
use Rattle.std.proofs.lemmas.Bool.{cases_eq, cond-false, cond-true, ne_eqb}
use Rattle.std.proofs.lemmas.List.{length-drop, length-take, replicate_more, take-append-drop}
use Rattle.std.proofs.lemmas.Nat.{mod-mul-add}
use Rattle.ndarray.specs.ArrayTexts.{array_text, between_items, blocks_text, nested_text}
use Rattle.ndarray.specs.Index.{size}
use Rattle.ndarray.specs.every_day.Breaks.{break_text, cells_text, lead_text}
use Rattle.ndarray.proofs.texts.Breaks.{positive}

-- ---- texts that may be missing

pub append-none : (o : Option (List ℕ)) → o ++? Some [] ≡ o
append-none None = refl
append-none (Some a) = ap Some (append-nil a)

none-append : (o : Option (List ℕ)) → Some [] ++? o ≡ o
none-append None = refl
none-append (Some a) = refl

append-again : (o p q : Option (List ℕ)) → (o ++? p) ++? q ≡ o ++? (p ++? q)
append-again None p q = refl
append-again (Some a) None q = refl
append-again (Some a) (Some b) None = refl
append-again (Some a) (Some b) (Some c) = ap Some (append_assoc a b c)

-- the parts of a text that is there
pub append-parts : (o p : Option (List ℕ)) (r : List ℕ) → o ++? p ≡ Some r → (a : List ℕ) × (b : List ℕ) × (o ≡ Some a) × (p ≡ Some b) × (r ≡ a ++ b)
append-parts None p r e = absurd cc
append-parts (Some a) None r e = absurd cc
append-parts (Some a) (Some b) r e = let same : r ≡ a ++ b = cc in (a, b, refl, refl, same)

-- ---- cells one after another

module _ {A : Type 0} (show : A → Option (List ℕ)) where
  cells-append : (lead : ℕ → List ℕ) (j k : ℕ) (xs ys : List A) → j + length xs ≡ k → cells_text show lead j (xs ++ ys) ≡ cells_text show lead j xs ++? cells_text show lead k ys
  cells-append lead j k [] ys e = let same : j ≡ k = omega (arith, e) in ap (λ i. cells_text show lead i ys) same ∙ sym (none-append (cells_text show lead k ys))
  cells-append lead j k (x ∷ xs) ys e =
      ap (λ o. (Some (lead j) ++? show x) ++? o) (cells-append lead (j + 1) k xs ys (omega (arith, e)))
      ∙ sym (append-again (Some (lead j) ++? show x) (cells_text show lead (j + 1) xs) (cells_text show lead k ys))

  cells-shifted : (lead other : ℕ → List ℕ) (j i : ℕ) (xs : List A) → ((t : ℕ) → t < length xs → lead (j + t) ≡ other (i + t)) → cells_text show lead j xs ≡ cells_text show other i xs
  cells-shifted lead other j i [] same = refl
  cells-shifted lead other j i (x ∷ xs) same =
      let here : lead j ≡ other i = ap lead (omega arith) ∙ (same 0 (omega arith) ∙ ap other (omega arith)) in
      let rest = cells-shifted lead other (j + 1) (i + 1) xs (λ t lt. ap lead (omega arith) ∙ (same (t + 1) (omega (arith, lt)) ∙ ap other (omega arith))) in
      ap (λ l. (Some l ++? show x) ++? cells_text show lead (j + 1) xs) here ∙ ap (λ o. (Some (other i) ++? show x) ++? o) rest

  -- cells of which all but the first stand behind what another lead says
  cells-behind : (lead other : ℕ → List ℕ) (j : ℕ) (xs : List A) → 0 < length xs → other 0 ≡ [] → ((t : ℕ) → 0 < t → t < length xs → lead (j + t) ≡ other t) → cells_text show lead j xs ≡ Some (lead j) ++? cells_text show other 0 xs
  cells-behind lead other j [] some first same = absurd (omega arith)
  cells-behind lead other j (x ∷ xs) some first same =
      let rest = cells-shifted lead other (j + 1) 1 xs (λ t lt. ap lead (omega arith) ∙ (same (1 + t) (omega arith) (omega (arith, lt)) ∙ refl)) in
      ap (λ o. (Some (lead j) ++? show x) ++? o) rest
      ∙ (append-again (Some (lead j)) (show x) (cells_text show other 1 xs)
      ∙ ap (λ o. Some (lead j) ++? (o ++? cells_text show other 1 xs)) (sym (ap (λ l. Some l ++? show x) first ∙ none-append (show x))))

-- ---- what stands before a cell

break-inside : (depth n i t : ℕ) (ns : List ℕ) → 0 < t → t < size ns → lead_text depth (n ∷ ns) (i * size ns + t) ≡ lead_text (depth + 1) ns t
break-inside depth n i t ns some lt =
    let place : (i * size ns + t) % size ns ≡ t = mod-mul-add i (size ns) t lt in
    cond-false (i * size ns + t == 0) _ _ (ne_eqb _ _ (λ e. omega (arith, e, some)))
    ∙ (cond-false ((i * size ns + t) % size ns == 0) _ _ (ne_eqb _ _ (λ e. omega (arith, e, place, some)))
    ∙ (ap (break_text (depth + 1) ns) place
    ∙ sym (cond-false (t == 0) [] (break_text (depth + 1) ns t) (ne_eqb _ _ (λ e. omega (arith, e, some))))))

break-between : (depth n i : ℕ) (ns : List ℕ) → 0 < size ns → 0 < i → lead_text depth (n ∷ ns) (i * size ns)
    ≡ replicate (length ns) 93 ++ (between_items depth (length ns) ++ replicate (length ns) 91)
break-between depth n i ns some later =
    let up : 0 < i * size ns = one-le-mul {a = i} {b = size ns} (omega (arith, later)) (omega (arith, some)) in
    cond-false (i * size ns == 0) _ _ (ne_eqb _ _ (λ e. omega (arith, e, up)))
    ∙ cond-true ((i * size ns) % size ns == 0) _ _ (eq-eqb _ _ (mul-mod_left i (size ns)))

-- ---- blocks of blocks

-- the brackets that open and close an item of these lengths
abbrev opened : List ℕ → List ℕ
opened ns = replicate (length ns) 91

abbrev closed : List ℕ → List ℕ
closed ns = replicate (length ns) 93

some-cells : (A : Type 0) (m : ℕ) (xs : List A) → m ≤ length xs → length (take m xs) ≡ m
some-cells A m xs le = length-take m xs ∙ omega arith

module _ {A : Type 0} (show : A → Option (List ℕ)) (depth n : ℕ) (ns : List ℕ) (some : 0 < size ns)
    (inner : (xs : List A) → length xs ≡ size ns → nested_text show (depth + 1) ns xs ≡ Some (opened ns) ++? (cells_text show (lead_text (depth + 1) ns) 0 xs ++? Some (closed ns))) where
  -- the cells of block i, behind what stands before the first of them
  block-cells : (i : ℕ) (xs : List A) → length xs ≡ size ns → cells_text show (lead_text depth (n ∷ ns)) (i * size ns) xs ≡ Some (lead_text depth (n ∷ ns) (i * size ns)) ++? cells_text show (lead_text (depth + 1) ns) 0 xs
  block-cells i xs many =
      cells-behind show (lead_text depth (n ∷ ns)) (lead_text (depth + 1) ns) (i * size ns) xs (omega (arith, many, some)) refl
      (λ t up lt. break-inside depth n i t ns up (omega (arith, lt, many)))

  -- a block, and the cells behind it
  block-then : (i : ℕ) (xs : List A) → size ns ≤ length xs → cells_text show (lead_text depth (n ∷ ns)) (i * size ns) xs
      ≡ (Some (lead_text depth (n ∷ ns) (i * size ns)) ++? cells_text show (lead_text (depth + 1) ns) 0 (take (size ns) xs)) ++? cells_text show (lead_text depth (n ∷ ns)) (suc i * size ns) (drop (size ns) xs)
  block-then i xs many =
      let first = some-cells A (size ns) xs many in
      ap (cells_text show (lead_text depth (n ∷ ns)) (i * size ns)) (sym (take-append-drop (size ns) xs))
      ∙ (cells-append show (lead_text depth (n ∷ ns)) (i * size ns) (suc i * size ns) (take (size ns) xs) (drop (size ns) xs) (omega (arith, first))
      ∙ ap (λ o. o ++? cells_text show (lead_text depth (n ∷ ns)) (suc i * size ns) (drop (size ns) xs)) (block-cells i (take (size ns) xs) first))

  later-blocks : (k i : ℕ) (xs : List A) → 0 < i → length xs ≡ k * size ns
      → Some (closed ns) ++? blocks_text (nested_text show (depth + 1) ns) (size ns) (between_items depth (length ns)) (between_items depth (length ns)) k xs ≡ cells_text show (lead_text depth (n ∷ ns)) (i * size ns) xs ++? Some (closed ns)
  later-blocks zero i [] later many = append-none (Some (closed ns)) ∙ sym (none-append (Some (closed ns)))
  later-blocks zero i (x ∷ xs) later many = absurd (omega arith)
  later-blocks (suc k) i xs later many =
      let enough : size ns ≤ length xs = omega arith in
      let first = some-cells A (size ns) xs enough in
      let rest : length (drop (size ns) xs) ≡ k * size ns = length-drop (size ns) xs ∙ omega (arith, many) in
      let ih = later-blocks k (suc i) (drop (size ns) xs) (omega arith) rest in
      let cells = cells_text show (lead_text (depth + 1) ns) 0 (take (size ns) xs) in
      let more = blocks_text (nested_text show (depth + 1) ns) (size ns) (between_items depth (length ns)) (between_items depth (length ns)) k (drop (size ns) xs) in
      let behind = cells_text show (lead_text depth (n ∷ ns)) (suc i * size ns) (drop (size ns) xs) in
      let own = inner (take (size ns) xs) first in
      let lead = break-between depth n i ns some later in
      -- from the left: the block in brackets, and what follows
      ap (λ o. Some (closed ns) ++? (Some (between_items depth (length ns)) ++? (o ++? more))) own
      ∙ (ap (λ o. Some (closed ns) ++? (Some (between_items depth (length ns)) ++? o)) (append-again (Some (opened ns)) (cells ++? Some (closed ns)) more ∙ ap (λ o. Some (opened ns) ++? o) (append-again cells (Some (closed ns)) more ∙ ap (λ o. cells ++? o) ih))
      ∙ (sym (append-again (Some (closed ns)) (Some (between_items depth (length ns))) (Some (opened ns) ++? (cells ++? (behind ++? Some (closed ns)))))
      ∙ (sym (append-again (Some (closed ns) ++? Some (between_items depth (length ns))) (Some (opened ns)) (cells ++? (behind ++? Some (closed ns))))
      ∙ (ap (λ l. Some l ++? (cells ++? (behind ++? Some (closed ns)))) (append_assoc (closed ns) (between_items depth (length ns)) (opened ns) ∙ sym lead)
      ∙ (sym (append-again (Some (lead_text depth (n ∷ ns) (i * size ns))) cells (behind ++? Some (closed ns)))
      ∙ (sym (append-again (Some (lead_text depth (n ∷ ns) (i * size ns)) ++? cells) behind (Some (closed ns)))
      ∙ ap (λ o. o ++? Some (closed ns)) (sym (block-then i xs enough))))))))

  all-blocks : (k : ℕ) (xs : List A) → 0 < k → length xs ≡ k * size ns
      → blocks_text (nested_text show (depth + 1) ns) (size ns) [] (between_items depth (length ns)) k xs ≡ Some (opened ns) ++? (cells_text show (lead_text depth (n ∷ ns)) 0 xs ++? Some (closed ns))
  all-blocks zero xs up many = absurd (omega arith)
  all-blocks (suc k) xs up many =
      let enough : size ns ≤ length xs = omega arith in
      let first = some-cells A (size ns) xs enough in
      let rest : length (drop (size ns) xs) ≡ k * size ns = length-drop (size ns) xs ∙ omega (arith, many) in
      let behind = cells_text show (lead_text depth (n ∷ ns)) (1 * size ns) (drop (size ns) xs) in
      let ih = later-blocks k 1 (drop (size ns) xs) (omega arith) rest in
      let cells = cells_text show (lead_text (depth + 1) ns) 0 (take (size ns) xs) in
      let more = blocks_text (nested_text show (depth + 1) ns) (size ns) (between_items depth (length ns)) (between_items depth (length ns)) k (drop (size ns) xs) in
      let zero_is : 0 * size ns ≡ 0 = omega arith in
      let start : cells_text show (lead_text depth (n ∷ ns)) 0 xs ≡ cells ++? behind =
      ap (λ j. cells_text show (lead_text depth (n ∷ ns)) j xs) (sym zero_is)
      ∙ (block-then 0 xs enough
      ∙ ap (λ o. o ++? behind) (ap (λ j. Some (lead_text depth (n ∷ ns) j) ++? cells) zero_is ∙ none-append cells)) in
      none-append (nested_text show (depth + 1) ns (take (size ns) xs) ++? more)
      ∙ (ap (λ o. o ++? more) (inner (take (size ns) xs) first)
      ∙ (append-again (Some (opened ns)) (cells ++? Some (closed ns)) more
      ∙ ap (λ o. Some (opened ns) ++? o) (append-again cells (Some (closed ns)) more ∙ (ap (λ o. cells ++? o) ih ∙ (sym (append-again cells behind (Some (closed ns))) ∙ ap (λ o. o ++? Some (closed ns)) (sym start))))))

-- the text of the cells of an array that is not empty: those of the cells in brackets, each behind what stands before it
pub nested-cells : {A : Type 0} (show : A → Option (List ℕ)) (depth : ℕ) (ns : List ℕ) (xs : List A) → 0 < size ns → length xs ≡ size ns
    → nested_text show depth ns xs ≡ Some (opened ns) ++? (cells_text show (lead_text depth ns) 0 xs ++? Some (closed ns))
nested-cells show depth [] [] some many = absurd (omega arith)
nested-cells show depth [] (x ∷ []) some many =
    sym (none-append (((Some [] ++? show x) ++? Some []) ++? Some [])
    ∙ (append-none ((Some [] ++? show x) ++? Some [])
    ∙ (append-none (Some [] ++? show x) ∙ none-append (show x))))
nested-cells show depth [] (x ∷ y ∷ xs) some many = absurd (omega arith)
nested-cells show depth (n ∷ ns) xs some many =
    let both = positive n (size ns) some in
    let cells = cells_text show (lead_text depth (n ∷ ns)) 0 xs in
    let blocks = all-blocks show depth n ns both.1 (λ ys l. nested-cells show (depth + 1) ns ys both.1 l) n xs both.0 many in
    ap (λ o. Some (91 ∷ []) ++? (o ++? Some (93 ∷ []))) blocks
    ∙ (ap (λ o. Some (91 ∷ []) ++? o) (append-again (Some (opened ns)) (cells ++? Some (closed ns)) (Some (93 ∷ [])))
    ∙ (sym (append-again (Some (91 ∷ [])) (Some (opened ns)) ((cells ++? Some (closed ns)) ++? Some (93 ∷ [])))
    ∙ ap (λ o. Some (replicate (suc (length ns)) 91) ++? o)
    (append-again cells (Some (closed ns)) (Some (93 ∷ [])) ∙ ap (λ l. cells ++? Some l) (replicate_more (length ns) 93 ∙ ap (λ k. replicate k 93) (let more : length ns + 1 ≡ suc (length ns) = omega arith in more)))))

no-cells : {A : Type 0} (show : A → Option (List ℕ)) (lead : ℕ → List ℕ) (xs : List A) → length xs ≡ 0 → cells_text show lead 0 xs ≡ Some []
no-cells show lead [] none = refl
no-cells show lead (x ∷ xs) none = absurd (omega arith)

-- the same of any array
pub array-cells : {A : Type 0} (show : A → Option (List ℕ)) (ns : List ℕ) (xs : List A) → length xs ≡ size ns
    → array_text show ns xs ≡ Some (replicate (length ns) 91) ++? (cells_text show (lead_text 0 ns) 0 xs ++? Some (replicate (length ns) 93))
array-cells show ns xs many = elim (cases_eq (size ns) 0) [
  | inl none ↦
      cond-true (size ns == 0) (Some (opened ns ++ closed ns)) (nested_text show 0 ns xs) (eq-eqb _ _ none)
      ∙ sym (ap (λ o. Some (opened ns) ++? (o ++? Some (closed ns))) (no-cells show (lead_text 0 ns) xs (omega (arith, none, many))) ∙ ap (λ o. Some (opened ns) ++? o) (none-append (Some (closed ns))))
  | inr some ↦
      cond-false (size ns == 0) (Some (opened ns ++ closed ns)) (nested_text show 0 ns xs) (ne_eqb _ _ some) ∙ nested-cells show 0 ns xs (omega (arith, some)) many
]
