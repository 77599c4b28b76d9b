-- Arrays joined along the first axis, and what is known where nothing is refused.
use Rattle.std.proofs.Common.{◌≡◌, ℕ, ◌<◌, ◌^◌, Bool, true, List, [], ◌∷◌, ◌++◌, Option, Some, None, length, drop, get_or, take, append-nil, refl, sym, ◌∙◌, ap, arith, subst, if◌then◌else◌}
use Rattle.std.specs.Prelude.{◌↔◌, ◌&&◌, All, Err, IfErr, IfOk, Ok, Result, flat_map, nat_lt, not, replicate, sum_by}
use Rattle.std.specs.List.{list_all}
use Rattle.std.specs.declared.alloc.AllocError.{AllocError}
use Rattle.std.proofs.lemmas.Bool.{lt-ltb}
use Rattle.std.proofs.lemmas.List.{take_all}
use Rattle.std.proofs.lemmas.List.Elements.{All-cons, All-head, All-nil, All-tail}
use Rattle.ndarray.specs.Errors.{shape_error}
use Rattle.ndarray.specs.Grid.{Grid, IsGrid, grid, one_axis}
use Rattle.ndarray.specs.Index.{size}
use Rattle.ndarray.specs.Joining.{concatenate_error, concatenation, concatenation_lengths, is_same_but_along, is_within_limit, shapes_of}
use Rattle.ndarray.specs.Limits.{nonzero_size}
use Rattle.ndarray.specs.declared.base.error.ErrorKind.{ErrorKind}
use Rattle.ndarray.specs.declared.base.error.ErrorKind.TheVariants.{IncompatibleShape, OutOfBounds, Overflow}
use Rattle.ndarray.specs.declared.stacking.error.StackError.{StackError}
use Rattle.ndarray.specs.declared.stacking.error.StackError.TheVariants.{Memory, Shape}
use Rattle.ndarray.specs.stacking.Blocks.{JoinsAs, all_blocks, block_at, blocks_at, outer_lengths}
use Rattle.ndarray.proofs.joining.Joined.{concatenation-is, may-concatenate}
use Rattle.ndarray.proofs.joining.OuterAxes.{nonzero-ones}
use Rattle.ndarray.proofs.boxes.Orders.{row_order-ones}
use Rattle.ndarray.proofs.boxes.Sizes.{limit-one}
use Rattle.ndarray.proofs.boxes.Walks.{rank-zeros}
use Rattle.ndarray.proofs.lists.CellLookup.{same_index-refl}

-- what holds of an `Ok` where there is no error holds of it always, as an error is no `Ok`
pub if_ok-unless : {X E K : Type 0} (r : Result X E) (error : Option K) (error_of : K → E) (P : X → Type 0) → ((k : K) → (r ≡ Err (error_of k)) ↔ (error ≡ Some k)) → (error ≡ None → IfOk r P) → IfOk r P
if_ok-unless r None error_of P refused known = known refl
if_ok-unless r (Some k) error_of P refused known = subst (λ q. IfOk q P) (sym ((refused k).1 refl)) tt

-- where shapes are not refused, an error of `concatenate` or `stack` is that of memory
pub only-memory : {X : Type 0} (r : Result X StackError) (error : Option ErrorKind) → ((k : ErrorKind) → (r ≡ Err (Shape (shape_error k))) ↔ (error ≡ Some k)) → error ≡ None → IfErr r (λ e. (m : AllocError) × (e ≡ Memory m))
only-memory (Ok x) error refused none = tt
only-memory (Err (Memory m)) error refused none = (m, refl)
only-memory (Err (Shape s)) error refused none = absurd (let some : error ≡ Some s.kind = (refused s.kind).0 refl in cc)

-- no error where each test passes
none-fails : (b c d : Bool) → b ≡ true → c ≡ true → d ≡ true → (if not b then Some OutOfBounds else if not c then Some IncompatibleShape else if not d then Some Overflow else None) ≡ None
none-fails b c d p q r = rw (p, q, r) refl

-- vectors have the same lengths but along their axis
same-vectors : (n : ℕ) (nss : List (List ℕ)) → All (λ ns. length ns ≡ 1) nss → list_all (is_same_but_along 0 (n ∷ [])) nss ≡ true
same-vectors n [] ones = refl
same-vectors n ([] ∷ nss) ones = absurd (let one = All-head (λ ns. length ns ≡ 1) [] nss ones in omega arith)
same-vectors n ((m ∷ []) ∷ nss) ones = ap (λ b. b && list_all (is_same_but_along 0 (n ∷ [])) nss) (same_index-refl (n ∷ [])) ∙ same-vectors n nss (All-tail (λ ns. length ns ≡ 1) (m ∷ []) nss ones)
same-vectors n ((m ∷ k ∷ ms) ∷ nss) ones = absurd (let one = All-head (λ ns. length ns ≡ 1) (m ∷ k ∷ ms) nss ones in omega arith)

-- vectors can be joined where their lengths add up within the limit
pub vectors-join : (nss : List (List ℕ)) → 0 < length nss → All (λ ns. length ns ≡ 1) nss → sum_by (λ ns. get_or ns 0 0) nss < 2 ^ 63 → concatenate_error 0 nss ≡ None
vectors-join [] some ones limit = absurd (omega arith)
vectors-join ([] ∷ nss) some ones limit = absurd (let one = All-head (λ ns. length ns ≡ 1) [] nss ones in omega arith)
vectors-join ((n ∷ []) ∷ nss) some ones limit =
    let sum : ℕ = sum_by (λ ns. get_or ns 0 0) ((n ∷ []) ∷ nss) in
    none-fails (nat_lt 0 (length (n ∷ []))) (list_all (is_same_but_along 0 (n ∷ [])) nss) (is_within_limit (concatenation_lengths 0 ((n ∷ []) ∷ nss)))
    (lt-ltb 0 (length (n ∷ [])) (omega arith))
    (same-vectors n nss (All-tail (λ ns. length ns ≡ 1) (n ∷ []) nss ones))
    (lt-ltb (nonzero_size (sum ∷ [])) (2 ^ 63) (limit-one sum limit))
vectors-join ((n ∷ m ∷ ms) ∷ nss) some ones limit = absurd (let one = All-head (λ ns. length ns ≡ 1) (n ∷ m ∷ ms) nss ones in omega arith)

module _ {A : Type 0} where
  -- the block of an array below the first axis is all of it
  block-all : (g : Grid A) (m : ℕ) → IsGrid g → block_at 0 (replicate m 0) g ≡ g.cells
  block-all g m whole = ap (λ n. take (size g.lengths) (drop n g.cells)) (rank-zeros g.lengths m) ∙ take_all (size g.lengths) g.cells (omega (arith, whole))

  blocks-all : (gs : List (Grid A)) (m : ℕ) → All IsGrid gs → blocks_at 0 (replicate m 0) gs ≡ flat_map (λ g. g.cells) gs
  blocks-all [] m whole = refl
  blocks-all (g ∷ gs) m whole =
      ap (λ l. l ++ blocks_at 0 (replicate m 0) gs) (block-all g m (All-head IsGrid g gs whole))
      ∙ ap (λ l. g.cells ++ l) (blocks-all gs m (All-tail IsGrid g gs whole))

  -- the cells of arrays joined along the first axis are those of one array after another
  pub concatenation-cells : (gs : List (Grid A)) → All IsGrid gs → concatenate_error 0 (shapes_of gs) ≡ None → (concatenation 0 gs).cells ≡ flat_map (λ g. g.cells) gs
  concatenation-cells [] whole none = absurd (cc)
  concatenation-cells (g ∷ gs) whole none =
      let os : List ℕ = outer_lengths 0 g.lengths in
      let ms : List ℕ = concatenation_lengths 0 (shapes_of (g ∷ gs)) in
      let j : JoinsAs 0 (concatenate_error 0) (concatenation_lengths 0) (g ∷ gs) os ms = record {
        none = none;
        lengths = refl;
        outer = refl;
        outer_limit = let e = nonzero-ones (length g.lengths) in omega arith;
        whole = whole;
      } in
      let all : all_blocks 0 os (g ∷ gs) ≡ flat_map (λ h. h.cells) (g ∷ gs) =
      ap (flat_map (λ is. blocks_at 0 is (g ∷ gs))) (row_order-ones (length g.lengths))
      ∙ (append-nil (blocks_at 0 (replicate (length g.lengths) 0) (g ∷ gs)) ∙ blocks-all (g ∷ gs) (length g.lengths) whole) in
      let many : length (flat_map (λ h. h.cells) (g ∷ gs)) ≡ size ms = ap length (sym all) ∙ (may-concatenate 0 (g ∷ gs) os ms j).many in
      sym (ap (λ r. r.cells) (concatenation-is 0 (g ∷ gs) os ms j (grid ms (flat_map (λ h. h.cells) (g ∷ gs))) many refl (sym all)))

  -- an array of one axis is its cells
  pub one_axis-is : (g : Grid A) → length g.lengths ≡ 1 → IsGrid g → g ≡ one_axis g.cells
  one_axis-is g one whole = same g.lengths g.cells one whole
    where
      same : (ns : List ℕ) (xs : List A) → length ns ≡ 1 → length xs ≡ size ns → grid ns xs ≡ one_axis xs
      same [] xs one whole = absurd (omega arith)
      same (n ∷ []) xs one whole = let e : n ≡ length xs = omega arith in ap (λ k. grid (k ∷ []) xs) e
      same (n ∷ m ∷ ns) xs one whole = absurd (omega arith)

  -- two vectors, one behind the other
  pub two-joined : (a b r : Grid A) → IsGrid a → IsGrid b → concatenate_error 0 (shapes_of (a ∷ b ∷ [])) ≡ None → r ≡ concatenation 0 (a ∷ b ∷ []) → length r.lengths ≡ 1 → IsGrid r → r ≡ one_axis (a.cells ++ b.cells)
  two-joined a b r whole_a whole_b none made one whole =
      one_axis-is r one whole
      ∙ ap one_axis
      (ap (λ h. h.cells) made
      ∙ (concatenation-cells (a ∷ b ∷ []) (All-cons IsGrid a (b ∷ []) whole_a (All-cons IsGrid b [] whole_b (All-nil IsGrid))) none ∙ ap (λ l. a.cells ++ l) (append-nil b.cells)))
