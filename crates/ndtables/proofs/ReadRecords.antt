-- The records of a text, read one after the other.
use Rattle.std.proofs.Common.{◌≡◌, ◌∙◌, ◌++◌, ◌∷◌, [], Bor, ℕ, List, Some, None, All, Bool, false, true, ◌+◌, ap, arith, append-nil, append_assoc, length, refl, subst, sym}
use Rattle.std.proofs.lemmas.Grind.{flat_map-append}
use Rattle.std.proofs.lemmas.List.Elements.{All-cons, All-head, All-nil, All-tail}
use Rattle.csv.specs.Machine.{next_record}
use Rattle.csv.specs.Reading.{AreRecords, Reached, default_config, reader_state, source_of}
use Rattle.csv.specs.declared.parser.Config.{Config}
use Rattle.csv.specs.declared.parser.State.{State}
use Rattle.csv.specs.declared.reader.Reader.{Reader}
use Rattle.csv.specs.Reading.{strip_bom}
use Rattle.csv.specs.declared.parser.State.TheVariants as st
use Rattle.ndtables.specs.Records.{AreEqual, HasRecords, HasRows, columns_of, fields_in, rows_of, spaced}
use Rattle.ndtables.specs.Spelling.{IsCellWord}
use Rattle.ndtables.proofs.Taken.{at-seam}

module _ (cfg : Config) where
  -- records that were read, and those that are left, are all
  pub records-joined : (rs more : List (List (List ℕ))) (s s2 : State) (xs ys : List ℕ) → Reached cfg s xs rs s2 ys → AreRecords cfg s2 ys more → AreRecords cfg s xs (rs ++ more)
  unfolding Reached
  records-joined [] more s s2 xs ys (same, left) all = subst (λ t. AreRecords cfg t xs more) (sym same) (subst (λ zs. AreRecords cfg s2 zs more) (sym left) all)
  records-joined (r ∷ rs) more s s2 xs ys (p, next, is, others) all =
      let (s3, zs, reached, end) = records-joined rs more p.1 s2 p.2 ys others all in
      (s3, zs, (p, next, is, reached), end)

  -- the records that were read are the first of all
  pub records-parted : (rs all : List (List (List ℕ))) (s s2 : State) (xs ys : List ℕ) → Reached cfg s xs rs s2 ys → AreRecords cfg s xs all → (more : List (List (List ℕ))) × (all ≡ rs ++ more) × AreRecords cfg s2 ys more
  unfolding Reached
  records-parted [] all s s2 xs ys (same, left) read = (all, refl, subst (λ t. AreRecords cfg t ys all) same (subst (λ zs. AreRecords cfg s zs all) left read))
  records-parted (r ∷ rs) [] s s2 xs ys (p, next, is, others) (s3, zs, (same, left), end) =
      absurd (let gone : next_record cfg s [] [] xs ≡ None = subst (λ t. next_record cfg t [] [] xs ≡ None) (sym same) (subst (λ k. next_record cfg s3 [] [] k ≡ None) (sym left) end) in let two = sym next ∙ gone in cc)
  records-parted (r ∷ rs) (q ∷ all) s s2 xs ys (p, next, is, others) (s3, zs, (p2, next2, is2, others2), end) =
      let both : p ≡ p2 = (let two = sym next ∙ next2 in cc) in
      let (more, parts, left) = records-parted rs all p.1 s2 p.2 ys others (s3, zs, subst (λ k. Reached cfg k.1 k.2 all s3 zs) (sym both) others2, end) in
      (more, ap (λ k. k ∷ all) (is2 ∙ (ap (λ k. k.0) (sym both) ∙ sym is)) ∙ ap (λ ks. r ∷ ks) parts, left)

module _ {A : Type 0} (P : A → Type 0) where
  pub all-left : (xs ys : List A) → All P (xs ++ ys) → All P xs
  all-left [] ys all = All-nil P
  all-left (x ∷ xs) ys all = All-cons P x xs (All-head P x (xs ++ ys) all) (all-left xs ys (All-tail P x (xs ++ ys) all))

  pub all-right : (xs ys : List A) → All P (xs ++ ys) → All P ys
  all-right [] ys all = all
  all-right (x ∷ xs) ys all = all-right xs ys (All-tail P x (xs ++ ys) all)

  pub all-both : (xs ys : List A) → All P xs → All P ys → All P (xs ++ ys)
  all-both [] ys a b = b
  all-both (x ∷ xs) ys a b = All-cons P x (xs ++ ys) (All-head P x xs a) (all-both xs ys (All-tail P x xs a) b)

abbrev Records : Type 0
Records = List (List (List ℕ))

-- the fields of one more row
pub fields-more : (rs : Records) (f : List (List ℕ)) → fields_in false (rs ++ f ∷ []) ≡ fields_in false rs ++ f
fields-more rs f = flat_map-append (λ row. row) rs (f ∷ []) ∙ ap (λ z. fields_in false rs ++ z) (append-nil f)

pub spaced-more : (fs gs : List (List ℕ)) → spaced (fs ++ gs) ≡ spaced fs ++ spaced gs
spaced-more fs gs = flat_map-append (λ field. field ++ 32 ∷ []) fs gs

-- a record that was read is a row, where all that are left are rows
pub row-there : (reader : Reader (Bor (List ℕ))) (columns : ℕ) (start z : List ℕ) (s2 : State) (rs all : Records) (f : List (List ℕ))
    → source_of (λ s. Some s.now) reader ≡ Some start → Reached default_config (reader_state reader) start (rs ++ f ∷ []) s2 z → HasRows reader columns all
    → (length f ≡ columns) × All IsCellWord f
row-there reader columns start z s2 rs all f known reached rows =
    let (bytes, known_too, read) = rows.left in
    let same : bytes ≡ start = (let two = sym known_too ∙ known in cc) in
    let (more, parts, left) = records-parted default_config (rs ++ f ∷ []) all (reader_state reader) s2 start z reached (subst (λ b. AreRecords default_config (reader_state reader) b all) same read) in
    let laid : all ≡ rs ++ f ∷ more = parts ∙ append_assoc rs (f ∷ []) more in
    let cells : All IsCellWord (fields_in false (rs ++ f ∷ more)) = subst (λ k. All IsCellWord (fields_in false k)) laid rows.cells in
    let here : All IsCellWord (f ++ fields_in false more) = all-right IsCellWord (fields_in false rs) (f ++ fields_in false more) (subst (All IsCellWord) (flat_map-append (λ row. row) rs (f ∷ more)) cells) in (
      at-seam (λ fields. length fields ≡ columns) rs more f (subst (AreEqual columns) laid rows.equal),
      all-left IsCellWord f (fields_in false more) here,
    )

-- the first record, and those below it
pub fields-split : (header : Bool) (f : List (List ℕ)) (rs : Records) → fields_in header (f ∷ rs) ≡ fields_in header (f ∷ []) ++ fields_in false rs
fields-split true f rs = refl
fields-split false f rs = ap (λ z. z ++ fields_in false rs) (sym (append-nil f))

pub rows-split : (header : Bool) (f : List (List ℕ)) (rs : Records) → length (rows_of header (f ∷ rs)) ≡ length (rows_of header (f ∷ [])) + length rs
rows-split true f rs = omega arith
rows-split false f rs = omega arith

module _ (header : Bool) (text : List ℕ) (f : List (List ℕ)) (reader : Reader (Bor (List ℕ))) (z : List ℕ) (known : source_of (λ s. Some s.now) reader ≡ Some z)
    (first : Reached default_config st.StartRecord (strip_bom text) (f ∷ []) (reader_state reader) z) where
  -- the first record and the rows below it are what the text has
  pub has-records : (rs : Records) (columns : ℕ) → columns ≡ length f → HasRows reader columns rs → All IsCellWord (fields_in header (f ∷ [])) → HasRecords header text (f ∷ rs)
  has-records rs columns as_many rows cells =
      let (bytes, known_too, read) = rows.left in
      let same : bytes ≡ z = (let two = sym known_too ∙ known in cc) in
      record {
        read = records-joined default_config (f ∷ []) rs st.StartRecord (reader_state reader) (strip_bom text) z first (subst (λ b. AreRecords default_config (reader_state reader) b rs) same read);
        equal = All-cons (λ fields. length fields ≡ length f) f rs refl (subst (λ n. AreEqual n rs) as_many rows.equal);
        cells = subst (All IsCellWord) (sym (fields-split header f rs)) (all-both IsCellWord (fields_in header (f ∷ [])) (fields_in false rs) cells rows.cells);
      }

  -- what the text has begins with the first record, and then come rows
  pub records-below : (all : Records) (columns : ℕ) → columns ≡ length f → HasRecords header text all → (rs : Records) × HasRows reader columns rs × All IsCellWord (fields_in header (f ∷ []))
  records-below all columns as_many has =
      let (more, parts, left) = records-parted default_config (f ∷ []) all st.StartRecord (reader_state reader) (strip_bom text) z first has.read in
      let cells : All IsCellWord (fields_in header (f ∷ []) ++ fields_in false more) = subst (All IsCellWord) (fields-split header f more) (subst (λ k. All IsCellWord (fields_in header k)) parts has.cells) in
      let equal : AreEqual (columns_of (f ∷ more)) (f ∷ more) = subst (λ k. AreEqual (columns_of k) k) parts has.equal in (
        more,
        record {
          left = (z, known, left);
          equal = subst (λ n. AreEqual n more) (sym as_many) (All-tail (λ fields. length fields ≡ length f) f more equal);
          cells = all-right IsCellWord (fields_in header (f ∷ [])) (fields_in false more) cells;
        },
        all-left IsCellWord (fields_in header (f ∷ [])) (fields_in false more) cells,
      )
