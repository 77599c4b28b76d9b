-- Words have one fault at most that is not `memory`, and none where they have an answer.
use Rattle.std.proofs.Common.{◌≡◌, ℕ, ◌⊎◌, inl, inr, ℤ, List, [], ◌∷◌, length, take, refl, sym, ap, ◌∙◌, subst, arith, Bool, nat_eq, get_or}
use Rattle.std.specs.Prelude.{◌+◌, ⊤, All, Option, if◌then◌else◌}
use Rattle.std.proofs.lemmas.List.{length-append}
use Rattle.std.proofs.Math.Seq.{take-append_seam}
use Rattle.ndarray.specs.Algebra.{CommutativeMonoid}
use Rattle.ndarray.specs.Broadcast.{BroadcastTogether}
use Rattle.ndarray.specs.Grid.{Grid}
use Rattle.ndarray.specs.Index.{size}
use Rattle.ndarray.specs.Integers.{int_products, int_sums}
use Rattle.ndarray.specs.Products.{ShapesMultiply}
use Rattle.ndarray.specs.Subviews.{ArePositive}
use Rattle.ndtables.specs.Adding.{CanAdd, ForbidsSums}
use Rattle.ndtables.specs.Answering.{Answers, Computes, Forbids, ForbidsAnswer, ForbidsPrinting, IsFirstFault, name_of}
use Rattle.ndtables.specs.Convolving.{AreVectors, CanConvolve, CanConvolveInFull}
use Rattle.ndtables.specs.Faults.{AfterAxisAndTable, AfterCount, AfterLastTable, AfterTable, AfterTables, ForbidsAxisAndTable, ForbidsCells, ForbidsCount, ForbidsLastTable, ForbidsTable, ForbidsTables, ForbidsTotal, ForbidsTotals, LeavesWords}
use Rattle.ndtables.specs.Multiplying.{CanSumProducts, ForbidsProduct}
use Rattle.ndtables.specs.Printing.{HasForm}
use Rattle.ndtables.specs.Reading.{ComputesTotal, ComputesTotals, ReadsAxisAndTable, ReadsCount, ReadsNumbers, ReadsTable, ReadsTables}
use Rattle.ndtables.specs.Reducing.{AreInRangeAlong, CanCumulateAlong, CanDifferAlong, ForbidsDifferences, ForbidsMaking, HasAxis, HasOrder, ProductsFit, SumsFit}
use Rattle.ndtables.specs.Spelling.{IsCellWord}
use Rattle.ndtables.specs.Streams.{AppendsFront, PrintsEither, line_of}
use Rattle.ndtables.specs.declared.command.Command.{Command}
use Rattle.ndtables.specs.declared.command.Command.TheVariants.{Add, Conv, ConvFull, Cumprod, Diff, Dot, Product, ProductAxis, Sum, SumAxis}
use Rattle.ndtables.specs.declared.fault.Fault.{Fault}
use Rattle.ndtables.specs.declared.fault.Fault.TheVariants.{Usage, Shape, Number, Range, Input, Memory}
use Rattle.ndtables.specs.declared.printing.Form.{Form}
use Rattle.ndtables.specs.declared.printing.Form.TheVariants.{Plain}
use Rattle.ndtables.proofs.OneReading.{as-many_words, axis-and_table_words, count-words, table-words, two-tables_words}
use Rattle.ndtables.proofs.ShapeWords.{one-shape}

abbrev Words : Type 0
Words = List (List ℕ)

-- there is one fault at most that is not `memory`
abbrev pub HasOne : (Fault → Type 0) → Type 0
HasOne why = (f g : Fault) → why f → why g → (f ≡ Memory → ⊥) → (g ≡ Memory → ⊥) → f ≡ g

-- there is none but `memory`
abbrev pub HasNone : (Fault → Type 0) → Type 0
HasNone why = (f : Fault) → why f → f ≡ Memory

none-then : (f g : Fault) → f ≡ Memory → (f ≡ Memory → ⊥) → f ≡ g
none-then f g is not = absurd (not is)

-- what is computed

making-none : (shape in_range : Type 0) → shape → in_range → HasNone (ForbidsMaking shape in_range)
making-none shape in_range s r Usage h = absurd h
making-none shape in_range s r Shape h = absurd (h s)
making-none shape in_range s r Number h = absurd h
making-none shape in_range s r Range h = absurd (h.1 r)
making-none shape in_range s r Input h = absurd h
making-none shape in_range s r Memory h = refl

making-one : (shape in_range : Type 0) → HasOne (ForbidsMaking shape in_range)
making-one shape in_range Usage g h k a b = absurd h
making-one shape in_range Number g h k a b = absurd h
making-one shape in_range Input g h k a b = absurd h
making-one shape in_range Memory g h k a b = absurd (a refl)
making-one shape in_range Shape Usage h k a b = absurd k
making-one shape in_range Shape Shape h k a b = refl
making-one shape in_range Shape Number h k a b = absurd k
making-one shape in_range Shape Range h k a b = absurd (h k.0)
making-one shape in_range Shape Input h k a b = absurd k
making-one shape in_range Shape Memory h k a b = absurd (b refl)
making-one shape in_range Range Usage h k a b = absurd k
making-one shape in_range Range Shape h k a b = absurd (k h.0)
making-one shape in_range Range Number h k a b = absurd k
making-one shape in_range Range Range h k a b = refl
making-one shape in_range Range Input h k a b = absurd k
making-one shape in_range Range Memory h k a b = absurd (b refl)

only-shape : (shape : Type 0) (f : Fault) → ForbidsMaking shape ⊤ f → (f ≡ Memory → ⊥) → f ≡ Shape
only-shape shape Usage h a = absurd h
only-shape shape Shape h a = refl
only-shape shape Number h a = absurd h
only-shape shape Range h a = absurd (h.1 tt)
only-shape shape Input h a = absurd h
only-shape shape Memory h a = absurd (a refl)

-- the faults of a sum and of a difference are such, but for `memory`
module _ (why : Fault → Type 0) (shape in_range : Type 0) (same : (f : Fault) → (f ≡ Memory → ⊥) → why f → ForbidsMaking shape in_range f) where
  such-one : HasOne why
  such-one f g h k a b = making-one shape in_range f g (same f a h) (same g b k) a b

sums-making : (g h : Grid ℤ) (f : Fault) → (f ≡ Memory → ⊥) → ForbidsSums g h f → ForbidsMaking (BroadcastTogether g.lengths h.lengths) (CanAdd g h) f
sums-making g h Usage not why = why
sums-making g h Shape not why = why
sums-making g h Number not why = why
sums-making g h Range not why = why
sums-making g h Input not why = why
sums-making g h Memory not why = absurd (not refl)

sums-none : (g h : Grid ℤ) → CanAdd g h → HasNone (ForbidsSums g h)
sums-none g h can Usage why = absurd why
sums-none g h can Shape why = absurd (why can.shapes)
sums-none g h can Number why = absurd why
sums-none g h can Range why = absurd (why.1 can)
sums-none g h can Input why = absurd why
sums-none g h can Memory why = refl

differences-making : (g : Grid ℤ) (n axis : ℕ) (f : Fault) → (f ≡ Memory → ⊥) → ForbidsDifferences g n axis f → ForbidsMaking (HasOrder g n axis) (CanDifferAlong g n axis) f
differences-making g n axis Usage not why = why
differences-making g n axis Shape not why = why
differences-making g n axis Number not why = why
differences-making g n axis Range not why = why
differences-making g n axis Input not why = why
differences-making g n axis Memory not why = absurd (not refl)

differences-none : (g : Grid ℤ) (n axis : ℕ) → HasOrder g n axis → CanDifferAlong g n axis → HasNone (ForbidsDifferences g n axis)
differences-none g n axis shape can Usage why = absurd why
differences-none g n axis shape can Shape why = absurd (why shape)
differences-none g n axis shape can Number why = absurd why
differences-none g n axis shape can Range why = absurd (why.1 can)
differences-none g n axis shape can Input why = absurd why
differences-none g n axis shape can Memory why = refl

-- what is read

count-one : (words : Words) → HasOne (ForbidsCount words)
count-one [] f g h k a b = h ∙ sym k
count-one (word ∷ rest) f g h k a b = h.1 ∙ sym k.1

count-none : (words rest : Words) (n : ℕ) → ReadsCount words rest n → HasNone (ForbidsCount words)
count-none words rest n read f why =
    let h : ForbidsCount (read.word ∷ rest) f = subst (λ ws. ForbidsCount ws f) read.words why in
    absurd (h.0 read.spelled)

cells-one : (n : ℕ) (words : Words) → HasOne (ForbidsCells n words)
cells-one n words Usage Usage h k a b = refl
cells-one n words Usage Shape h k a b = absurd k
cells-one n words Usage Number h k a b = let le = k.0 in absurd (omega (arith, h, le))
cells-one n words Usage Range h k a b = absurd k
cells-one n words Usage Input h k a b = absurd k
cells-one n words Usage Memory h k a b = absurd (b refl)
cells-one n words Shape g h k a b = absurd h
cells-one n words Number Usage h k a b = let le = h.0 in absurd (omega (arith, le, k))
cells-one n words Number Shape h k a b = absurd k
cells-one n words Number Number h k a b = refl
cells-one n words Number Range h k a b = absurd k
cells-one n words Number Input h k a b = absurd k
cells-one n words Number Memory h k a b = absurd (b refl)
cells-one n words Range g h k a b = absurd h
cells-one n words Input g h k a b = absurd h
cells-one n words Memory g h k a b = absurd (a refl)

cells-none : (old new : Words) (xs : List ℤ) → ReadsNumbers old new xs → HasNone (ForbidsCells (length xs) old)
cells-none old new xs r Usage h =
    let many = as-many_words old new xs r in
    let all : length old ≡ length r.read + length new = ap length r.words ∙ length-append r.read new in
    absurd (omega (arith, h, many, all))
cells-none old new xs r Shape h = absurd h
cells-none old new xs r Number h =
    let first : take (length xs) old ≡ r.read = ap (λ n. take n old) (as-many_words old new xs r) ∙ (ap (take (length r.read)) r.words ∙ take-append_seam r.read new) in
    absurd (h.1 (subst (All IsCellWord) (sym first) r.spelled))
cells-none old new xs r Range h = absurd h
cells-none old new xs r Input h = absurd h
cells-none old new xs r Memory h = refl

table-one : (words : Words) → HasOne (ForbidsTable words)
table-one [] f g h k a b = h ∙ sym k
table-one (word ∷ rest) f g h k a b = elim h [
  | inl p ↦ elim k [
    | inl q ↦ p.1 ∙ sym q.1
    | inr q ↦ absurd (p.0 q.0 q.1 q.2)
  ]
  | inr p ↦ elim k [
    | inl q ↦ absurd (q.0 p.0 p.1 p.2)
    | inr q ↦
        (let sizes : size p.0 ≡ size q.0 = ap size (one-shape word p.0 q.0 p.1 q.1 p.2 q.2) in
        cells-one (size q.0) rest f g (subst (λ n. ForbidsCells n rest f) sizes p.3) q.3 a b)
  ]
]

table-none : (words rest : Words) (t : Grid ℤ) → ReadsTable words rest t → HasNone (ForbidsTable words)
table-none words rest t read f why =
    let h : ForbidsTable (read.word ∷ read.rest) f = subst (λ ws. ForbidsTable ws f) read.words why in
    elim h [
      | inl p ↦ absurd (p.0 t.lengths read.order read.shape)
      | inr p ↦
          (let many : size p.0 ≡ length t.cells = ap size (one-shape read.word p.0 t.lengths p.1 read.order p.2 read.shape) ∙ sym read.whole in
          cells-none read.rest rest t.cells read.cells f (subst (λ n. ForbidsCells n read.rest f) many p.3))
    ]

module _ (words : Words) where
  module _ (follows : ℕ → Words → Fault → Type 0) where
    after-count_one : ((n : ℕ) (rest : Words) → HasOne (follows n rest)) → HasOne (AfterCount follows words)
    after-count_one one f g h k a b = elim h [
      | inl p ↦ elim k [
        | inl q ↦ count-one words f g p q a b
        | inr q ↦ none-then f g (count-none words q.1 q.0 q.2 f p) a
      ]
      | inr p ↦ elim k [
        | inl q ↦ absurd (b (count-none words p.1 p.0 p.2 g q))
        | inr q ↦
            (let (rest, n) = count-words words p.1 q.1 p.0 q.0 p.2 q.2 in
            one q.0 q.1 f g (subst (λ m. follows m q.1 f) n (subst (λ ws. follows p.0 ws f) rest p.3)) q.3 a b)
      ]
    ]

    after-count_none : (n : ℕ) (rest : Words) → ReadsCount words rest n → HasNone (follows n rest) → HasNone (AfterCount follows words)
    after-count_none n rest read none f h = elim h [
      | inl p ↦ count-none words rest n read f p
      | inr p ↦
          (let (more, m) = count-words words p.1 rest p.0 n p.2 read in
          none f (subst (λ k. follows k rest f) m (subst (λ ws. follows p.0 ws f) more p.3)))
    ]

  module _ (follows : Grid ℤ → Words → Fault → Type 0) where
    after-table_one : ((t : Grid ℤ) (rest : Words) → HasOne (follows t rest)) → HasOne (AfterTable follows words)
    after-table_one one f g h k a b = elim h [
      | inl p ↦ elim k [
        | inl q ↦ table-one words f g p q a b
        | inr q ↦ none-then f g (table-none words q.1 q.0 q.2 f p) a
      ]
      | inr p ↦ elim k [
        | inl q ↦ absurd (b (table-none words p.1 p.0 p.2 g q))
        | inr q ↦
            (let (rest, t) = table-words words p.1 q.1 p.0 q.0 p.2 q.2 in
            one q.0 q.1 f g (subst (λ s. follows s q.1 f) t (subst (λ ws. follows p.0 ws f) rest p.3)) q.3 a b)
      ]
    ]

    after-table_none : (t : Grid ℤ) (rest : Words) → ReadsTable words rest t → HasNone (follows t rest) → HasNone (AfterTable follows words)
    after-table_none t rest read none f h = elim h [
      | inl p ↦ table-none words rest t read f p
      | inr p ↦
          (let (more, s) = table-words words p.1 rest p.0 t p.2 read in
          none f (subst (λ k. follows k rest f) s (subst (λ ws. follows p.0 ws f) more p.3)))
    ]

leaves-one : (words : Words) → HasOne (LeavesWords words)
leaves-one [] f g h k a b = absurd h
leaves-one (word ∷ rest) f g h k a b = h ∙ sym k

leaves-none : HasNone (LeavesWords [])
leaves-none f h = absurd h

last-one : (words : Words) → HasOne (ForbidsLastTable words)
last-one words = after-table_one words (λ _. LeavesWords) (λ t rest. leaves-one rest)

last-none : (words : Words) (t : Grid ℤ) → ReadsTable words [] t → HasNone (ForbidsLastTable words)
last-none words t read = after-table_none words (λ _. LeavesWords) t [] read leaves-none

tables-one : (words : Words) → HasOne (ForbidsTables words)
tables-one words = after-table_one words (λ _. ForbidsLastTable) (λ t rest. last-one rest)

tables-none : (words : Words) (s t : Grid ℤ) → ReadsTables words s t → HasNone (ForbidsTables words)
tables-none words s t read = after-table_none words (λ _. ForbidsLastTable) s read.rest read.read_left (last-none read.rest t read.read_right)

axis-one : (words : Words) → HasOne (ForbidsAxisAndTable words)
axis-one words = after-count_one words (λ _. ForbidsLastTable) (λ n rest. last-one rest)

axis-none : (words : Words) (n : ℕ) (t : Grid ℤ) → ReadsAxisAndTable words n t → HasNone (ForbidsAxisAndTable words)
axis-none words n t read = after-count_none words (λ _. ForbidsLastTable) n read.rest read.read_axis (last-none read.rest t read.read_table)

-- what is read, and then computed

module _ (words : Words) where
  module _ (computes : Grid ℤ → Fault → Type 0) where
    after-last_one : ((t : Grid ℤ) → HasOne (computes t)) → HasOne (AfterLastTable computes words)
    after-last_one one f g h k a b = elim h [
      | inl p ↦ elim k [
        | inl q ↦ last-one words f g p q a b
        | inr q ↦ none-then f g (last-none words q.0 q.1 f p) a
      ]
      | inr p ↦ elim k [
        | inl q ↦ absurd (b (last-none words p.0 p.1 g q))
        | inr q ↦
            (let (rest, t) = table-words words [] [] p.0 q.0 p.1 q.1 in
            one q.0 f g (subst (λ s. computes s f) t p.2) q.2 a b)
      ]
    ]

    after-last_none : (t : Grid ℤ) → ReadsTable words [] t → HasNone (computes t) → HasNone (AfterLastTable computes words)
    after-last_none t read none f h = elim h [
      | inl p ↦ last-none words t read f p
      | inr p ↦ none f (subst (λ s. computes s f) (table-words words [] [] p.0 t p.1 read).1 p.2)
    ]

  module _ (computes : Grid ℤ → Grid ℤ → Fault → Type 0) where
    after-tables_one : ((s t : Grid ℤ) → HasOne (computes s t)) → HasOne (AfterTables computes words)
    after-tables_one one f g h k a b = elim h [
      | inl p ↦ elim k [
        | inl q ↦ tables-one words f g p q a b
        | inr q ↦ none-then f g (tables-none words q.0 q.1 q.2 f p) a
      ]
      | inr p ↦ elim k [
        | inl q ↦ absurd (b (tables-none words p.0 p.1 p.2 g q))
        | inr q ↦
            (let (s, t) = two-tables_words words p.0 p.1 q.0 q.1 p.2 q.2 in
            one q.0 q.1 f g (subst (λ x. computes q.0 x f) t (subst (λ x. computes x p.1 f) s p.3)) q.3 a b)
      ]
    ]

    after-tables_none : (s t : Grid ℤ) → ReadsTables words s t → HasNone (computes s t) → HasNone (AfterTables computes words)
    after-tables_none s t read none f h = elim h [
      | inl p ↦ tables-none words s t read f p
      | inr p ↦
          (let (x, y) = two-tables_words words p.0 p.1 s t p.2 read in
          none f (subst (λ z. computes s z f) y (subst (λ z. computes z p.1 f) x p.3)))
    ]

  module _ (computes : ℕ → Grid ℤ → Fault → Type 0) where
    after-axis_one : ((n : ℕ) (t : Grid ℤ) → HasOne (computes n t)) → HasOne (AfterAxisAndTable computes words)
    after-axis_one one f g h k a b = elim h [
      | inl p ↦ elim k [
        | inl q ↦ axis-one words f g p q a b
        | inr q ↦ none-then f g (axis-none words q.0 q.1 q.2 f p) a
      ]
      | inr p ↦ elim k [
        | inl q ↦ absurd (b (axis-none words p.0 p.1 p.2 g q))
        | inr q ↦
            (let (n, t) = axis-and_table_words words p.0 q.0 p.1 q.1 p.2 q.2 in
            one q.0 q.1 f g (subst (λ x. computes q.0 x f) t (subst (λ x. computes x p.1 f) n p.3)) q.3 a b)
      ]
    ]

    after-axis_none : (n : ℕ) (t : Grid ℤ) → ReadsAxisAndTable words n t → HasNone (computes n t) → HasNone (AfterAxisAndTable computes words)
    after-axis_none n t read none f h = elim h [
      | inl p ↦ axis-none words n t read f p
      | inr p ↦
          (let (m, s) = axis-and_table_words words p.0 n p.1 t p.2 read in
          none f (subst (λ z. computes n z f) s (subst (λ z. computes z p.1 f) m p.3)))
    ]

-- the commands

total-one : (in_range : List ℤ → Type 0) (words : Words) → HasOne (ForbidsTotal in_range words)
total-one in_range words = after-last_one words (λ table. ForbidsMaking ⊤ (in_range table.cells)) (λ t. making-one ⊤ (in_range t.cells))

totals-one : (in_range : List ℤ → Type 0) (words : Words) → HasOne (ForbidsTotals in_range words)
totals-one in_range words = after-axis_one words (λ axis table. ForbidsMaking (HasAxis table axis) (AreInRangeAlong in_range table axis))
    (λ n t. making-one (HasAxis t n) (AreInRangeAlong in_range t n))

command-one : (command : Command) (words : Words) → HasOne (Forbids command words)
command-one Add words = after-tables_one words ForbidsSums (λ s t. such-one (ForbidsSums s t) (BroadcastTogether s.lengths t.lengths) (CanAdd s t) (sums-making s t))
command-one Conv words = after-tables_one words (λ s t. ForbidsMaking (ArePositive s.lengths t.lengths) (CanConvolve s t)) (λ s t. making-one (ArePositive s.lengths t.lengths) (CanConvolve s t))
command-one ConvFull words = after-tables_one words (λ s t. ForbidsMaking (AreVectors s t) (CanConvolveInFull s t)) (λ s t. making-one (AreVectors s t) (CanConvolveInFull s t))
command-one Cumprod words = after-axis_one words (λ n t. ForbidsMaking (HasAxis t n) (CanCumulateAlong t n)) (λ n t. making-one (HasAxis t n) (CanCumulateAlong t n))
command-one Diff words = after-count_one words (λ order. AfterAxisAndTable (λ axis table. ForbidsDifferences table order axis))
    (λ order rest. after-axis_one rest (λ axis table. ForbidsDifferences table order axis)
    (λ axis table. such-one (ForbidsDifferences table order axis) (HasOrder table order axis) (CanDifferAlong table order axis) (differences-making table order axis)))
command-one Dot words = after-tables_one words ForbidsProduct (λ s t. making-one (ShapesMultiply s.lengths t.lengths) (CanSumProducts s t))
command-one Product words = total-one ProductsFit words
command-one ProductAxis words = totals-one ProductsFit words
command-one Sum words = total-one SumsFit words
command-one SumAxis words = totals-one SumsFit words

total-none : (M : CommutativeMonoid ℤ) (in_range : List ℤ → Type 0) (words : Words) (result : Grid ℤ) → ComputesTotal M in_range words result → HasNone (ForbidsTotal in_range words)
total-none M in_range words result p = after-last_none words (λ table. ForbidsMaking ⊤ (in_range table.cells)) p.table p.read (making-none ⊤ (in_range p.table.cells) tt p.fits)

totals-none : (M : CommutativeMonoid ℤ) (in_range : List ℤ → Type 0) (words : Words) (result : Grid ℤ) → ComputesTotals M in_range words result → HasNone (ForbidsTotals in_range words)
totals-none M in_range words result p = after-axis_none words (λ axis table. ForbidsMaking (HasAxis table axis) (AreInRangeAlong in_range table axis)) p.axis p.table p.read
    (making-none (HasAxis p.table p.axis) (AreInRangeAlong in_range p.table p.axis) p.added.shape p.added.fits)

command-none : (command : Command) (words : Words) (result : Grid ℤ) → Computes command words result → HasNone (Forbids command words)
command-none Add words result p = after-tables_none words ForbidsSums p.left p.right p.read (sums-none p.left p.right p.added.fits)
command-none Conv words result p = after-tables_none words (λ s t. ForbidsMaking (ArePositive s.lengths t.lengths) (CanConvolve s t)) p.table p.kernel p.read
    (making-none (ArePositive p.table.lengths p.kernel.lengths) (CanConvolve p.table p.kernel) p.convolved.shape p.convolved.fits)
command-none ConvFull words result p = after-tables_none words (λ s t. ForbidsMaking (AreVectors s t) (CanConvolveInFull s t)) p.left p.right p.read
    (making-none (AreVectors p.left p.right) (CanConvolveInFull p.left p.right) p.convolved.shape p.convolved.fits)
command-none Cumprod words result p = after-axis_none words (λ n t. ForbidsMaking (HasAxis t n) (CanCumulateAlong t n)) p.axis p.table p.read
    (making-none (HasAxis p.table p.axis) (CanCumulateAlong p.table p.axis) p.multiplied.shape p.multiplied.fits)
command-none Diff words result p = after-count_none words (λ order. AfterAxisAndTable (λ axis table. ForbidsDifferences table order axis)) p.order p.rest p.read_order
    (after-axis_none p.rest (λ axis table. ForbidsDifferences table p.order axis) p.axis p.table p.read (differences-none p.table p.order p.axis p.subtracted.shape p.subtracted.fits))
command-none Dot words result p = after-tables_none words ForbidsProduct p.left p.right p.read
    (making-none (ShapesMultiply p.left.lengths p.right.lengths) (CanSumProducts p.left p.right) p.multiplied.shapes p.multiplied.fits)
command-none Product words result p = total-none int_products ProductsFit words result p
command-none ProductAxis words result p = totals-none int_products ProductsFit words result p
command-none Sum words result p = total-none int_sums SumsFit words result p
command-none SumAxis words result p = totals-none int_sums SumsFit words result p

-- a name is that of one command: by its length and its second letter
has_letter : List ℕ → ℕ → Bool
has_letter word letter = nat_eq (get_or word 1 0) letter

of_three : List ℕ → Command
of_three word = if has_letter word 100 then Add else (if has_letter word 111 then Dot else Sum)

of_four : List ℕ → Command
of_four word = if has_letter word 111 then Conv else Diff

of_seven : List ℕ → Command
of_seven word = if has_letter word 117 then Cumprod else Product

command_of : List ℕ → Command
command_of word =
    if nat_eq (length word) 3 then of_three word else (
    if nat_eq (length word) 4 then of_four word else (
    if nat_eq (length word) 7 then of_seven word else (
    if nat_eq (length word) 8 then SumAxis else (
    if nat_eq (length word) 9 then ConvFull else ProductAxis))))

named-back : (command : Command) → command_of (name_of command) ≡ command
unfolding command_of of_three of_four of_seven has_letter
named-back Add = refl
named-back Conv = refl
named-back ConvFull = refl
named-back Cumprod = refl
named-back Diff = refl
named-back Dot = refl
named-back Product = refl
named-back ProductAxis = refl
named-back Sum = refl
named-back SumAxis = refl

one-name : (c d : Command) → name_of c ≡ name_of d → c ≡ d
one-name c d e = sym (named-back c) ∙ (ap command_of e ∙ named-back d)

-- what is computed, and then printed
printing-one : (form : Form) (command : Command) (words : Words) → HasOne (ForbidsPrinting form command words)
printing-one form command words f g h k a b = elim h [
  | inl p ↦ elim k [
    | inl q ↦ command-one command words f g p q a b
    | inr q ↦ absurd (a (command-none command words q.0 q.1 f p))
  ]
  | inr p ↦ elim k [
    | inl q ↦ absurd (b (command-none command words p.0 p.1 g q))
    | inr q ↦ shape-alone p.0 q.0 f g p.2 q.2 a b
  ]
]
  where
    shape-alone : (r s : Grid ℤ) (f g : Fault) → ForbidsMaking (HasForm form r) ⊤ f → ForbidsMaking (HasForm form s) ⊤ g → (f ≡ Memory → ⊥) → (g ≡ Memory → ⊥) → f ≡ g
    shape-alone r s f g h k a b = only-shape (HasForm form r) f h a ∙ sym (only-shape (HasForm form s) g k b)

printing-none : (command : Command) (words : Words) (result : Grid ℤ) → Computes command words result → HasNone (ForbidsPrinting Plain command words)
printing-none command words result p f h = elim h [
  | inl q ↦ command-none command words result p f q
  | inr q ↦ making-none ⊤ ⊤ tt tt f q.2
]

pub one-fault : (form : Form) (words : Words) → HasOne (ForbidsAnswer form words)
one-fault form [] f g h k a b = h ∙ sym k
one-fault form (word ∷ rest) f g h k a b = elim h [
  | inl p ↦ elim k [
    | inl q ↦ p.1 ∙ sym q.1
    | inr q ↦ absurd (p.0 q.0 q.1)
  ]
  | inr p ↦ elim k [
    | inl q ↦ absurd (q.0 p.0 p.1)
    | inr q ↦
        (let same : p.0 ≡ q.0 = one-name p.0 q.0 (sym p.1 ∙ q.1) in
        printing-one form q.0 rest f g (subst (λ c. ForbidsPrinting form c rest f) same p.2) q.2 a b)
  ]
]

pub no-fault : (words : Words) (text : List ℕ) → Answers Plain words text → HasNone (ForbidsAnswer Plain words)
no-fault words text answer f why =
    let h : ForbidsAnswer Plain (name_of answer.command ∷ answer.arguments) f = subst (λ ws. ForbidsAnswer Plain ws f) answer.named why in
    elim h [
      | inl p ↦ absurd (p.0 answer.command refl)
      | inr p ↦
          (let same : p.0 ≡ answer.command = one-name p.0 answer.command (sym p.1) in
          printing-none answer.command answer.arguments answer.result answer.computed f (subst (λ c. ForbidsPrinting Plain c answer.arguments f) same p.2))
    ]

pub no-first : (words : Words) (text : List ℕ) (fault : Fault) → Answers Plain words text → IsFirstFault words fault → ⊥
no-first words text fault answer first = first.1 (no-fault words text answer fault first.0)

is-memory : (fault : Fault) → (fault ≡ Memory) ⊎ (fault ≡ Memory → ⊥)
is-memory Usage = inr (λ e. cc)
is-memory Shape = inr (λ e. cc)
is-memory Number = inr (λ e. cc)
is-memory Range = inr (λ e. cc)
is-memory Input = inr (λ e. cc)
is-memory Memory = inl refl

-- a fault that is why the words have no answer is the first, or `memory`
pub first-line : (words : Words) (why fault : Fault) (old new : Option (List ℕ)) → ForbidsAnswer Plain words why → IsFirstFault words fault → AppendsFront old new (line_of why) → PrintsEither fault old new
first-line words why fault old new forbids first line = elim (is-memory why) [
  | inl e ↦ inr (subst (λ f. AppendsFront old new (line_of f)) e line)
  | inr not ↦ inl (subst (λ f. AppendsFront old new (line_of f)) (one-fault Plain words why fault forbids first.0 not first.1) line)
]
