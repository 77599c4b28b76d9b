-- Why nothing is computed of words: which fault comes first, as they are read from left to right, and then computed with.
use Rattle.std.specs.Prelude.{◌≡◌, ◌⊎◌, ◌<◌, ◌≤◌, ⊤, ℕ, ℤ, List, [], ◌∷◌, length, take, All}
use Rattle.ndarray.specs.Grid.{Grid}
use Rattle.ndarray.specs.Index.{size}
use Rattle.ndarray.specs.Subviews.{ArePositive}
use Rattle.ndarray.specs.declared.base.shape.Order.{Order}
use Rattle.ndtables.specs.Adding.{ForbidsSums}
use Rattle.ndtables.specs.Convolving.{AreVectors, CanConvolve, CanConvolveInFull}
use Rattle.ndtables.specs.Multiplying.{ForbidsProduct}
use Rattle.ndtables.specs.Reading.{ReadsAxisAndTable, ReadsCount, ReadsTable, ReadsTables}
use Rattle.ndtables.specs.Reducing.{AreInRangeAlong, CanCumulateAlong, ForbidsDifferences, ForbidsMaking, HasAxis}
use Rattle.ndtables.specs.Spelling.{IsCellWord, IsCountWord, SpellsNoShape, SpellsShape}
use Rattle.ndtables.specs.declared.fault.Fault.{Fault}
use Rattle.ndtables.specs.declared.fault.Fault.TheVariants.{Usage, Shape, Number, Range, Input, Memory}

-- the fault is why no axis or order was read: there is no word, or it spells none
abbrev pub ForbidsCount : List (List ℕ) → Fault → Type 0
ForbidsCount [] fault = fault ≡ Usage
ForbidsCount (word ∷ rest) fault = (IsCountWord word → ⊥) × (fault ≡ Number)

-- the fault is why the next n words were not read as cells: there are fewer, or one spells no cell, or allocation failure
abbrev pub ForbidsCells : ℕ → List (List ℕ) → Fault → Type 0
ForbidsCells n words Usage = length words < n
ForbidsCells n words Shape = ⊥
ForbidsCells n words Number = (n ≤ length words) × (All IsCellWord (take n words) → ⊥)
ForbidsCells n words Range = ⊥
ForbidsCells n words Input = ⊥
ForbidsCells n words Memory = n ≤ length words

-- the fault is why no table was read: there is no word, or it spells no shape, or the fault is that of its cells
abbrev pub ForbidsTable : List (List ℕ) → Fault → Type 0
ForbidsTable [] fault = fault ≡ Usage
ForbidsTable (word ∷ rest) fault = (SpellsNoShape word × (fault ≡ Shape)) ⊎ ((ns : List ℕ) × (order : Order) × SpellsShape word ns order × ForbidsCells (size ns) rest fault)

-- the fault is why no axis or order was read, or one was, and the fault is that of what follows
abbrev pub AfterCount : (ℕ → List (List ℕ) → Fault → Type 0) → List (List ℕ) → Fault → Type 0
AfterCount follows words fault = ForbidsCount words fault ⊎ ((count : ℕ) × (rest : List (List ℕ)) × ReadsCount words rest count × follows count rest fault)

-- the fault is why no table was read, or one was, and the fault is that of what follows
abbrev pub AfterTable : (Grid ℤ → List (List ℕ) → Fault → Type 0) → List (List ℕ) → Fault → Type 0
AfterTable follows words fault = ForbidsTable words fault ⊎ ((table : Grid ℤ) × (rest : List (List ℕ)) × ReadsTable words rest table × follows table rest fault)

-- the fault is that a word is left over
abbrev pub LeavesWords : List (List ℕ) → Fault → Type 0
LeavesWords [] fault = ⊥
LeavesWords (word ∷ rest) fault = fault ≡ Usage

-- the fault is why the words, all of them, were not read as a table
abbrev pub ForbidsLastTable : List (List ℕ) → Fault → Type 0
ForbidsLastTable = AfterTable (λ _. LeavesWords)

-- the fault is why the words, all of them, were not read as two tables
abbrev pub ForbidsTables : List (List ℕ) → Fault → Type 0
ForbidsTables = AfterTable (λ _. ForbidsLastTable)

-- the fault is why the words, all of them, were not read as an axis and a table
abbrev pub ForbidsAxisAndTable : List (List ℕ) → Fault → Type 0
ForbidsAxisAndTable = AfterCount (λ _. ForbidsLastTable)

-- the fault is why the words were not read as a table, or they were, and the fault is that of what is computed
abbrev pub AfterLastTable : (Grid ℤ → Fault → Type 0) → List (List ℕ) → Fault → Type 0
AfterLastTable computes words fault = ForbidsLastTable words fault ⊎ ((table : Grid ℤ) × ReadsTable words [] table × computes table fault)

-- the fault is why the words were not read as two tables, or they were, and the fault is that of what is computed
abbrev pub AfterTables : (Grid ℤ → Grid ℤ → Fault → Type 0) → List (List ℕ) → Fault → Type 0
AfterTables computes words fault = ForbidsTables words fault ⊎ ((left : Grid ℤ) × (right : Grid ℤ) × ReadsTables words left right × computes left right fault)

-- the fault is why the words were not read as an axis and a table, or they were, and the fault is that of what is computed
abbrev pub AfterAxisAndTable : (ℕ → Grid ℤ → Fault → Type 0) → List (List ℕ) → Fault → Type 0
AfterAxisAndTable computes words fault = ForbidsAxisAndTable words fault ⊎ ((axis : ℕ) × (table : Grid ℤ) × ReadsAxisAndTable words axis table × computes axis table fault)

-- why the total of a table was not computed
abbrev pub ForbidsTotal : (List ℤ → Type 0) → List (List ℕ) → Fault → Type 0
ForbidsTotal in_range = AfterLastTable (λ table. ForbidsMaking ⊤ (in_range table.cells))

-- why the array of the sums of two tables was not computed
abbrev pub ForbidsAdd : List (List ℕ) → Fault → Type 0
ForbidsAdd = AfterTables ForbidsSums

-- why the valid convolution of a table with a kernel was not computed
abbrev pub ForbidsConv : List (List ℕ) → Fault → Type 0
ForbidsConv = AfterTables (λ table kernel. ForbidsMaking (ArePositive table.lengths kernel.lengths) (CanConvolve table kernel))

-- why the full convolution of two tables was not computed
abbrev pub ForbidsConvFull : List (List ℕ) → Fault → Type 0
ForbidsConvFull = AfterTables (λ left right. ForbidsMaking (AreVectors left right) (CanConvolveInFull left right))

-- why the array of the totals of the lanes along an axis was not computed
abbrev pub ForbidsTotals : (List ℤ → Type 0) → List (List ℕ) → Fault → Type 0
ForbidsTotals in_range = AfterAxisAndTable (λ axis table. ForbidsMaking (HasAxis table axis) (AreInRangeAlong in_range table axis))

-- why the difference of an order along an axis was not computed
abbrev pub ForbidsDiff : List (List ℕ) → Fault → Type 0
ForbidsDiff = AfterCount (λ order. AfterAxisAndTable (λ axis table. ForbidsDifferences table order axis))

-- why the product of two tables was not computed
abbrev pub ForbidsDot : List (List ℕ) → Fault → Type 0
ForbidsDot = AfterTables ForbidsProduct

-- why the running products along an axis were not computed
abbrev pub ForbidsCumprod : List (List ℕ) → Fault → Type 0
ForbidsCumprod = AfterAxisAndTable (λ axis table. ForbidsMaking (HasAxis table axis) (CanCumulateAlong table axis))
