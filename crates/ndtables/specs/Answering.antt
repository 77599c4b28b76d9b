-- What the program prints for the words of a command, and why it does not.
use Rattle.std.specs.Prelude.{◌≡◌, ◌⊎◌, ⊤, ℕ, ℤ, List, [], ◌∷◌, codes}
use Rattle.ndarray.specs.Grid.{Grid}
use Rattle.ndarray.specs.Integers.{int_products, int_sums}
use Rattle.ndtables.specs.Faults.{ForbidsAdd, ForbidsConv, ForbidsConvFull, ForbidsCumprod, ForbidsDiff, ForbidsDot, ForbidsTotal, ForbidsTotals}
use Rattle.ndtables.specs.Printing.{HasForm, form_text}
use Rattle.ndtables.specs.Reading.{ComputesAdd, ComputesConv, ComputesConvFull, ComputesCumprod, ComputesDiff, ComputesDot, ComputesTotal, ComputesTotals}
use Rattle.ndtables.specs.Reducing.{ForbidsMaking, ProductsFit, SumsFit}
use Rattle.ndtables.specs.declared.command.Command.{Command}
use Rattle.ndtables.specs.declared.command.Command.TheVariants.{Add, Conv, ConvFull, Cumprod, Diff, Dot, Product, ProductAxis, Sum, SumAxis}
use Rattle.ndtables.specs.declared.fault.Fault.{Fault}
use Rattle.ndtables.specs.declared.fault.Fault.TheVariants.{Memory, Usage}
use Rattle.ndtables.specs.declared.printing.Form.{Form}
use Rattle.ndtables.specs.declared.printing.Form.TheVariants.{Plain}

-- the name of a command
abbrev pub name_of : Command → List ℕ
name_of Add = codes "add"
name_of Conv = codes "conv"
name_of ConvFull = codes "conv-full"
name_of Cumprod = codes "cumprod"
name_of Diff = codes "diff"
name_of Dot = codes "dot"
name_of Product = codes "product"
name_of ProductAxis = codes "product-axis"
name_of Sum = codes "sum"
name_of SumAxis = codes "sum-axis"

-- what the command computes of its arguments
abbrev pub Computes : Command → List (List ℕ) → Grid ℤ → Type 0
Computes Add = ComputesAdd
Computes Conv = ComputesConv
Computes ConvFull = ComputesConvFull
Computes Cumprod = ComputesCumprod
Computes Diff = ComputesDiff
Computes Dot = ComputesDot
Computes Product = ComputesTotal int_products ProductsFit
Computes ProductAxis = ComputesTotals int_products ProductsFit
Computes Sum = ComputesTotal int_sums SumsFit
Computes SumAxis = ComputesTotals int_sums SumsFit

-- the words are a command and its arguments, and the text is what it computes of them, printed in the form
pub record Answers (form : Form) (words : List (List ℕ)) (text : List ℕ) : Type 0 where
  pub command : Command
  pub arguments : List (List ℕ)
  pub result : Grid ℤ
  pub named : words ≡ name_of command ∷ arguments
  pub computed : Computes command arguments result
  pub shape : HasForm form result
  pub printed : text ≡ form_text form result

-- the fault is why the command computes nothing of its arguments
abbrev pub Forbids : Command → List (List ℕ) → Fault → Type 0
Forbids Add = ForbidsAdd
Forbids Conv = ForbidsConv
Forbids ConvFull = ForbidsConvFull
Forbids Cumprod = ForbidsCumprod
Forbids Diff = ForbidsDiff
Forbids Dot = ForbidsDot
Forbids Product = ForbidsTotal ProductsFit
Forbids ProductAxis = ForbidsTotals ProductsFit
Forbids Sum = ForbidsTotal SumsFit
Forbids SumAxis = ForbidsTotals SumsFit

-- the word is no command's name
abbrev pub NamesNoCommand : List ℕ → Type 0
NamesNoCommand word = (command : Command) → word ≡ name_of command → ⊥

-- the fault is why the command prints nothing for its arguments: it computes nothing of them, or the result has no such form, or allocation failure
abbrev pub ForbidsPrinting : Form → Command → List (List ℕ) → Fault → Type 0
ForbidsPrinting form command arguments fault = Forbids command arguments fault ⊎ ((result : Grid ℤ) × Computes command arguments result × ForbidsMaking (HasForm form result) ⊤ fault)

-- the fault is why words have no answer: there is no word, or the first is no command's name, or the fault is that of the command
abbrev pub ForbidsAnswer : Form → List (List ℕ) → Fault → Type 0
ForbidsAnswer form [] fault = fault ≡ Usage
ForbidsAnswer form (word ∷ arguments) fault = (NamesNoCommand word × (fault ≡ Usage)) ⊎ ((command : Command) × (word ≡ name_of command) × ForbidsPrinting form command arguments fault)

-- the fault is the first that the words have, as they are read from left to right and then computed with
abbrev pub IsFirstFault : List (List ℕ) → Fault → Type 0
IsFirstFault words fault = ForbidsAnswer Plain words fault × (fault ≡ Memory → ⊥)
