-- The pages that are printed in place of a result: help, and the version.
use Rattle.std.specs.Prelude.{◌≡◌, ◌⊎◌, ℕ, List, [], ◌∷◌, codes}
use Rattle.ndtables.specs.Answering.{name_of}
use Rattle.ndtables.specs.declared.command.Command.{Command}
use Rattle.ndtables.specs.declared.command.Command.TheVariants.{Add, Conv, ConvFull, Cumprod, Diff, Dot, Product, ProductAxis, Sum, SumAxis}
use Rattle.ndtables.specs.declared.help.Page.{Page}
use Rattle.ndtables.specs.declared.help.Page.TheVariants.{Help, Of, Version}
use Rattle.ndtables.specs.declared.help.TheConstants.{ADD, CONV, CONV_FULL, CUMPROD, DIFF, DOT, HELP, PRODUCT, PRODUCT_AXIS, SUM, SUM_AXIS, VERSION}

-- the words ask for the page: `help` or `--help`, `help` and a command, or `--version`
abbrev pub AsksPage : List (List ℕ) → Page → Type 0
AsksPage words Help = (words ≡ codes "help" ∷ []) ⊎ (words ≡ codes "--help" ∷ [])
AsksPage words (Of command) = words ≡ codes "help" ∷ name_of command ∷ []
AsksPage words Version = words ≡ codes "--version" ∷ []

-- what is said of a command
abbrev pub command_text : Command → List ℕ
command_text Add = ADD.now
command_text Conv = CONV.now
command_text ConvFull = CONV_FULL.now
command_text Cumprod = CUMPROD.now
command_text Diff = DIFF.now
command_text Dot = DOT.now
command_text Product = PRODUCT.now
command_text ProductAxis = PRODUCT_AXIS.now
command_text Sum = SUM.now
command_text SumAxis = SUM_AXIS.now

-- the text of a page
abbrev pub page_text : Page → List ℕ
page_text Help = HELP.now
page_text (Of command) = command_text command
page_text Version = VERSION.now
