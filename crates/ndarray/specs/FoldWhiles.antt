-- What `FoldWhile` holds.
use Rattle.std.specs.Prelude.{⊤}
use Rattle.ndarray.specs.declared.zip.fold_while.FoldWhile.{FoldWhile}
use Rattle.ndarray.specs.declared.zip.fold_while.FoldWhile.TheVariants.{Continue, Done}

-- the value in it, of either kind
abbrev pub value_in : {T : Type 0} → FoldWhile T → T
value_in (Continue x) = x
value_in (Done x) = x

-- the fold ends here
abbrev pub IsDone : {T : Type 0} → FoldWhile T → Type 0
IsDone (Continue x) = ⊥
IsDone (Done x) = ⊤
