-- When a run ends with a fault.
use Rattle.std.specs.Prelude.{◌≡◌, ◌⊎◌}
use Rattle.uses.specs.declared.fault.Fault.{Fault}
use Rattle.uses.specs.declared.fault.Fault.TheVariants.{Memory}

-- the fault is allocation failure, or what was asked for does not exist
abbrev pub IsFaultOf : {A : Type 0} → (A → Type 0) → Fault → Type 0
IsFaultOf {A} P fault = (fault ≡ Memory) ⊎ ((x : A) → P x → ⊥)
