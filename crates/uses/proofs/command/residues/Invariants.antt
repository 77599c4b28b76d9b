-- These are the residues of the numbers so far.
use Rattle.ndarray.proofs.Common.{◌≡◌, map, take}
use Rattle.uses.specs.Inputs.{residue}
use Rattle.uses.proofs.command.residues.Given as goal

abbrev pub invariant-loop-number : goal.invariant-loop-number
invariant-loop-number l = l.residues.items ≡ map residue (take l.number-index l.numbers)
