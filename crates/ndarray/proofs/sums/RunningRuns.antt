-- Lists of elements, added up one list after another.
use Rattle.std.proofs.Common.{◌≡◌, List, [], ◌∷◌, ◌++◌, map, refl, sym, ap, ◌∙◌, subst}
use Rattle.std.specs.Prelude.{IsPermutation}
use Rattle.std.proofs.lemmas.List.{map-append}
use Rattle.std.proofs.lemmas.List.Sorted.{IsPermutation-map}
use Rattle.ndarray.specs.Algebra.{CommutativeMonoid}
use Rattle.ndarray.specs.order.Rows.{joined}
use Rattle.ndarray.specs.Sums.{IsSummableBy, total_by}
use Rattle.ndarray.proofs.sums.Rearrangements.{IsSummable-rearranged, total-rearranged}
use Rattle.ndarray.proofs.sums.RunningSum.{RunningSum, RunningSum-end, RunningSum-front, RunningSum-run, RunningSum-start}
use Rattle.ndarray.proofs.sums.Selections.{IsSummableBy-map, total_by-map}

module _ {A C : Type 0} (M : CommutativeMonoid C) (P : C → Type 0) (v : A → C) (whole : List A) where
  -- sum is what the elements before those of runs add up to, and these can be added to it
  pub record RunningRuns (runs : List (List A)) (sum : C) : Type 0 where
    pub running : RunningSum M P (map v whole) (map v (joined runs)) sum

  pub runs-start : (runs : List (List A)) (sum : C) → IsPermutation whole (joined runs) → sum ≡ M.unit → IsSummableBy M P v whole → RunningRuns runs sum
  runs-start runs sum moved none h =
      let e = IsPermutation-map v whole (joined runs) moved in
      let s = IsSummable-rearranged M P (map v whole) (map v (joined runs)) e ((IsSummableBy-map M v P whole).0 h) in
      let here = RunningSum-start M P (map v (joined runs)) (map v (joined runs)) sum refl none s in
      record { running = record { summable = here.summable; same = here.same ∙ total-rearranged M (map v whole) (map v (joined runs)) e } }

  pub runs-end : (runs : List (List A)) (sum : C) → runs ≡ [] → RunningRuns runs sum → sum ≡ total_by M v whole
  runs-end runs sum none h =
      RunningSum-end M P (map v whole) (map v (joined runs)) sum (ap (λ rs. map v (joined rs)) none) h.running ∙ sym (total_by-map M v whole)

  -- the next list is run
  module _ (runs rest : List (List A)) (run : List A) (sum : C) (next : runs ≡ run ∷ rest) (h : RunningRuns runs sum) where
    here : RunningSum M P (map v whole) (map v run ++ map v (joined rest)) sum
    here = subst (λ l. RunningSum M P (map v whole) l sum) (ap (λ rs. map v (joined rs)) next ∙ map-append v run (joined rest)) h.running

    pub run-summable : IsSummableBy M P v run
    run-summable = (IsSummableBy-map M v P run).1 (RunningSum-front M P (map v whole) (map v (joined rest)) (map v run) sum here)

    module _ (more : C) (total : more ≡ total_by M v run) where
      added : P (M.op sum more) × RunningSum M P (map v whole) (map v (joined rest)) (M.op sum more)
      added =
          let e = ap (M.op sum) (sym (total ∙ total_by-map M v run)) in
          let w = RunningSum-run M P (map v whole) (map v (joined rest)) (map v run) sum here in
          (subst P e w.0, subst (RunningSum M P (map v whole) (map v (joined rest))) e w.1)

      pub run-in_range : P (M.op sum more)
      run-in_range = added.0

      pub run-next : (new : C) → new ≡ M.op sum more → RunningRuns rest new
      run-next new e = record { running = subst (RunningSum M P (map v whole) (map v (joined rest))) (sym e) added.1 }
