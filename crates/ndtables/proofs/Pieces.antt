-- What the pieces of a word are, once all of them were seen.
use Rattle.std.proofs.Common.{ℕ, List, true, None, length, refl, ap}
use Rattle.std.specs.Prelude.{slice_get, Option}
use Rattle.std.specs.Option.{option_map}
use Rattle.std.specs.Iterator.{Yields}
use Rattle.std.specs.Iterator.Runs.{Run, Trigger, YieldsRun}
use Rattle.std.proofs.lemmas.Option.{slice_get-get_or}

module _ {S A : Type 0} (steps : S → Option A → S → Type 0) where
  pub trigger : (n : ℕ) → Trigger n
  unfolding Trigger
  trigger n = tt

  pub gave : (s u v : S) (xs : List A) → Yields steps s xs u → steps u None v → YieldsRun steps s xs true (slice_get xs)
  unfolding YieldsRun
  gave s u v xs y e = ((u, y, λ _. (v, e)), λ k. refl)

  -- the run of all items of an iterator
  abbrev pub whole_run : (s u v : S) (xs : List A) → Yields steps s xs u → steps u None v → Run steps
  whole_run s u v xs y e = record {
    from = s;
    items = xs;
    whole = true;
    len = length xs;
    at = slice_get xs;
    seen = trigger (length xs);
    long = refl;
    reads = λ k d lt. ap (option_map (λ z. z)) (slice_get-get_or xs k d lt);
    gave = gave s u v xs y e;
  }
