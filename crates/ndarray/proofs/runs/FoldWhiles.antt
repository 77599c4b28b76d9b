-- A run of a fold with stop, from turns that stop with what is done.
use Rattle.std.proofs.Common.{◌≡◌, ℕ, List, Result, Ok, Err, MatchResult, ◌∙◌, ap}
use Rattle.ndarray.specs.Runs.{TurnAt, StopsAt, EndsOrStops, GoTurn, FoldsWhile}
use Rattle.ndarray.specs.declared.zip.fold_while.FoldWhile.{FoldWhile}
use Rattle.ndarray.specs.declared.zip.fold_while.FoldWhile.TheVariants.{Continue, Done}
use Rattle.ndarray.proofs.runs.RunsThrough.{runs_via}

pub folds-while : {F A B : Type 0} (yields_at : List ℕ → A → Type 0) (call_gives : F → B → A → FoldWhile B → F → Type 0) (is : List (List ℕ)) (f : F) (init : B) (w : FoldWhile B) (r : Result (F × B) B)
    → EndsOrStops {P = F × B} (TurnAt yields_at (GoTurn call_gives)) (StopsAt yields_at (λ s x v. (h : F) × call_gives s.0 s.1 x (Done v) h)) (f, init) is r
    → MatchResult r (λ q. w ≡ Continue q.1) (λ v. w ≡ Done v) → FoldsWhile yields_at call_gives is f init w
folds-while {F} {A} {B} yields_at call_gives is f init w (Ok q) ran e =
    runs_via {P = F × B} (TurnAt yields_at (GoTurn call_gives)) (TurnAt yields_at (GoTurn call_gives)) (λ p. p) (λ p i p' t. t) _ _ _ _
    (λ p i s. let (v, never, more) = s in cc)
    (λ p same. let one : q ≡ p = cc in e ∙ ap (λ (s : F × B). Continue s.1) one) is (f, init) ran
folds-while {F} {A} {B} yields_at call_gives is f init w (Err last) ran e =
    runs_via {P = F × B} (TurnAt yields_at (GoTurn call_gives)) (TurnAt yields_at (GoTurn call_gives)) (λ p. p) (λ p i p' t. t) _ _ _ _
    (λ p i s. let (v, same, (x, stands, (h, call))) = s in let one : last ≡ v = cc in (x, stands, (v, h, e ∙ ap (λ b. Done b) one, call)))
    (λ p never. cc) is (f, init) ran
