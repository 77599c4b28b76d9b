use Rattle.std.proofs.Common.{◌≡◌, ◌∙◌, ℕ, List, Some, Bor, ap, sym}
use Rattle.ndarray.specs.Grid.{Grid, cell}
use Rattle.ndarray.specs.Calls.{call_gives_by_ref2}
use Rattle.ndarray.specs.Updates.{is_cell_beside, is_pair_of_cells}
use Rattle.ndarray.specs.Views.{broadcast_to}
use Rattle.ndarray.proofs.runs.RunsThrough.{MayUpdate-via, UpdatesUntil-via}
use Rattle.ndarray.proofs.base.array.ArrayBase.try_zip_assign.Goals as goal

-- a reference to a cell of a broadcast view is at that cell
pair-of : {A B : Type 0} (g : Grid A) (h v r : Grid B) (ms : List ℕ) → r ≡ broadcast_to v ms → v ≡ h → ms ≡ g.lengths
    → (i : List ℕ) (x : A × Bor B) → is_cell_beside g (λ j y. cell r j ≡ Some y.now) i x → is_pair_of_cells g h i (x.0, x.1.now)
pair-of g h v r ms seen same lengths i x s = (s.0, ap (λ w. cell w i) (sym (seen ∙ (ap (λ w. broadcast_to w ms) same ∙ ap (broadcast_to h) lengths))) ∙ s.1)

pub try_update_beside-requires-clause-callable : goal.try_update_beside-requires-clause-callable
try_update_beside-requires-clause-callable g c = λ o.
    let pair = pair-of c.args.self.now c.args.rhs.now _ _ _ c.into_broadcast-rhs.ensures.seen c.view.ensures.same c.raw_dim.ensures.lengths in
    let gives = call_gives_by_ref2 g.F.FnMut in
    MayUpdate-via _ _ (λ f x r h. gives f.0 (x.0, x.1.now) r h.0) gives (λ f. f.0) (λ x. (x.0, x.1.now)) pair (λ f x r h t. t) _ _ _ (λ f x h. h) _ (c.requires.callable o)

pub returns-clause-ran : goal.returns-clause-ran
returns-clause-ran g c =
    let (o, ran) = c.try_update_beside.ensures.ran in
    let pair = pair-of c.args.self.now c.args.rhs.now _ _ _ c.into_broadcast-rhs.ensures.seen c.view.ensures.same c.raw_dim.ensures.lengths in
    (o, UpdatesUntil-via _ _ _ _ (λ f. f.0) (λ x. (x.0, x.1.now)) pair (λ f x r h t. t) _ o _ _ _ ran)
