-- `map_collect` over an array of views, as over windows or lanes: what a closure makes of each view.
use Rattle.std.proofs.Common.{◌≡◌, ◌∙◌, ℕ, List, Some, ap, subst, sym}
use Rattle.std.specs.Prelude.{⊤}
use Rattle.ndarray.specs.Grid.{Grid, array_by, cell}
use Rattle.ndarray.specs.Index.{InBox}
use Rattle.ndarray.specs.Orders.{box_in}
use Rattle.ndarray.specs.Runs.{MayGather}
use Rattle.ndarray.specs.declared.base.shape.Order.{Order}
use Rattle.ndarray.proofs.callers.Collecting.{array_by-at, may-gather}

-- where P holds of each view, and the closure f returns h of a view of which P holds, it computes h of the view at each index list, as clauses `follows` ask
pub views-compute-where : {F A R : Type 0} {gives : A → R → F → Type 0} {f : F} {views : Grid A} (ns : List ℕ) (view : List ℕ → A) → views ≡ array_by ns view → (P : A → Type 0) → ((i : List ℕ) → InBox ns i → P (view i))
    → (h : A → R) → ((x : A) (r : R) (k : F) → P x → gives x r k → (k ≡ f) × (r ≡ h x)) → (i : List ℕ) (x : A) (r : R) (k : F) → InBox ns i → cell views i ≡ Some x → gives x r k → (k ≡ f) × (r ≡ h (view i))
views-compute-where {views = views} ns view are P holds h each i x r k inside shown call =
    let at : x ≡ view i = array_by-at ns view views i x are (subst (λ v. InBox v.lengths i) (sym are) inside) shown in
    let done = each x r k (subst P (sym at) (holds i inside)) call in
    (done.0, done.1 ∙ ap h at)

-- where it returns h of any view
pub views-compute : {F A R : Type 0} {gives : A → R → F → Type 0} {f : F} {views : Grid A} (ns : List ℕ) (view : List ℕ → A) → views ≡ array_by ns view → (h : A → R) → ((x : A) (r : R) (k : F) → gives x r k → (k ≡ f) × (r ≡ h x))
    → (i : List ℕ) (x : A) (r : R) (k : F) → InBox ns i → cell views i ≡ Some x → gives x r k → (k ≡ f) × (r ≡ h (view i))
views-compute {gives = gives} {f = f} {views = views} ns view are h each = views-compute-where {gives = gives} {f = f} {views = views} ns view are (λ _. ⊤) (λ _ _. tt) h (λ x r k _. each x r k)

module _ {F A R : Type 0} (call_gives : F → A → R → F → Type 0) (f : F) (views : Grid A) (ns : List ℕ) (view : List ℕ → A) (are : views ≡ array_by ns view) where
  -- the closure may be called at each view
  pub views-gather : (can_call : F → A → Type 0) → ((x : A) (r : R) (k : F) → call_gives f x r k → k ≡ f) → ((i : List ℕ) → InBox ns i → can_call f (view i))
      → (o : Order) → MayGather (λ i x. cell views i ≡ Some x) call_gives can_call (box_in o views.lengths) f
  views-gather can_call stays may o =
      may-gather (λ i x. cell views i ≡ Some x) call_gives f views.lengths (λ i x r k shown call. stays x r k call) can_call o
      (λ i x inside shown. subst (can_call f) (sym (array_by-at ns view views i x are inside shown)) (may i (subst (λ v. InBox v.lengths i) are inside)))
