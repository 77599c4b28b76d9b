-- Views of views.
use Rattle.std.proofs.Common.{◌≡◌, ℕ, ◌+◌, ◌*◌, ◌%◌, ◌^◌, List, [], ◌∷◌, ◌++◌, length, replicate, reverse, Option, refl, sym, ◌∙◌, ap, arith, subst}
use Rattle.std.specs.Prelude.{IsTrue}
use Rattle.std.specs.Option.{is_some}
use Rattle.std.proofs.lemmas.List.{length-reverse, reverse-reverse}
use Rattle.ndarray.specs.Index.{InBox}
use Rattle.ndarray.specs.Grid.{Grid, cell, tabulate}
use Rattle.ndarray.specs.base.Places.{dot, place, Reaches, grid_at, Rearranges}
use Rattle.ndarray.proofs.lists.Elements.{reverse-cons}
use Rattle.ndarray.proofs.boxes.Boxes.{InBox-length, InBox-reverse, InBox-some, InBox-zeros}
use Rattle.ndarray.proofs.strides.NestedMoves.{nested-reversed}
use Rattle.ndarray.proofs.boxes.Sizes.{nonzero-reverse}
use Rattle.ndarray.proofs.cells.Cells.{tabulate-is}
use Rattle.ndarray.proofs.strides.Reach.{length-cells_at, cell-at, grid_at-same, Reaches-same}

module _ {ns : List ℕ} {start : ℕ} {bs ns' : List ℕ} {start' : ℕ} {bs' : List ℕ} {f : List ℕ → List ℕ} {two : Type 0} (r : Rearranges two ns start bs ns' start' bs' f) where
  pub Reaches-rearranged : {one : Type 0} {A : Type 0} (at : ℕ → Option A) → (two → one) → Reaches one at ns start bs → Reaches two at ns' start' bs'
  Reaches-rearranged at to h = record {
    as_many = r.as_many;
    limit = r.limit;
    inside = λ js b. subst (λ p. IsTrue (is_some (at p))) (sym (r.same js b)) (h.inside (f js) (r.image js b));
    nested = λ t some. r.nested t (h.nested (to t) (InBox-some ns (f (replicate (length ns') 0)) (r.image (replicate (length ns') 0) (InBox-zeros ns' some))));
  }

  reached : {A one : Type 0} (at : ℕ → Option A) → Reaches one at ns start bs → Reaches ⊥ at ns' start' bs'
  reached at h = record {
    as_many = r.as_many;
    limit = r.limit;
    inside = λ is bi. subst (λ p. IsTrue (is_some (at p))) (sym (r.same is bi)) (h.inside (f is) (r.image is bi));
    nested = λ no. absurd no;
  }

  pub cell-rearranged : {A one : Type 0} (at : ℕ → Option A) → Reaches one at ns start bs → (js : List ℕ) → InBox ns' js → cell (grid_at at ns' start' bs') js ≡ cell (grid_at at ns start bs) (f js)
  cell-rearranged at h js b =
      cell-at at ns' start' bs' (reached at h) js b
      ∙ (ap (λ p. at p) (r.same js b) ∙ sym (cell-at at ns start bs h (f js) (r.image js b)))

  -- the same, of what a call has at hand
  pub cell-seen : {A one : Type 0} (at at' : ℕ → Option A) (g : Grid A) → ((p : ℕ) → at' p ≡ at p) → Reaches one at ns start bs → grid_at at ns start bs ≡ g → (js : List ℕ) → InBox ns' js → cell (grid_at at' ns' start' bs') js ≡ cell g (f js)
  cell-seen at at' g e h v js b =
      ap (λ y. cell y js) (grid_at-same at' at ns' start' bs' e) ∙ (cell-rearranged at h js b ∙ ap (λ y. cell y (f js)) v)

  -- the array that is seen, as the equation of its cells says
  pub grid-seen : {A one : Type 0} (at at' : ℕ → Option A) (g : Grid A) (lengths : List ℕ) → ((p : ℕ) → at' p ≡ at p) → Reaches one at ns start bs → grid_at at ns start bs ≡ g → ns' ≡ lengths → grid_at at' ns' start' bs' ≡ tabulate lengths (λ js. cell g (f js))
  grid-seen at at' g lengths e h v el =
      tabulate-is (grid_at at' ns' start' bs') lengths (λ js. cell g (f js)) (length-cells_at at' ns' start' bs' (Reaches-same {two = ⊥} at at' ns' start' bs' (λ no. absurd no) (λ p. sym (e p)) (reached at h))) el (cell-seen at at' g e h v)

dot-push : (bs is : List ℕ) (b i : ℕ) → length bs ≡ length is → dot (bs ++ b ∷ []) (is ++ i ∷ []) ≡ dot bs is + i * b
unfolding dot
dot-push [] [] b i l = omega arith
dot-push [] (j ∷ is) b i l = absurd (omega arith)
dot-push (c ∷ bs) [] b i l = absurd (omega arith)
dot-push (c ∷ bs) (j ∷ is) b i l = let h = dot-push bs is b i (omega arith) in omega arith

dot-reverse : (bs is : List ℕ) → length bs ≡ length is → dot (reverse bs) (reverse is) ≡ dot bs is
unfolding dot
dot-reverse [] [] l = refl
dot-reverse [] (j ∷ is) l = absurd (omega arith)
dot-reverse (c ∷ bs) [] l = absurd (omega arith)
dot-reverse (c ∷ bs) (j ∷ is) l =
    let h = dot-reverse bs is (omega arith) in
    let p = dot-push (reverse bs) (reverse is) c j (let a = length-reverse bs in let b = length-reverse is in omega arith) in
    rw (reverse-cons c bs, reverse-cons j is) (omega arith)

-- an index list lies where its reverse lies with the axes reversed
pub place-reversed : (start : ℕ) (bs is : List ℕ) → length bs ≡ length is → place start (reverse bs) (reverse is) ≡ place start bs is
unfolding place
place-reversed start bs is l = ap (λ x. (start + x) % 2 ^ 64) (dot-reverse bs is l)

pub rearranges-reversed : {A one : Type 0} (two : Type 0) (at : ℕ → Option A) (ns : List ℕ) (start : ℕ) (bs : List ℕ) → Reaches one at ns start bs → Rearranges two ns start bs (reverse ns) start (reverse bs) reverse
unfolding place
rearranges-reversed two at ns start bs h = record {
  as_many = let a = length-reverse bs in let b = length-reverse ns in let c = h.as_many in omega arith;
  limit = let e = nonzero-reverse ns in let l = h.limit in omega arith;
  image = λ js b. subst (λ ms. InBox ms (reverse js)) (reverse-reverse ns) (InBox-reverse (reverse ns) js b);
  same = λ js b.
      let l = InBox-length (reverse ns) js b in
      let a = length-reverse ns in
      let m = h.as_many in
      let lj = length-reverse js in
      let d = dot-reverse bs (reverse js) (omega arith) in
      ap (λ x. (start + x) % 2 ^ 64) (ap (dot (reverse bs)) (sym (reverse-reverse js)) ∙ d);
  nested = λ _. nested-reversed ns bs h.as_many;
}
