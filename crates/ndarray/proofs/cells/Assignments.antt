-- The index lists at which cells are written one after another: each lies in the box, and none comes twice.
use Rattle.std.proofs.Common.{◌≡◌, ◌≢◌, ℕ, ◌<◌, List, [], ◌∷◌, ◌++◌, length, get_or, sym, subst, ap, ◌∙◌, arith, length-append}
use Rattle.std.specs.Prelude.{All}
use Rattle.std.proofs.Math.Seq.{get_or-append_seam}
use Rattle.std.proofs.lemmas.List.{get_or_append_left, get_or_default}
use Rattle.ndarray.specs.Index.{InBox}
use Rattle.ndarray.specs.Orders.{box_in}
use Rattle.ndarray.specs.declared.base.shape.Order.{Order}
use Rattle.ndarray.proofs.boxes.Orders.{box_in-within, box_in-back, length-box_in}

-- an index list of a box in an order is in the box, and none before it is the same
module _ (o : Order) (ns : List ℕ) (done : List (List ℕ)) (i : List ℕ) (rest : List (List ℕ)) (parts : done ++ (i ∷ rest) ≡ box_in o ns) where
  here-lt : length done < length (box_in o ns)
  here-lt = let e = ap (length {A = List ℕ}) parts in let a = length-append done (i ∷ rest) in omega arith

  here-is : get_or (box_in o ns) (length done) [] ≡ i
  here-is = ap (λ l. get_or l (length done) []) (sym parts) ∙ get_or-append_seam done i rest []

  pub here-within : InBox ns i
  here-within = subst (InBox ns) here-is (box_in-within o ns (length done) [] here-lt)

  pub here-first : All (λ js. js ≢ i) done
  here-first k d lt e =
      let l = here-lt in
      let n = length-box_in o ns in
      let a : get_or (box_in o ns) k [] ≡ get_or done k d = ap (λ l. get_or l k []) (sym parts) ∙ (get_or_append_left done (i ∷ rest) [] k lt ∙ get_or_default done k [] d lt) in
      let b = (box_in-back o ns k (omega arith)).1 in
      let c = (box_in-back o ns (length done) (omega arith)).1 in
      let same : get_or (box_in o ns) k [] ≡ get_or (box_in o ns) (length done) [] = a ∙ (e ∙ sym here-is) in
      let z : k ≡ length done = cc in
      omega arith
