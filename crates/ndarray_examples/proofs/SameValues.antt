-- Arrays of numbers that have the same lengths and the same values are equal; and an array without its first item along an axis is whole.
use Rattle.std.proofs.Common.{set}
use Rattle.std.proofs.lemmas.List.{get_or-set_same, length-set, set-get_or, set-set}
use Rattle.ndarray.proofs.Common.{◌≡◌, ◌∙◌, ◌+◌, ◌-◌, ◌<◌, ℕ, Some, ap, arith, get_or, length, subst, sym, Grid, IsGrid, InBox, axis_part, cell, cell-Some, InBox-get, InBox-set_both, same_grid, tabulate-whole}
use Rattle.ndarray.specs.Algebra.{CommutativeMonoid}
use Rattle.ndarray.specs.ScanLaws.{HaveSameValues}

-- of an array w that is g
pub same-arrays : {C : Type 0} (M : CommutativeMonoid C) (w g h : Grid C) → w ≡ g → IsGrid w → IsGrid h → HaveSameValues M (λ x. x) g h → w ≡ h
same-arrays M w g h is_g left right same =
    let lengths = ap (λ v. v.lengths) is_g ∙ same.lengths in
    same_grid w h left right lengths
    (λ is b.
    let (x, at) = cell-Some w left is b in
    let (y, there) = cell-Some h right is (subst (λ ns. InBox ns is) lengths b) in
    at ∙ (ap Some (same.values is x y (sym (ap (λ v. cell v is) is_g) ∙ at) there) ∙ sym there))

pub rest-whole : {A : Type 0} (g : Grid A) (k : ℕ) → IsGrid g → k < length g.lengths → IsGrid (axis_part g k 1 (get_or g.lengths k 0))
rest-whole g k whole lt =
    let n : ℕ = get_or g.lengths k 0 in
    tabulate-whole (set g.lengths k (n - 1)) (λ is. cell g (set is k (1 + get_or is k 0)))
    (λ is b.
    let many = length-set g.lengths k (n - 1) in
    let below = InBox-get (set g.lengths k (n - 1)) is k b (omega (arith, many, lt)) in
    let room = get_or-set_same g.lengths k (n - 1) 0 lt in
    let back = set-set g.lengths k (n - 1) n ∙ set-get_or g.lengths k 0 in
    cell-Some g whole (set is k (1 + get_or is k 0))
    (subst (λ ns. InBox ns (set is k (1 + get_or is k 0))) back (InBox-set_both (set g.lengths k (n - 1)) is k n (1 + get_or is k 0) b (omega (arith, below, room)))))
