-- By nested strides different index lists reach different places.
use Rattle.std.proofs.Common.{◌≡◌, ℕ, ◌+◌, ◌*◌, ◌%◌, ◌<◌, ◌^◌, List, length, refl, sym, ◌∙◌, ap, arith, Option}
use Rattle.ndarray.specs.Index.{InBox}
use Rattle.ndarray.specs.base.Places.{dot, place, Reaches}
use Rattle.ndarray.specs.base.Nested.{sum_over_axes, below_first, AreNested}
use Rattle.ndarray.proofs.boxes.Boxes.{InBox-some}
use Rattle.ndarray.proofs.strides.NestedLifts.{lift, lift-le, lift-apart}
use Rattle.ndarray.proofs.strides.ForwardAxes.{turned_list, turned_list-within, turned_list-again, turned_list-far}

-- places that are one modulo 2 ^ 64 lie equally far, where none lies 2 ^ 63 far
same_round : (start d e low x y p q : ℕ) → d + low ≡ x + 2 ^ 64 * p → e + low ≡ y + 2 ^ 64 * q → x < 2 ^ 63 → y < 2 ^ 63 → (start + d) % 2 ^ 64 ≡ (start + e) % 2 ^ 64 → x ≡ y
same_round start d e low x y p q ed ee lx ly same = omega arith

-- index lists of the box that reach one place are equal
pub nested-distinct : (ns : List ℕ) (start : ℕ) (bs is js : List ℕ) → length bs ≡ length ns → AreNested ns bs → InBox ns is → InBox ns js → place start bs is ≡ place start bs js → is ≡ js
unfolding place
nested-distinct ns start bs is js l h bi bj e =
    let wi = turned_list-within ns bs is bi in
    let wj = turned_list-within ns bs js bj in
    let si = turned_list-far ns bs is l bi in
    let sj = turned_list-far ns bs js l bj in
    let near = h.near in
    let li = lift-le ns bs (turned_list ns bs is) l wi in
    let lj = lift-le ns bs (turned_list ns bs js) l wj in
    let x = same_round start (dot bs is) (dot bs js) (sum_over_axes below_first ns bs) (lift (turned_list ns bs is) bs) (lift (turned_list ns bs js) bs) si.0 sj.0 si.1 sj.1 (omega (arith, near, li)) (omega (arith, near, lj)) e in
    let same = lift-apart (length ns) ns bs (turned_list ns bs is) (turned_list ns bs js) refl l h wi wj x in
    sym (turned_list-again ns bs is bi) ∙ (ap (turned_list ns bs) same ∙ turned_list-again ns bs js bj)

-- where an array's invariant has it that strides are nested, no two index lists of its box reach one element
pub Reaches-apart : {A one : Type 0} (at : ℕ → Option A) (ns : List ℕ) (start : ℕ) (bs : List ℕ) → Reaches one at ns start bs → one → (is js : List ℕ) → InBox ns is → InBox ns js → place start bs is ≡ place start bs js → is ≡ js
Reaches-apart at ns start bs h t is js bi bj = nested-distinct ns start bs is js h.as_many (h.nested t (InBox-some ns is bi)) bi bj
