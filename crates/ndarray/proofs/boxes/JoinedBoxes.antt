-- The box of two shapes in a row.
use Rattle.std.proofs.Common.{◌≡◌, ◌∙◌, ℕ, List, [], ◌∷◌, ◌++◌, ap, append-nil, drop, length, map, sym, take}
use Rattle.std.specs.List.{range_with_len}
use Rattle.std.specs.Prelude.{flat_map}
use Rattle.std.proofs.lemmas.List.{map-id}
use Rattle.std.proofs.lemmas.List.Folds.{flat_map-map}
use Rattle.std.proofs.lemmas.Simd.{map-map}
use Rattle.ndarray.specs.Index.{InBox, row_order}
use Rattle.ndarray.proofs.lists.FlatMaps.{flat_map-flat_map, flat_map-same, map-flat_map}

-- an index list, cut where the second shape begins
pub InBox-cut : (ns ms is : List ℕ) → InBox (ns ++ ms) is → InBox ns (take (length ns) is) × InBox ms (drop (length ns) is)
InBox-cut [] ms is b = (tt, b)
InBox-cut (n ∷ ns) ms [] b = absurd b
InBox-cut (n ∷ ns) ms (i ∷ is) b = let r = InBox-cut ns ms is b.1 in ((b.0, r.0), r.1)

-- in row order the second part of an index list varies fastest
pub row_order-append : (ns ms : List ℕ) → row_order (ns ++ ms) ≡ flat_map (λ js. map (λ ks. js ++ ks) (row_order ms)) (row_order ns)
unfolding row_order
row_order-append [] ms = sym (append-nil (map (λ ks. ks) (row_order ms)) ∙ map-id (row_order ms))
row_order-append (n ∷ ns) ms =
    let below = λ (js : List ℕ). map (λ ks. js ++ ks) (row_order ms) in
    flat_map-same (λ k. map (λ is. k ∷ is) (row_order (ns ++ ms))) (λ k. flat_map below (map (λ is. k ∷ is) (row_order ns)))
    (λ k.
    ap (map (λ is. k ∷ is)) (row_order-append ns ms)
    ∙ (map-flat_map (λ is. k ∷ is) below (row_order ns)
    ∙ (flat_map-same (λ js. map (λ is. k ∷ is) (below js)) (λ js. below (k ∷ js)) (λ js. map-map (λ is. k ∷ is) (λ ks. js ++ ks) (row_order ms)) (row_order ns)
    ∙ sym (flat_map-map below (λ is. k ∷ is) (row_order ns)))))
    (range_with_len 0 n)
    ∙ sym (flat_map-flat_map below (λ k. map (λ is. k ∷ is) (row_order ns)) (range_with_len 0 n))
