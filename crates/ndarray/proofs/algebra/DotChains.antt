-- Products of three arrays of any number of axes.
use Rattle.std.proofs.Common.{◌≡◌, ◌∙◌, ◌-◌, ◌<◌, ◌≤◌, ◌⊎◌, ℕ, zero, suc, List, [], ◌∷◌, ◌++◌, ap, append-nil, append_assoc, arith, drop, get_or, inl, inr, insert, length, length-append, map, refl, remove, subst, sym, take, take-append-drop}
use Rattle.std.proofs.lemmas.List.{length-drop, length-take-le, nil_from_length}
use Rattle.std.proofs.Math.Seq.{drop-append_seam, take-append_seam}
use Rattle.ndarray.specs.DotLaws.{DotAssociates, DotsAssociate}
use Rattle.ndarray.specs.Grid.{Grid, IsGrid}
use Rattle.ndarray.specs.Index.{InBox}
use Rattle.ndarray.specs.Matrices.{Matrix, values_below}
use Rattle.ndarray.specs.MatrixLaws.{ProductsAssociate}
use Rattle.ndarray.specs.Products.{HasValues, dot_entries, product_lengths, products_of, value_at, value_or}
use Rattle.ndarray.specs.Subviews.{lane}
use Rattle.ndarray.specs.Sums.{total}
use Rattle.ndarray.specs.declared.elements.Valued.{Ghosts as ValuedGhosts}
use Rattle.ndarray.proofs.cells.LaneSums.{lane-values}
use Rattle.ndarray.proofs.boxes.Boxes.{InBox-length}
use Rattle.ndarray.proofs.boxes.JoinedBoxes.{InBox-cut}
use Rattle.ndarray.proofs.cells.Cells.{cell-Some}
use Rattle.ndarray.proofs.cells.Matrices.{below-same}
use Rattle.ndarray.proofs.sums.InnerSums.{lists-meet}

-- ---- lists with an element in the middle

remove-middle : (us ws : List ℕ) (n : ℕ) → remove (us ++ n ∷ ws) (length us) ≡ us ++ ws
remove-middle [] ws n = refl
remove-middle (u ∷ us) ws n = ap (λ l. u ∷ l) (remove-middle us ws n)

insert-middle : (us ws : List ℕ) (n : ℕ) → insert (us ++ ws) (length us) n ≡ us ++ n ∷ ws
insert-middle [] ws n = refl
insert-middle (u ∷ us) ws n = ap (λ l. u ∷ l) (insert-middle us ws n)

get-middle : (us ws : List ℕ) (n : ℕ) → get_or (us ++ n ∷ ws) (length us) 0 ≡ n
get-middle [] ws n = refl
get-middle (u ∷ us) ws n = get-middle us ws n

-- index lists in a row are in the box of the shapes in a row
InBox-joined : (ns ms is js : List ℕ) → InBox ns is → InBox ms js → InBox (ns ++ ms) (is ++ js)
InBox-joined [] ms [] js b c = c
InBox-joined [] ms (i ∷ is) js b c = absurd b
InBox-joined (n ∷ ns) ms [] js b c = absurd b
InBox-joined (n ∷ ns) ms (i ∷ is) js b c = (b.0, InBox-joined ns ms is js b.1 c)

-- a list of some axes, cut before its last
cut-at : (ns : List ℕ) (k : ℕ) → length ns ≡ suc k → ns ≡ take k ns ++ get_or ns k 0 ∷ []
cut-at [] k e = absurd (omega (arith, e))
cut-at (n ∷ []) zero e = refl
cut-at (n ∷ m ∷ ns) zero e = absurd (omega (arith, e))
cut-at (n ∷ ns) (suc k) e = ap (λ l. n ∷ l) (cut-at ns k (omega (arith, e)))

last-cut : (ns : List ℕ) → 1 ≤ length ns → ns ≡ take (length ns - 1) ns ++ get_or ns (length ns - 1) 0 ∷ []
last-cut ns some = cut-at ns (length ns - 1) (omega (arith, some))

-- and before its last but one
cut_two-at : (ns : List ℕ) (k : ℕ) → length ns ≡ suc (suc k) → ns ≡ take k ns ++ get_or ns k 0 ∷ get_or ns (suc k) 0 ∷ []
cut_two-at [] k e = absurd (omega (arith, e))
cut_two-at (n ∷ []) k e = absurd (omega (arith, e))
cut_two-at (n ∷ m ∷ []) zero e = refl
cut_two-at (n ∷ m ∷ i ∷ ns) zero e = absurd (omega (arith, e))
cut_two-at (n ∷ m ∷ ns) (suc k) e = ap (λ l. n ∷ l) (cut_two-at (m ∷ ns) k (omega (arith, e)))

last_two-cut : (ns : List ℕ) → 2 ≤ length ns → ns ≡ take (length ns - 2) ns ++ get_or ns (length ns - 2) 0 ∷ get_or ns (length ns - 1) 0 ∷ []
last_two-cut ns two =
    let next : suc (length ns - 2) ≡ length ns - 1 = omega (arith, two) in
    cut_two-at ns (length ns - 2) (omega (arith, two)) ∙ ap (λ k. take (length ns - 2) ns ++ get_or ns (length ns - 2) 0 ∷ get_or ns k 0 ∷ []) next

last-place : (ns us : List ℕ) (n : ℕ) → ns ≡ us ++ n ∷ [] → length ns - 1 ≡ length us
last-place ns us n e = let all = length-append us (n ∷ []) in let many = ap length e in omega (arith, all, many)

-- the lengths of a product
product-is : (ns ms us vs ws : List ℕ) (n m : ℕ) → ns ≡ us ++ n ∷ [] → ms ≡ vs ++ m ∷ ws → length ms - 2 ≡ length vs → product_lengths ns ms ≡ us ++ (vs ++ ws)
product-is ns ms us vs ws n m left right meets =
    ap (λ k. remove ns k ++ remove ms (length ms - 2)) (last-place ns us n left)
    ∙ (ap (λ k. remove ns (length us) ++ remove ms k) meets
    ∙ (ap (λ ks. remove ks (length us) ++ remove ms (length vs)) left
    ∙ (ap (λ ks. remove (us ++ n ∷ []) (length us) ++ remove ks (length vs)) right
    ∙ (ap (λ l. l ++ remove (vs ++ m ∷ ws) (length vs)) (remove-middle us [] n ∙ append-nil us)
    ∙ ap (λ l. us ++ l) (remove-middle vs ws m)))))

-- with two axes or more on the right, the last is that of the right
pub product-last : (ns ms : List ℕ) → 1 ≤ length ns → 2 ≤ length ms → get_or (product_lengths ns ms) (length (product_lengths ns ms) - 1) 0 ≡ get_or ms (length ms - 1) 0
product-last ns ms some two =
    let us : List ℕ = take (length ns - 1) ns in
    let vs : List ℕ = take (length ms - 2) ms in
    let m : ℕ = get_or ms (length ms - 1) 0 in
    let few : length ms - 2 ≡ length vs = (let l = length-take-le (length ms - 2) ms (omega arith) in omega (arith, l)) in
    let is : product_lengths ns ms ≡ (us ++ vs) ++ m ∷ [] = product-is ns ms us vs (m ∷ []) (get_or ns (length ns - 1) 0) (get_or ms (length ms - 2) 0) (last-cut ns some) (last_two-cut ms two) few ∙ sym (append_assoc us vs (m ∷ [])) in
    ap (λ k. get_or (product_lengths ns ms) k 0) (last-place (product_lengths ns ms) (us ++ vs) m is)
    ∙ (ap (λ ks. get_or ks (length (us ++ vs)) 0) is ∙ get-middle (us ++ vs) [] m)

-- ---- sums along the axis that meets

module _ {A : Type 0} (e : ValuedGhosts A) where
  -- the values along a lane of an array of lengths us, n and ws, at an index list of the other axes
  along-lane : (g : Grid A) → IsGrid g → (us ws : List ℕ) (n : ℕ) → g.lengths ≡ us ++ n ∷ ws → (u w : List ℕ) → InBox us u → InBox ws w
      → map e.meaning (lane g (length u) (u ++ w)).cells ≡ values_below n (λ x. value_at e g (u ++ x ∷ w))
  along-lane g whole us ws n lengths u w in_us in_ws =
      let long = InBox-length us u in_us in
      let all = length-append us (n ∷ ws) in
      let many = ap length lengths in
      let others : remove g.lengths (length u) ≡ us ++ ws = ap (λ ns. remove ns (length u)) lengths ∙ (ap (remove (us ++ n ∷ ws)) long ∙ remove-middle us ws n) in
      let own : get_or g.lengths (length u) 0 ≡ n = ap (λ ns. get_or ns (length u) 0) lengths ∙ (ap (λ k. get_or (us ++ n ∷ ws) k 0) long ∙ get-middle us ws n) in
      lane-values e.meaning e.addition.unit g whole (length u) (omega (arith, long, all, many)) (u ++ w) (subst (λ ns. InBox ns (u ++ w)) (sym others) (InBox-joined us ws u w in_us in_ws))
      ∙ (ap (λ m. values_below m (λ x. value_at e g (insert (u ++ w) (length u) x))) own
      ∙ below-same n _ _ (λ x lt. ap (value_at e g) (insert-middle u w x)))

  module _ (g h : Grid A) (whole : IsGrid g) (whole_too : IsGrid h) (us vs ws : List ℕ) (n : ℕ) (left : g.lengths ≡ us ++ n ∷ []) (right : h.lengths ≡ vs ++ n ∷ ws) (meets : length h.lengths - 2 ≡ length vs) where
    last : length g.lengths - 1 ≡ length us
    last = last-place g.lengths us n left

    lengths-are : product_lengths g.lengths h.lengths ≡ us ++ (vs ++ ws)
    lengths-are = product-is g.lengths h.lengths us vs ws n n left right meets

    -- the product at an index list
    dot-sum : (u v w : List ℕ) → InBox us u → InBox vs v → InBox ws w
        → dot_entries e g h (u ++ (v ++ w)) ≡ total e.addition (values_below n (λ x. e.multiplication.op (value_at e g (u ++ x ∷ [])) (value_at e h (v ++ x ∷ w))))
    dot-sum u v w in_us in_vs in_ws =
        let first : length g.lengths - 1 ≡ length u = last ∙ sym (InBox-length us u in_us) in
        let second : length h.lengths - 2 ≡ length v = meets ∙ sym (InBox-length vs v in_vs) in
        let times = products_of e.multiplication e.meaning in
        let of_left : map e.meaning (lane g (length u) u).cells ≡ values_below n (λ x. value_at e g (u ++ x ∷ [])) =
        ap (λ js. map e.meaning (lane g (length u) js).cells) (sym (append-nil u)) ∙ along-lane g whole us [] n left u [] in_us tt in
        let of_right = along-lane h whole_too vs ws n right v w in_vs in_ws in
        ap (total e.addition)
        (ap (λ k. times (lane g k (take k (u ++ (v ++ w)))).cells (lane h (length h.lengths - 2) (drop k (u ++ (v ++ w)))).cells) first
        ∙ (ap (λ js. times (lane g (length u) js).cells (lane h (length h.lengths - 2) (drop (length u) (u ++ (v ++ w)))).cells) (take-append_seam u (v ++ w))
        ∙ (ap (λ js. times (lane g (length u) u).cells (lane h (length h.lengths - 2) js).cells) (drop-append_seam u (v ++ w))
        ∙ (ap (λ k. times (lane g (length u) u).cells (lane h k (v ++ w)).cells) second
        ∙ (lists-meet e.multiplication e.meaning (lane g (length u) u).cells (lane h (length v) (v ++ w)).cells n n _ _ of_left of_right refl).0))))

    -- and the value of an array that has the product
    made-sum : (r : Grid A) → HasValues e (product_lengths g.lengths h.lengths) (dot_entries e g h) r → (u v w : List ℕ) → InBox us u → InBox vs v → InBox ws w
        → value_at e r (u ++ (v ++ w)) ≡ total e.addition (values_below n (λ x. e.multiplication.op (value_at e g (u ++ x ∷ [])) (value_at e h (v ++ x ∷ w))))
    made-sum r made u v w in_us in_vs in_ws =
        let inside : InBox r.lengths (u ++ (v ++ w)) = subst (λ ns. InBox ns (u ++ (v ++ w))) (sym (made.lengths ∙ lengths-are)) (InBox-joined us (vs ++ ws) u (v ++ w) in_us (InBox-joined vs ws v w in_vs in_ws)) in
        let (z, here) = cell-Some r made.whole (u ++ (v ++ w)) inside in
        ap (λ o. value_or e.meaning e.addition.unit o) here ∙ (made.cells (u ++ (v ++ w)) z here ∙ dot-sum u v w in_us in_vs in_ws)

  -- ---- three arrays, of lengths us and n, vs and n and m, and m and ws
  module _ (associates : ProductsAssociate e.addition e.multiplication) (a b c p q : Grid A) (whole_a : IsGrid a) (whole_b : IsGrid b) (whole_c : IsGrid c) (us vs ws : List ℕ) (n m : ℕ)
      (of_a : a.lengths ≡ us ++ n ∷ []) (of_b : b.lengths ≡ vs ++ n ∷ m ∷ []) (of_c : c.lengths ≡ m ∷ ws) (axes : (length ws ≡ 1) ⊎ ((vs ≡ []) × (ws ≡ [])))
      (left : HasValues e (product_lengths a.lengths b.lengths) (dot_entries e a b) p) (right : HasValues e (product_lengths b.lengths c.lengths) (dot_entries e b c) q) where
    meets-ab : length b.lengths - 2 ≡ length vs
    meets-ab = let all = length-append vs (n ∷ m ∷ []) in let many = ap length of_b in omega (arith, all, many)

    meets-c : length c.lengths - 2 ≡ 0
    meets-c = elim axes [
      | inl one ↦ (let many = ap length of_c in omega (arith, many, one))
      | inr none ↦ (let many = ap length of_c in let zero = ap length none.1 in omega (arith, many, zero))
    ]

    of_b-cut : b.lengths ≡ (vs ++ n ∷ []) ++ m ∷ []
    of_b-cut = of_b ∙ sym (append_assoc vs (n ∷ []) (m ∷ []))

    of_p : p.lengths ≡ (us ++ vs) ++ m ∷ []
    of_p = left.lengths ∙ (lengths-are a b whole_a whole_b us vs (m ∷ []) n of_a of_b meets-ab ∙ sym (append_assoc us vs (m ∷ [])))

    of_q : q.lengths ≡ vs ++ n ∷ ws
    of_q = right.lengths ∙ (lengths-are b c whole_b whole_c (vs ++ n ∷ []) [] ws m of_b-cut of_c meets-c ∙ append_assoc vs (n ∷ []) ws)

    meets-q : length q.lengths - 2 ≡ length vs
    meets-q =
        let all = length-append vs (n ∷ ws) in
        let many = ap length of_q in
        elim axes [
          | inl one ↦ omega (arith, all, many, one)
          | inr none ↦ (let no_vs = ap length none.0 in let no_ws = ap length none.1 in omega (arith, all, many, no_vs, no_ws))
        ]

    same-lengths : product_lengths p.lengths c.lengths ≡ product_lengths a.lengths q.lengths
    same-lengths =
        lengths-are p c left.whole whole_c (us ++ vs) [] ws m of_p of_c meets-c
        ∙ (append_assoc us vs ws ∙ sym (lengths-are a q whole_a right.whole us vs ws n of_a of_q meets-q))

    same-entry : (u v w : List ℕ) → InBox us u → InBox vs v → InBox ws w → dot_entries e p c (u ++ (v ++ w)) ≡ dot_entries e a q (u ++ (v ++ w))
    same-entry u v w in_us in_vs in_ws =
        ap (dot_entries e p c) (sym (append_assoc u v w))
        ∙ (dot-sum p c left.whole whole_c (us ++ vs) [] ws m of_p of_c meets-c (u ++ v) [] w (InBox-joined us vs u v in_us in_vs) tt in_ws
        ∙ (ap (total e.addition) (below-same m _ _ (λ z lt. ap (λ s. e.multiplication.op s (value_at e c (z ∷ w))) (of_left z lt)))
        ∙ ((associates row block column refl refl).cell 0 0 (omega arith) (omega arith)
        ∙ (ap (total e.addition) (below-same n _ _ (λ x lt. ap (e.multiplication.op (value_at e a (u ++ x ∷ []))) (sym (of_right x lt))))
        ∙ sym (dot-sum a q whole_a right.whole us vs ws n of_a of_q meets-q u v w in_us in_vs in_ws)))))
      where
        row : Matrix e.Carrier
        row = record { rows = 1; columns = n; cell = λ i x. value_at e a (u ++ x ∷ []) }

        block : Matrix e.Carrier
        block = record { rows = n; columns = m; cell = λ x z. value_at e b (v ++ x ∷ z ∷ []) }

        column : Matrix e.Carrier
        column = record { rows = m; columns = 1; cell = λ z j. value_at e c (z ∷ w) }

        of_left : (z : ℕ) → z < m → value_at e p ((u ++ v) ++ z ∷ []) ≡ total e.addition (values_below n (λ x. e.multiplication.op (row.cell 0 x) (block.cell x z)))
        of_left z lt = ap (value_at e p) (append_assoc u v (z ∷ [])) ∙ made-sum a b whole_a whole_b us vs (m ∷ []) n of_a of_b meets-ab p left u v (z ∷ []) in_us in_vs (lt, tt)

        of_right : (x : ℕ) → x < n → value_at e q (v ++ x ∷ w) ≡ total e.addition (values_below m (λ z. e.multiplication.op (block.cell x z) (column.cell z 0)))
        of_right x lt =
            ap (value_at e q) (sym (append_assoc v (x ∷ []) w))
            ∙ (made-sum b c whole_b whole_c (vs ++ n ∷ []) [] ws m of_b-cut of_c meets-c q right (v ++ x ∷ []) [] w (InBox-joined vs (n ∷ []) v (x ∷ []) in_vs (lt, tt)) tt in_ws
            ∙ ap (total e.addition) (below-same m _ _ (λ z below. ap (λ is. e.multiplication.op (value_at e b is) (value_at e c (z ∷ w))) (append_assoc v (x ∷ []) (z ∷ [])))))

    associate : DotAssociates e a c p q
    associate = record {
      lengths = same-lengths;
      entries = λ is b.
          let inside : InBox (us ++ (vs ++ ws)) is = subst (λ ns. InBox ns is) (same-lengths ∙ lengths-are a q whole_a right.whole us vs ws n of_a of_q meets-q) b in
          let cut = InBox-cut us (vs ++ ws) is inside in
          let rest = InBox-cut vs ws (drop (length us) is) cut.1 in
          let own : take (length us) is ++ (take (length vs) (drop (length us) is) ++ drop (length vs) (drop (length us) is)) ≡ is =
          ap (λ l. take (length us) is ++ l) (take-append-drop (length vs) (drop (length us) is)) ∙ take-append-drop (length us) is in
          subst (λ js. dot_entries e p c js ≡ dot_entries e a q js) own
          (same-entry (take (length us) is) (take (length vs) (drop (length us) is)) (drop (length vs) (drop (length us) is)) cut.0 rest.0 rest.1);
    }

pub dots-associate : {A : Type 0} (e : ValuedGhosts A) → ProductsAssociate e.addition e.multiplication → DotsAssociate e
dots-associate e associates a b c p q turn left right =
    let n : ℕ = get_or a.lengths (length a.lengths - 1) 0 in
    let m : ℕ = get_or c.lengths 0 0 in
    let vs : List ℕ = take (length b.lengths - 2) b.lengths in
    let of_b : b.lengths ≡ vs ++ n ∷ m ∷ [] =
    last_two-cut b.lengths (two turn.axes) ∙ (ap (λ k. vs ++ k ∷ get_or b.lengths (length b.lengths - 1) 0 ∷ []) (sym turn.left_inner) ∙ ap (λ k. vs ++ n ∷ k ∷ []) turn.right_inner) in
    associate e associates a b c p q turn.left_whole turn.middle_whole turn.right_whole (take (length a.lengths - 1) a.lengths) vs (drop 1 c.lengths) n m
    (last-cut a.lengths turn.some) of_b (first c.lengths (some turn.axes)) (few turn.axes) left right
  where
    two : ((2 ≤ length b.lengths) × (length c.lengths ≡ 2)) ⊎ ((length b.lengths ≡ 2) × (length c.lengths ≡ 1)) → 2 ≤ length b.lengths
    two (inl h) = h.0
    two (inr h) = let l = h.0 in omega (arith, l)

    some : ((2 ≤ length b.lengths) × (length c.lengths ≡ 2)) ⊎ ((length b.lengths ≡ 2) × (length c.lengths ≡ 1)) → 1 ≤ length c.lengths
    some (inl h) = let l = h.1 in omega (arith, l)
    some (inr h) = let l = h.1 in omega (arith, l)

    first : (ks : List ℕ) → 1 ≤ length ks → ks ≡ get_or ks 0 0 ∷ drop 1 ks
    first [] none = absurd (omega (arith, none))
    first (k ∷ ks) h = refl

    few : ((2 ≤ length b.lengths) × (length c.lengths ≡ 2)) ⊎ ((length b.lengths ≡ 2) × (length c.lengths ≡ 1)) → (length (drop 1 c.lengths) ≡ 1) ⊎ ((take (length b.lengths - 2) b.lengths ≡ []) × (drop 1 c.lengths ≡ []))
    few (inl h) = let l = h.1 in let d = length-drop 1 c.lengths in inl (omega (arith, l, d))
    few (inr h) =
        let k = h.0 in
        let l = h.1 in
        let d = length-drop 1 c.lengths in
        let none : length b.lengths - 2 ≡ 0 = omega (arith, k) in
        inr (ap (λ i. take i b.lengths) none, nil_from_length (drop 1 c.lengths) (omega (arith, l, d)))
