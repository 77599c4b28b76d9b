-- What the axes count together.
use Rattle.std.proofs.Common.{◌≡◌, ◌≢◌, ℕ, ◌+◌, ◌<◌, ◌≤◌, suc, zero, List, [], ◌∷◌, ◌++◌, length, reverse, set, swap, take, get_or, refl, sym, ◌∙◌, ap, arith}
use Rattle.std.specs.Prelude.{insert, remove}
use Rattle.std.proofs.lemmas.List.{length-set, length-reverse, take_all}
use Rattle.std.proofs.lemmas.List.Edits.{swap_is}
use Rattle.ndarray.specs.base.Nested.{sum_over_axes}
use Rattle.ndarray.proofs.lists.Elements.{reverse-cons, get_or-set_own}

module _ (f : ℕ → ℕ → ℕ) where
  -- one axis counts no more than all
  pub sum_over_axes-one : (ns bs : List ℕ) (k : ℕ) → length bs ≡ length ns → k < length ns → f (get_or ns k 0) (get_or bs k 0) ≤ sum_over_axes f ns bs
  unfolding sum_over_axes
  sum_over_axes-one [] bs k l h = absurd (omega arith)
  sum_over_axes-one (n ∷ ns) [] k l h = absurd (omega arith)
  sum_over_axes-one (n ∷ ns) (b ∷ bs) zero l h = omega arith
  sum_over_axes-one (n ∷ ns) (b ∷ bs) (suc k) l h = let ih = sum_over_axes-one ns bs k (omega arith) (omega arith) in omega arith

  -- nor do two
  pub sum_over_axes-two : (ns bs : List ℕ) (j k : ℕ) → length bs ≡ length ns → j < length ns → k < length ns → j ≢ k → f (get_or ns j 0) (get_or bs j 0) + f (get_or ns k 0) (get_or bs k 0) ≤ sum_over_axes f ns bs
  unfolding sum_over_axes
  sum_over_axes-two [] bs j k l hj hk ne = absurd (omega arith)
  sum_over_axes-two (n ∷ ns) [] j k l hj hk ne = absurd (omega arith)
  sum_over_axes-two (n ∷ ns) (b ∷ bs) zero zero l hj hk ne = absurd (ne refl)
  sum_over_axes-two (n ∷ ns) (b ∷ bs) zero (suc k) l hj hk ne = let h = sum_over_axes-one ns bs k (omega arith) (omega arith) in omega arith
  sum_over_axes-two (n ∷ ns) (b ∷ bs) (suc j) zero l hj hk ne = let h = sum_over_axes-one ns bs j (omega arith) (omega arith) in omega arith
  sum_over_axes-two (n ∷ ns) (b ∷ bs) (suc j) (suc k) l hj hk ne = let ih = sum_over_axes-two ns bs j k (omega arith) (omega arith) (omega arith) (λ e. ne (ap (λ x. suc x) e)) in omega arith

  -- an axis with another length and another stride
  pub sum_over_axes-set : (ns bs : List ℕ) (k n b : ℕ) → length bs ≡ length ns → k < length ns → sum_over_axes f (set ns k n) (set bs k b) + f (get_or ns k 0) (get_or bs k 0) ≡ sum_over_axes f ns bs + f n b
  unfolding sum_over_axes
  sum_over_axes-set [] bs k n b l h = absurd (omega arith)
  sum_over_axes-set (m ∷ ns) [] k n b l h = absurd (omega arith)
  sum_over_axes-set (m ∷ ns) (c ∷ bs) zero n b l h = omega arith
  sum_over_axes-set (m ∷ ns) (c ∷ bs) (suc k) n b l h = let ih = sum_over_axes-set ns bs k n b (omega arith) (omega arith) in omega arith

  -- an axis taken out
  pub sum_over_axes-remove : (ns bs : List ℕ) (k : ℕ) → length bs ≡ length ns → k < length ns → sum_over_axes f (remove ns k) (remove bs k) + f (get_or ns k 0) (get_or bs k 0) ≡ sum_over_axes f ns bs
  unfolding sum_over_axes
  sum_over_axes-remove [] bs k l h = absurd (omega arith)
  sum_over_axes-remove (n ∷ ns) [] k l h = absurd (omega arith)
  sum_over_axes-remove (n ∷ ns) (b ∷ bs) zero l h = omega arith
  sum_over_axes-remove (n ∷ ns) (b ∷ bs) (suc k) l h = let ih = sum_over_axes-remove ns bs k (omega arith) (omega arith) in omega arith

  -- an axis put in
  pub sum_over_axes-insert : (ns bs : List ℕ) (k n b : ℕ) → length bs ≡ length ns → k ≤ length ns → sum_over_axes f (insert ns k n) (insert bs k b) ≡ sum_over_axes f ns bs + f n b
  unfolding sum_over_axes
  sum_over_axes-insert ns bs zero n b l h = omega arith
  sum_over_axes-insert [] bs (suc k) n b l h = absurd (omega arith)
  sum_over_axes-insert (m ∷ ns) [] (suc k) n b l h = absurd (omega arith)
  sum_over_axes-insert (m ∷ ns) (c ∷ bs) (suc k) n b l h = let ih = sum_over_axes-insert ns bs k n b (omega arith) (omega arith) in omega arith

  -- an axis put after all
  sum_over_axes-push : (ns bs : List ℕ) (n b : ℕ) → length bs ≡ length ns → sum_over_axes f (ns ++ n ∷ []) (bs ++ b ∷ []) ≡ sum_over_axes f ns bs + f n b
  unfolding sum_over_axes
  sum_over_axes-push [] [] n b l = omega arith
  sum_over_axes-push [] (c ∷ bs) n b l = absurd (omega arith)
  sum_over_axes-push (m ∷ ns) [] n b l = absurd (omega arith)
  sum_over_axes-push (m ∷ ns) (c ∷ bs) n b l = let ih = sum_over_axes-push ns bs n b (omega arith) in omega arith

  -- the axes from the last to the first
  pub sum_over_axes-reverse : (ns bs : List ℕ) → length bs ≡ length ns → sum_over_axes f (reverse ns) (reverse bs) ≡ sum_over_axes f ns bs
  unfolding sum_over_axes
  sum_over_axes-reverse [] [] l = refl
  sum_over_axes-reverse [] (b ∷ bs) l = absurd (omega arith)
  sum_over_axes-reverse (n ∷ ns) [] l = absurd (omega arith)
  sum_over_axes-reverse (n ∷ ns) (b ∷ bs) l =
      let ih = sum_over_axes-reverse ns bs (omega arith) in
      let p = sum_over_axes-push (reverse ns) (reverse bs) n b (let x = length-reverse ns in let y = length-reverse bs in omega arith) in
      rw (reverse-cons n ns, reverse-cons b bs) (omega arith)

  -- two axes exchanged
  pub sum_over_axes-swap : (ns bs : List ℕ) (i j : ℕ) → length bs ≡ length ns → i < length ns → j < length ns → sum_over_axes f (swap ns i j) (swap bs i j) ≡ sum_over_axes f ns bs
  sum_over_axes-swap ns bs i j l hi hj =
      let n : ℕ = get_or ns j 0 in
      let b : ℕ = get_or bs j 0 in
      let ns1 : List ℕ = set ns i n in
      let bs1 : List ℕ = set bs i b in
      let ln = length-set ns i n in
      let lb = length-set bs i b in
      let s1 = sum_over_axes-set ns bs i n b l hi in
      let s2 = sum_over_axes-set ns1 bs1 j (get_or ns i 0) (get_or bs i 0) (omega arith) (omega arith) in
      let o : f (get_or ns1 j 0) (get_or bs1 j 0) ≡ f n b = ap (λ x. f x (get_or bs1 j 0)) (get_or-set_own ns i j hi) ∙ ap (λ x. f n x) (get_or-set_own bs i j (omega arith)) in
      let e : sum_over_axes f (set ns1 j (get_or ns i 0)) (set bs1 j (get_or bs i 0)) ≡ sum_over_axes f ns bs = omega arith in
      ap (λ x. sum_over_axes f x (swap bs i j)) (sym (swap_is ns i j 0 hi hj)) ∙ (ap (λ x. sum_over_axes f (set ns1 j (get_or ns i 0)) x) (sym (swap_is bs i j 0 (omega arith) (omega arith))) ∙ e)

  -- the first k axes and the next one
  pub sum_over_axes-take_more : (ns bs : List ℕ) (k : ℕ) → length bs ≡ length ns → k < length ns → sum_over_axes f (take (suc k) ns) (take (suc k) bs) ≡ sum_over_axes f (take k ns) (take k bs) + f (get_or ns k 0) (get_or bs k 0)
  unfolding sum_over_axes
  sum_over_axes-take_more [] bs k l h = absurd (omega arith)
  sum_over_axes-take_more (n ∷ ns) [] k l h = absurd (omega arith)
  sum_over_axes-take_more (n ∷ ns) (b ∷ bs) zero l h = omega arith
  sum_over_axes-take_more (n ∷ ns) (b ∷ bs) (suc k) l h = let ih = sum_over_axes-take_more ns bs k (omega arith) (omega arith) in omega arith

  -- the first k axes count no more than all
  pub sum_over_axes-take_le : (ns bs : List ℕ) (k : ℕ) → length bs ≡ length ns → sum_over_axes f (take k ns) (take k bs) ≤ sum_over_axes f ns bs
  unfolding sum_over_axes
  sum_over_axes-take_le ns bs zero l = omega arith
  sum_over_axes-take_le [] bs (suc k) l = omega arith
  sum_over_axes-take_le (n ∷ ns) [] (suc k) l = absurd (omega arith)
  sum_over_axes-take_le (n ∷ ns) (b ∷ bs) (suc k) l = let ih = sum_over_axes-take_le ns bs k (omega arith) in omega arith

  -- the first axes, as many as there are
  pub sum_over_axes-take_all : (ns bs : List ℕ) (k : ℕ) → length bs ≡ length ns → length ns ≡ k → sum_over_axes f (take k ns) (take k bs) ≡ sum_over_axes f ns bs
  sum_over_axes-take_all ns bs k l h = ap (λ x. sum_over_axes f x (take k bs)) (take_all k ns (omega arith)) ∙ ap (sum_over_axes f ns) (take_all k bs (omega arith))

-- where each axis counts no more by f than by g
pub sum_over_axes-le : (f g : ℕ → ℕ → ℕ) (ns bs : List ℕ) → length bs ≡ length ns → ((k : ℕ) → k < length ns → f (get_or ns k 0) (get_or bs k 0) ≤ g (get_or ns k 0) (get_or bs k 0)) → sum_over_axes f ns bs ≤ sum_over_axes g ns bs
unfolding sum_over_axes
sum_over_axes-le f g [] bs l h = omega arith
sum_over_axes-le f g (n ∷ ns) [] l h = omega arith
sum_over_axes-le f g (n ∷ ns) (b ∷ bs) l h =
    let here = h 0 (omega arith) in
    let ih = sum_over_axes-le f g ns bs (omega arith) (λ k lt. h (suc k) (omega arith)) in
    omega arith

-- where each axis counts no more with the lengths ws than with ns
pub sum_over_axes-shorter : (f : ℕ → ℕ → ℕ) (ws ns bs : List ℕ) → length bs ≡ length ns → length ws ≡ length ns → ((k : ℕ) → k < length ns → f (get_or ws k 0) (get_or bs k 0) ≤ f (get_or ns k 0) (get_or bs k 0)) → sum_over_axes f ws bs ≤ sum_over_axes f ns bs
unfolding sum_over_axes
sum_over_axes-shorter f [] [] bs l lw h = omega arith
sum_over_axes-shorter f (w ∷ ws) [] bs l lw h = absurd (omega arith)
sum_over_axes-shorter f [] (n ∷ ns) bs l lw h = absurd (omega arith)
sum_over_axes-shorter f (w ∷ ws) (n ∷ ns) [] l lw h = absurd (omega arith)
sum_over_axes-shorter f (w ∷ ws) (n ∷ ns) (b ∷ bs) l lw h =
    let here = h 0 (omega arith) in
    let ih = sum_over_axes-shorter f ws ns bs (omega arith) (omega arith) (λ k lt. h (suc k) (omega arith)) in
    omega arith
