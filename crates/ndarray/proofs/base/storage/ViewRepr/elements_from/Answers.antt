use Rattle.std.proofs.Common.{arith, ◌≡◌, ◌∙◌, ap, sym, ℕ, ◌+◌, ◌-◌, ◌<◌, ◌≤◌, length, subst}
use Rattle.std.specs.Prelude.{IsTrue, slice_get}
use Rattle.std.specs.Option.{is_some}
use Rattle.ndarray.specs.base.Storage.{seen_at}
use Rattle.ndarray.proofs.strides.ContiguousCells.{slice-within, IsRun-held, held-part}
use Rattle.ndarray.proofs.base.storage.ViewRepr.elements_from.Goals as goal
use Rattle.ndarray.proofs.base.storage.ViewRepr.elements_from.Goals.{In-Slice}

room : (g : _) (c : In-Slice g) → c.args.from + c.args.len ≤ length c.in-Slice.slice.now
room g c =
    let last = c.requires.there (c.args.len - 1) (omega (arith, c.requires.some)) in
    let e : seen_at c.args.self.now (c.args.from + (c.args.len - 1)) ≡ slice_get c.in-Slice.slice.now (c.args.from + (c.args.len - 1)) = ap (λ s. seen_at s (c.args.from + (c.args.len - 1))) c.in-Slice.is in
    let w = slice-within c.in-Slice.slice.now (c.args.from + (c.args.len - 1)) (subst (λ o. IsTrue (is_some o)) e last) in
    omega (arith, c.requires.some)

pub slice-requires : goal.slice-requires
slice-requires g c = IsRun-held c.in-Part.reading.now.slots c.args.from c.args.len c.requires.some (λ k lt. subst (λ s. IsTrue (is_some (seen_at s (c.args.from + k)))) c.in-Part.is (c.requires.there k lt))

held : (g : _) (c : goal.After-slice g) → (length c.slice.result.now ≡ c.args.len) × ((k : ℕ) → k < c.args.len → slice_get c.slice.result.now k ≡ seen_at c.args.self.now (c.args.from + k))
held g c =
    let r = IsRun-held c.in-Part.reading.now.slots c.args.from c.args.len c.requires.some (λ k lt. subst (λ s. IsTrue (is_some (seen_at s (c.args.from + k)))) c.in-Part.is (c.requires.there k lt)) in
    let h = held-part c.in-Part.reading.now.slots c.args.from c.args.len _ r.0 c.slice.ensures in
    (h.0, λ k lt. h.1 k lt ∙ ap (λ s. seen_at s (c.args.from + k)) (sym c.in-Part.is))

pub returns-in-Part-clause-many : goal.returns-in-Part-clause-many
returns-in-Part-clause-many g c = (held g c).0

pub returns-in-Part-clause-each : goal.returns-in-Part-clause-each
returns-in-Part-clause-each g c = (held g c).1
