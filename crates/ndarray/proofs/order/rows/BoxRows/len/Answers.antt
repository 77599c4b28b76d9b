use Rattle.std.proofs.Common.{◌≡◌, ◌∙◌, ◌*◌, ap, arith, length, sym}
use Rattle.ndarray.specs.order.Rows.{joined}
use Rattle.ndarray.proofs.strides.IndexedRows.{length-rows}
use Rattle.ndarray.proofs.order.rows.BoxRows.len.Goals as goal
use Rattle.ndarray.proofs.order.rows.BoxRows.len.Goals.{After-len}

together : (g : _) (c : After-len g) → c.len.result * c.self.inside.count ≡ length (joined c.args.self.now)
together g c =
    ap (λ n. n * c.self.inside.count) c.len.ensures
    ∙ (sym (length-rows c.self.inside.axis c.self.inside.count c.self.inside.firsts) ∙ ap (λ l. length (joined l)) c.self.view_is)

pub overflow_mul-result : goal.overflow_mul-result
overflow_mul-result g c = let e = together g c in let few = c.requires in record { fits = omega (arith, e, few) }

pub returns : goal.returns
returns g c = together g c
