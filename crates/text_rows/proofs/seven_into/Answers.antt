-- `text_rows::seven_into` meets its contract. Assumes nothing.
use Rattle.std.proofs.Common.{ℕ, ap, ◌∙◌, arith}
use Rattle.rules_text.specs.Offsets.{number_at, closed_by}
use Rattle.text_bytes.proofs.ShortLaws.{plus_is, stands_as}
use Rattle.text_rows.proofs.StandLaws.{filling_more}
use Rattle.text_rows.proofs.seven_into.Goals as goal

pub loop-i-preserved : goal.loop-i-preserved
loop-i-preserved c =
    let a = c.args in
    let l = c.loop-i in
    let z = c.in_ok-z in
    filling_more a.s.now a.at a.v.now l.v l.p l.i l.invariant (omega arith) _ z.z.next
    (stands_as (plus_is z.ensures.value_bound.0) (z.ensures.plain.natural ∙ ap (λ (b : ℕ). closed_by a.s.now b (number_at a.s.now l.p)) c.closing.ensures))
    z.ensures.value_bound.1
