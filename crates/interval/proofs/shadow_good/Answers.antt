-- `interval::shadow_good`: prices past the end of the slice are 0, which is in range. Assumes nothing.
use Rattle.std.proofs.Common.{◌≡◌, sym, ◌∙◌, length, arith}
use Rattle.std.specs.Prelude.{min}
use Rattle.interval.proofs.RowLaws.{prices_held}
use Rattle.interval.proofs.shadow_good.Goals as goal

pub returns : goal.returns
returns c =
    let a = c.args in
    let held-is : c.min-held.result ≡ min (length a.shadow.now) a.m = c.min-held.ensures in
    c.all_within.ensures ∙ sym (prices_held a.shadow.now c.min-held.result a.m (omega arith) (λ i h k. omega arith))
