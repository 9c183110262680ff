-- `cutting::entering_in`: a turn lists one constraint more where it enters. Assumes nothing.
use Rattle.std.proofs.Common.{◌≡◌, ◌*◌, cond, arith, rules}
use Rattle.rules_interval.specs.Intervals.{cell}
use Rattle.cutting.specs.Entering.{enters_by}
use Rattle.cutting.proofs.EnteringLaws.{lists_none, lists_next}
use Rattle.cutting.proofs.entering_in.Goals as goal

pub loop-c-init : goal.loop-c-init
loop-c-init c = lists_none _ _ c.requires.1.0

pub loop-c-preserved : goal.loop-c-preserved
loop-c-preserved c =
    let k = c.loop-c.c in
    let e : c.enters-count.result ≡ cond (enters_by (cell c.args.verdicts.now (20 * k))) 1 0 = search rules in
    lists_next c.args.verdicts.now k c.loop-c.list c.loop-c.count c.enters-count.result c.loop-c.invariant (omega arith) e
