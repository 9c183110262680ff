-- `pivotal::floor_of`: a turn asks for one constraint more. Assumes nothing.
use mathlib.Core.Path.{refl}
use Rattle.rules_pivotal.specs.Pivotals.{most_to}
use Rattle.pivotal.specs.Rows.{floor_on}
use Rattle.pivotal.proofs.NeedLaws.{floor_next}
use Rattle.pivotal.proofs.floor_of.Goals as goal

pub loop-c-init : goal.loop-c-init
unfolding floor_on most_to
loop-c-init c = refl

pub loop-c-preserved : goal.loop-c-preserved
loop-c-preserved c = floor_next c.args.rows.now c.loop-c.c c.loop-c.floor c.need_of.result c.loop-c.invariant c.need_of.ensures c.max-floor.result c.max-floor.ensures
