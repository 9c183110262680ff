-- `taking::none_found`: a turn makes one verdict more not binding. Assumes nothing.
use mathlib.Core.Path.{◌≡◌, ◌∙◌}
use native.Mathlib.Omega.{arith}
use Rattle.taking.proofs.FoundLaws.{filled_none, filled_next, filled_all}
use Rattle.taking.proofs.none_found.Goals as goal

pub loop-c-init : goal.loop-c-init
loop-c-init c = filled_none

pub loop-c-preserved : goal.loop-c-preserved
loop-c-preserved c = rw c.loop-c.invariant (filled_next c.loop-c.c c.loop-c-test.true)

pub returns : goal.returns
returns c =
    let e : c.loop-c.c ≡ 32 = omega arith in
    rw e at c.loop-c.invariant ∙ filled_all
