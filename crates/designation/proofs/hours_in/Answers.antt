-- `designation::hours_in`: the sum of the first i masks' hours.
use mathlib.Core.Path.{◌≡◌, refl, sym}
use native.Mathlib.Omega.{arith}
use lib.Count.{ones}
use lib.ListN.{get_or}
use Rattle.rules_number.specs.Over.{sum_to}
use Rattle.rules_number.proofs.SumLaws.{sum_next}
use Rattle.rules_designation.specs.Designations.{hours_in}
use Rattle.designation.proofs.hours_in.Goals as goal

pub loop-mask-init : goal.loop-mask-init
unfolding sum_to
loop-mask-init c = (refl, omega arith)

pub loop-mask-preserved : goal.loop-mask-preserved
loop-mask-preserved c =
    (rw (sum_next (λ k. ones (get_or c.args.masks k 0)) c.loop-mask.mask-index, sym c.loop-mask.invariant.0, c.ones_in-sum.ensures.ones) refl, omega (arith, c.ones_in-sum.ensures.few, c.loop-mask.invariant.1))

pub returns : goal.returns
unfolding hours_in
returns c =
    let e : c.loop-mask.mask-index ≡ 60 = omega arith in
    rw (sym e) c.loop-mask.invariant.0
