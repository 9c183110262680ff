-- `pivotal::withheld_by`: a turn adds one portfolio more. Assumes nothing.
use mathlib.Core.Path.{◌≡◌, refl, sym}
use Prim.Native.Nat.{◌+◌, ◌*◌, ◌≤◌}
use native.Mathlib.Omega.{arith}
use Rattle.rules_number.specs.Over.{sum_to}
use Rattle.rules_number.proofs.SumLaws.{sum_next}
use Rattle.pivotal.specs.Rows.{part_at, offer_at, withheld_at}
use Rattle.pivotal.proofs.WorksLaws.{part_le}
use Rattle.pivotal.proofs.withheld_by.Goals as goal
use Rattle.pivotal.proofs.withheld_by.Goals.{After-part_of-sum}

-- what a portfolio adds is bounded
small : (c : After-part_of-sum) → c.part_of-sum.result ≤ 64000000000001
small c = rw c.part_of-sum.ensures (part_le c.args.s c.loop-p.p (offer_at c.args.rows.now c.args.c c.loop-p.p) 64000000000001 (c.requires.1 (17 * c.args.c + 1 + c.loop-p.p)))

pub loop-p-init : goal.loop-p-init
unfolding sum_to
loop-p-init c = (refl, omega arith)

pub overflow_add-sum : goal.overflow_add-sum
overflow_add-sum c = record { fits = omega (arith, small (goal.at.overflow_add-sum c).After-part_of-sum, c.loop-p.invariant.1) }

pub loop-p-preserved : goal.loop-p-preserved
loop-p-preserved c = (
  rw (sum_next (part_at c.args.rows.now c.args.s c.args.c) c.loop-p.p, sym c.loop-p.invariant.0, c.part_of-sum.ensures) refl,
  omega (arith, small (goal.at.loop-p-preserved c).After-part_of-sum, c.loop-p.invariant.1),
)

pub returns : goal.returns
unfolding withheld_at
returns c =
    let e : c.loop-p.p ≡ 16 = omega arith in
    rw (sym e) c.loop-p.invariant.0
