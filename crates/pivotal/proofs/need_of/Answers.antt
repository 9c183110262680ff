-- `pivotal::need_of`: a turn takes one net seller more. Assumes nothing.
use mathlib.Core.Path.{◌≡◌, ◌∙◌}
use Prim.Native.Nat.{◌≤◌}
use native.Mathlib.Omega.{arith}
use Rattle.rules_path.specs.Paths.{at}
use Rattle.pivotal.proofs.NeedLaws.{taken_none, taken_more, taken_le, need_here, need_last, offers_held}
use Rattle.pivotal.proofs.need_of.Goals as goal
use Rattle.pivotal.proofs.need_of.Goals.{After-largest_of-p}

-- no amount is above the limit
small : (c : After-largest_of-p) → at c.loop-k.offers c.largest_of-p.result ≤ 64000000000001
small c =
    taken_le c.args.rows.now c.args.c c.loop-k.k c.loop-k.sum c.loop-k.offers c.loop-k.invariant.1 64000000000001 (offers_held c.args.rows.now c.args.c c.requires.1) c.largest_of-p.result

pub loop-k-init : goal.loop-k-init
loop-k-init c = (omega arith, rw c.offers_at-offers.ensures (taken_none c.args.rows.now c.args.c))

pub returns-then-lack-sum : goal.returns-then-lack-sum
returns-then-lack-sum c = need_here c.args.rows.now c.args.c c.loop-k.k c.loop-k.sum c.loop-k.offers c.loop-k.invariant.1 (omega arith) c.if-lack-sum.true

pub overflow_add-sum : goal.overflow_add-sum
overflow_add-sum c = record { fits = omega (arith, small (goal.at.overflow_add-sum c).After-largest_of-p, c.loop-k.invariant.0) }

pub loop-k-preserved : goal.loop-k-preserved
loop-k-preserved c = (
  omega (arith, small (goal.at.loop-k-preserved c).After-largest_of-p, c.loop-k.invariant.0),
  taken_more c.args.rows.now c.args.c c.loop-k.k c.loop-k.sum c.loop-k.offers c.loop-k.invariant.1 c.largest_of-p.result c.largest_of-p.ensures.0 c.if-lack-sum.false,
)

pub returns : goal.returns
returns c =
    let e : 16 ≡ c.loop-k.k = omega arith in
    e ∙ need_last c.args.rows.now c.args.c c.loop-k.k c.loop-k.sum c.loop-k.offers c.loop-k.invariant.1 (omega arith)
