-- `interval::all_within`: a turn tests four numbers more. Assumes nothing.
use Rattle.std.proofs.Common.{◌≡◌, ◌+◌, refl, sym, ◌∙◌, arith}
use mir.Syntax.{w64}
use mir.ValLaws.{to_z-of_z}
use Rattle.rules_number.specs.Order.{in_range}
use Rattle.rules_number.specs.Over.{all_to}
use Rattle.rules_interval.specs.Intervals.{cell, all_within}
use Rattle.interval.proofs.RowLaws.{all_four, all_short}
use Rattle.interval.proofs.all_within.Goals as goal
use Rattle.interval.proofs.all_within.Goals.{After-four_within}

-- with four more
four : (c : After-four_within) → all_to (λ k. in_range c.args.lo c.args.hi (cell c.args.numbers.now k)) (c.loop-i.i + 4) ≡ c.four_within.result
four c =
    let fl = to_z-of_z w64 c.args.lo c.ranges.lo in
    let fh = to_z-of_z w64 c.args.hi c.ranges.hi in
    all_four (λ k. in_range c.args.lo c.args.hi (cell c.args.numbers.now k)) c.loop-i.i c.four_within.result (rw (fl, fh) at c.loop-i.invariant.1) (simp (fl, fh) at c.four_within.ensures)

pub loop-i-init : goal.loop-i-init
unfolding all_to
loop-i-init c = (omega arith, refl)

pub returns-then-not-four_within : goal.returns-then-not-four_within
unfolding all_within
returns-then-not-four_within c =
    let p = goal.at.returns-then-not-four_within c in
    sym (all_short (λ k. in_range c.args.lo c.args.hi (cell c.args.numbers.now k)) (c.loop-i.i + 4) c.args.n (omega arith) (four p.After-four_within ∙ c.if-not-four_within.true))

pub loop-i-preserved : goal.loop-i-preserved
loop-i-preserved c =
    let p = goal.at.loop-i-preserved c in
    let fl = to_z-of_z w64 c.args.lo c.ranges.lo in
    let fh = to_z-of_z w64 c.args.hi c.ranges.hi in
    (omega arith, rw (fl, fh) (four p.After-four_within ∙ c.if-not-four_within.false))

pub rest_within-requires : goal.rest_within-requires
unfolding all_within
rest_within-requires c = (c.loop-i.invariant.0, (c.requires, c.loop-i.invariant.1))
