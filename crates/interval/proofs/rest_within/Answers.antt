-- `interval::rest_within`: a turn tests one number more. Assumes nothing.
use Rattle.std.proofs.Common.{◌≡◌, sym, ◌∙◌, arith, rules}
use mir.Syntax.{w64}
use mir.ValLaws.{to_z-of_z}
use Rattle.rules_number.specs.Order.{in_range}
use Rattle.rules_number.proofs.OverLaws.{all_next, all_fails}
use Rattle.rules_interval.specs.Intervals.{cell, all_within}
use Rattle.interval.proofs.rest_within.Goals as goal
use Rattle.interval.proofs.rest_within.Goals.{After-within}

-- the test's result, at the number itself
is : (c : After-within) → c.within.result ≡ in_range c.args.lo c.args.hi (cell c.args.numbers.now c.loop-i.i)
is c = search rules

pub loop-i-init : goal.loop-i-init
unfolding all_within
loop-i-init c =
    let fl = to_z-of_z w64 c.args.lo c.ranges.lo in
    let fh = to_z-of_z w64 c.args.hi c.ranges.hi in
    rw (fl, fh) c.requires.1.1

pub returns-then-not-within : goal.returns-then-not-within
unfolding all_within
returns-then-not-within c =
    let p = goal.at.returns-then-not-within c in
    sym (all_fails (λ k. in_range c.args.lo c.args.hi (cell c.args.numbers.now k)) c.args.n c.loop-i.i (omega arith) (sym (is p.After-within) ∙ c.if-not-within.true))

pub loop-i-preserved : goal.loop-i-preserved
loop-i-preserved c =
    let p = goal.at.loop-i-preserved c in
    let fl = to_z-of_z w64 c.args.lo c.ranges.lo in
    let fh = to_z-of_z w64 c.args.hi c.ranges.hi in
    rw (fl, fh) (all_next (λ k. in_range c.args.lo c.args.hi (cell c.args.numbers.now k)) c.loop-i.i (rw (fl, fh) at c.loop-i.invariant) (sym (is p.After-within) ∙ c.if-not-within.false))

pub returns : goal.returns
unfolding all_within
returns c =
    let fl = to_z-of_z w64 c.args.lo c.ranges.lo in
    let fh = to_z-of_z w64 c.args.hi c.ranges.hi in
    let e : c.args.n ≡ c.loop-i.i = omega arith in
    rw e (sym (rw (fl, fh) at c.loop-i.invariant))
