-- `interval::checked`: the tests in the order of the refusals. Assumes nothing.
use Rattle.std.proofs.Common.{◌≡◌, sym, ◌∙◌, true, false, pos, neg_ℤ, ◌&&◌, eqb, leb}
use mathlib.Core.Bool.{and-false}
use borrow.Author.Tests.{eq-eqb, ne_eqb, le-leb, lt-leb}
use Rattle.rules_interval.specs.Intervals.{all_within}
use Rattle.rules_interval.specs.declared.Interval.{Interval}
use Rattle.rules_interval.proofs.IntervalLaws.{in_ranges, refused_count, refused_constraints, refused_range, refused_output, taken_interval}
use Rattle.interval.specs.Over.{lent_interval}
use Rattle.interval.proofs.checked.Goals as goal
use Rattle.interval.proofs.checked.Goals.{Start, Else-asked-gt-MAX_RESOURCES, Else-asked-gt-MAX_CONSTRAINTS, After-ranges_good}

-- the interval that is checked
abbrev lent : Start → Interval
lent s = lent_interval s.args.asked.now

prices-off : (v : Interval) → all_within (neg_ℤ (pos 100000000)) (pos 100000000) v.lmp v.resources ≡ false → in_ranges v ≡ false
prices-off v e = rw e (and-false (all_within (pos 0) (pos 100000000) v.shadow v.constraints))

-- the counts' tests
same : (c : Else-asked-gt-MAX_RESOURCES) → (eqb c.args.asked.now.resources c.args.known && leb c.args.asked.now.resources 64) ≡ true
same c = rw (eq-eqb c.args.asked.now.resources c.args.known c.if-asked-known.false, le-leb c.args.asked.now.resources 64 c.if-asked-gt-MAX_RESOURCES.false)

few : (c : Else-asked-gt-MAX_CONSTRAINTS) → leb c.args.asked.now.constraints 32 ≡ true
few c = le-leb c.args.asked.now.constraints 32 c.if-asked-gt-MAX_CONSTRAINTS.false

-- the test of the ranges, where the prices are in range
ranges-is : (c : After-ranges_good) → c.ranges_good.result ≡ in_ranges (lent_interval c.args.asked.now)
ranges-is c = rw (sym c.in-Some.ensures.prices) c.ranges_good.ensures

pub returns-then-asked-known : goal.returns-then-asked-known
returns-then-asked-known c =
    sym (refused_count c.args.known (lent (goal.at.returns-then-asked-known c).Start) (rw (ne_eqb c.args.asked.now.resources c.args.known c.if-asked-known.true)))

pub returns-then-asked-gt-MAX_RESOURCES : goal.returns-then-asked-gt-MAX_RESOURCES
returns-then-asked-gt-MAX_RESOURCES c =
    sym (refused_count c.args.known (lent (goal.at.returns-then-asked-gt-MAX_RESOURCES c).Start)
    (rw (eq-eqb c.args.asked.now.resources c.args.known c.if-asked-known.false, lt-leb c.args.asked.now.resources 64 c.if-asked-gt-MAX_RESOURCES.true)))

pub returns-then-asked-gt-MAX_CONSTRAINTS : goal.returns-then-asked-gt-MAX_CONSTRAINTS
returns-then-asked-gt-MAX_CONSTRAINTS c =
    let p = goal.at.returns-then-asked-gt-MAX_CONSTRAINTS c in
    sym (refused_constraints c.args.known (lent p.Start) (same p.Else-asked-gt-MAX_RESOURCES) (lt-leb c.args.asked.now.constraints 32 c.if-asked-gt-MAX_CONSTRAINTS.true))

pub returns-in_default : goal.returns-in_default
returns-in_default c =
    let p = goal.at.returns-in_default c in
    sym (refused_range c.args.known (lent p.Start) (same p.Else-asked-gt-MAX_RESOURCES) (few p.Else-asked-gt-MAX_CONSTRAINTS)
    (prices-off (lent p.Start) (sym c.in_default.ensures.prices)))

pub returns-then-not-ranges_good : goal.returns-then-not-ranges_good
returns-then-not-ranges_good c =
    let p = goal.at.returns-then-not-ranges_good c in
    sym (refused_range c.args.known (lent p.Start) (same p.Else-asked-gt-MAX_RESOURCES) (few p.Else-asked-gt-MAX_CONSTRAINTS)
    (sym (ranges-is p.After-ranges_good) ∙ c.if-not-ranges_good.true))

pub returns-then-not-outputs_good : goal.returns-then-not-outputs_good
returns-then-not-outputs_good c =
    let p = goal.at.returns-then-not-outputs_good c in
    sym (refused_output c.args.known (lent p.Start) (same p.Else-asked-gt-MAX_RESOURCES) (few p.Else-asked-gt-MAX_CONSTRAINTS)
    (sym (ranges-is p.After-ranges_good) ∙ c.if-not-ranges_good.false) (sym c.in-Some.ensures.outputs ∙ c.if-not-outputs_good.true))

pub returns : goal.returns
returns c =
    let p = goal.at.returns c in
    sym (taken_interval c.args.known (lent p.Start) (same p.Else-asked-gt-MAX_RESOURCES) (few p.Else-asked-gt-MAX_CONSTRAINTS)
    (sym (ranges-is p.After-ranges_good) ∙ c.if-not-ranges_good.false) (sym c.in-Some.ensures.outputs ∙ c.if-not-outputs_good.false))
