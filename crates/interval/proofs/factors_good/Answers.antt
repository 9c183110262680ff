-- `interval::factors_good`: a turn tests one row more. Assumes nothing.
use Rattle.std.proofs.Common.{◌≡◌, refl, sym, ◌∙◌, arith}
use Rattle.rules_number.specs.Over.{all_to}
use Rattle.rules_number.proofs.OverLaws.{all_next, all_fails}
use Rattle.rules_interval.specs.Intervals.{factors_good}
use Rattle.rules_interval.proofs.FactorLaws.{row_good, row_good_lem}
use Rattle.interval.proofs.factors_good.Goals as goal
use Rattle.interval.proofs.factors_good.Goals.{After-row_good}

-- the test's result, of the whole slice
is : (c : After-row_good) → c.row_good.result ≡ row_good c.args.factors.now c.loop-r.r c.args.m
is c = c.row_good.ensures ∙ row_good_lem c.args.factors.now c.loop-r.r c.args.m

pub loop-r-init : goal.loop-r-init
unfolding all_to
loop-r-init c = refl

pub returns-then-not-row_good : goal.returns-then-not-row_good
unfolding factors_good
returns-then-not-row_good c =
    let p = goal.at.returns-then-not-row_good c in
    sym (all_fails (λ k. row_good c.args.factors.now k c.args.m) c.args.n c.loop-r.r (omega arith) (sym (is p.After-row_good) ∙ c.if-not-row_good.true))

pub loop-r-preserved : goal.loop-r-preserved
loop-r-preserved c =
    let p = goal.at.loop-r-preserved c in
    all_next (λ k. row_good c.args.factors.now k c.args.m) c.loop-r.r c.loop-r.invariant (sym (is p.After-row_good) ∙ c.if-not-row_good.false)

pub returns : goal.returns
unfolding factors_good
returns c =
    let e : c.args.n ≡ c.loop-r.r = omega arith in
    rw e (sym c.loop-r.invariant)
