-- `interval::outputs_judged`: a turn tests one resource more. Assumes nothing.
use Rattle.std.proofs.Common.{◌≡◌, ◌+◌, refl, sym, ap, ◌∙◌, arith, rules, pos, neg_ℤ}
use Rattle.rules_number.specs.Order.{in_range}
use Rattle.rules_number.specs.Over.{all_to}
use Rattle.rules_number.proofs.OverLaws.{all_next, all_fails}
use Rattle.rules_interval.specs.Intervals.{all_within, output_good, outputs_good}
use Rattle.interval.specs.declared.Output.{Output}
use Rattle.interval.proofs.RowLaws.{all_kept}
use Rattle.interval.proofs.OverLaws.{over_first, over_good}
use Rattle.interval.proofs.outputs_judged.Invariants.{priced, can}
use Rattle.interval.proofs.outputs_judged.Goals as goal
use Rattle.interval.proofs.outputs_judged.Goals.{After-within, After-output_good, then-not-output_good, else-not-output_good}

-- the tests' results, at the numbers themselves
price_is : (c : After-within) → c.within.result ≡ priced c.args.outputs.now c.loop-r.r
price_is c =
    let e : c.within.result ≡ in_range (neg_ℤ (pos 100000000)) (pos 100000000) c.output_at-output.result.lmp = search rules in
    e
    ∙ ap (in_range (neg_ℤ (pos 100000000)) (pos 100000000)) (ap (λ (x : Output). x.lmp) c.output_at-output.ensures
    ∙ sym (over_first c.args.outputs.now c.loop-r.r (omega arith)))

can-is : (c : After-output_good) → c.output_good.result ≡ can c.args.outputs.now c.loop-r.r
can-is c =
    let x = c.output_at-output.result in
    let e : c.output_good.result ≡ output_good x.available x.floor x.dispatch = search rules in
    e ∙ over_good c.args.outputs.now c.loop-r.r (omega arith) x c.output_at-output.ensures

pub loop-r-init : goal.loop-r-init
unfolding all_to
loop-r-init c = (refl, refl)

pub returns-then-not-within-clause-prices : goal.returns-then-not-within-clause-prices
unfolding all_within
returns-then-not-within-clause-prices c =
    let p = goal.at.returns-then-not-within-clause-prices c in
    sym (all_fails (priced c.args.outputs.now) c.args.n c.loop-r.r (omega arith) (sym (price_is p.After-within) ∙ c.if-not-within.true))

pub loop-r-preserved : goal.loop-r-preserved
loop-r-preserved c =
    let p = goal.at.loop-r-preserved c in
    let x = c.args.outputs.now in
    let r = c.loop-r.r in
    let can_r = can-is p.After-output_good in (
      all_next (priced x) r c.loop-r.invariant.0 (sym (price_is p.After-within) ∙ c.if-not-within.false),
      elim c.if-not-output_good.branch [
        | then-not-output_good w ↦ w.good-is ∙ sym (all_fails (can x) (r + 1) r (omega arith) (sym can_r ∙ w.if-not-output_good.true))
        | else-not-output_good w ↦ w.good-is ∙ c.loop-r.invariant.1 ∙ all_kept (can x) r (sym can_r ∙ w.if-not-output_good.false)
      ],
    )

pub returns-clause-prices : goal.returns-clause-prices
unfolding all_within outputs_good
returns-clause-prices c =
    let e : c.args.n ≡ c.loop-r.r = omega arith in
    rw e (sym c.loop-r.invariant.0)

pub returns-clause-outputs : goal.returns-clause-outputs
unfolding all_within outputs_good
returns-clause-outputs c =
    let e : c.args.n ≡ c.loop-r.r = omega arith in
    rw e c.loop-r.invariant.1
