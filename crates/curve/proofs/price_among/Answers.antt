-- `curve::price_among` meets its contract. Assumes nothing.
use Rattle.std.proofs.Common.{◌≡◌, get_or, refl, sym, ◌∙◌, arith, rules}
use borrow.Author.Tests.{le-ltb}
use Rattle.rules_number.proofs.Kit.{rd}
use Rattle.rules_curve.specs.Curves.{blank_step}
use Rattle.rules_curve.proofs.QuoteLaws.{quote_here, quote_on, quote_end}
use Rattle.curve.proofs.price_among.Goals as goal

pub returns-then-q-step : goal.returns-then-q-step
returns-then-q-step c =
    let l = c.args.steps.now in
    let i = c.loop-step.step-index in
    let f : rd (get_or l i blank_step).price ≡ (get_or l i blank_step).price = search rules in
    rw (f, le-ltb _ _ c.if-q-start.false) (sym (quote_here l c.args.q i _ c.loop-step-test.true refl c.if-q-step.true) ∙ c.loop-step.invariant)

pub loop-step-preserved : goal.loop-step-preserved
loop-step-preserved c =
    quote_on c.args.steps.now c.args.q c.loop-step.step-index _ c.loop-step-test.true refl c.if-q-step.false c.loop-step.invariant

pub returns : goal.returns
returns c =
    rw (le-ltb _ _ c.if-q-start.false) (sym (quote_end c.args.steps.now c.args.q c.loop-step.step-index (omega arith)) ∙ c.loop-step.invariant)
