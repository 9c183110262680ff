-- `curve::price_among`: the price among the steps from here on is that among all. Assumes nothing.
use Rattle.std.proofs.Common.{◌≡◌, drop}
use Rattle.rules_curve.specs.Curves.{quote_from}
use Rattle.curve.proofs.price_among.Given as goal

abbrev pub invariant-loop-step : goal.invariant-loop-step
invariant-loop-step l = quote_from (drop l.step-index l.steps) l.q ≡ quote_from l.steps l.q
