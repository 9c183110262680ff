-- `curve_checks::prices_good`: the prices are good exactly if those from here on are, from the last one on. Assumes nothing.
use Rattle.std.proofs.Common.{◌≡◌, drop}
use Rattle.rules_curve.specs.Curves.{chain, price_suits, prices_good}
use Rattle.curve_checks.proofs.prices_good.Given as goal

abbrev pub invariant-loop-step : goal.invariant-loop-step
invariant-loop-step l = chain (price_suits l.top) (λ s. s.price) l.price (drop l.step-index l.steps) ≡ prices_good l.low l.top l.fn.raw
