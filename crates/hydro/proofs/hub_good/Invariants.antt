-- `hydro::hub_good`: the prices so far are in range. Assumes nothing.
use Rattle.std.proofs.Common.{◌≡◌, true}
use Rattle.rules_number.specs.Over.{all_to}
use Rattle.rules_hydro.specs.Hydros.{hub_price, is_hub_price}
use Rattle.hydro.proofs.hub_good.Given as goal

abbrev pub invariant-loop-j : goal.invariant-loop-j
invariant-loop-j l = all_to (λ k. is_hub_price (hub_price l.prices l.hub k)) l.j ≡ true
