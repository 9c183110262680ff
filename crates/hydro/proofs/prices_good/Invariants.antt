-- `hydro::prices_good`: the prices of the hubs so far are in range. Assumes nothing.
use Rattle.std.proofs.Common.{◌≡◌, true}
use Rattle.rules_hydro.specs.Hydros.{prices_good}
use Rattle.hydro.proofs.prices_good.Given as goal

abbrev pub invariant-loop-i : goal.invariant-loop-i
invariant-loop-i l = prices_good l.prices l.i l.horizon ≡ true
