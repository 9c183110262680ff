-- `hydro::largest_at`: the largest price up to number j. Assumes nothing.
use Rattle.std.proofs.Common.{◌≡◌}
use Rattle.rules_number.specs.Over.{highest_to}
use Rattle.rules_hydro.specs.Hydros.{hub_price}
use Rattle.hydro.proofs.largest_at.Given as goal

abbrev pub invariant-loop-j : goal.invariant-loop-j
invariant-loop-j l = l.largest ≡ highest_to (hub_price l.prices l.hub) l.j
