-- `hydro::largest_over`: the largest price up to hub i. Assumes nothing.
use Rattle.std.proofs.Common.{◌≡◌, ◌-◌, ◌≤◌}
use Rattle.rules_number.specs.Over.{highest_to}
use Rattle.rules_hydro.specs.Hydros.{largest_at}
use Rattle.hydro.proofs.largest_over.Given as goal

abbrev pub invariant-loop-i : goal.invariant-loop-i
invariant-loop-i l = (l.i - 1 ≤ l.hubs - 1) × (l.largest ≡ highest_to (λ k. largest_at l.prices k l.horizon) (l.i - 1))
