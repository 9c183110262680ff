-- What the loop of `cost::heats_good` keeps: the heat rates before its index are in range.
use Rattle.std.proofs.Common.{◌≡◌, List, ℤ, true}
use Rattle.rules_number.specs.Over.{all_to}
use Rattle.rules_cost.specs.Costs.{heat_at, heat_in_range}
use Rattle.cost.proofs.NumberLaws.{costs_by}
use Rattle.cost.proofs.heats_good.Given as goal

abbrev pub invariant-loop-i : goal.invariant-loop-i
invariant-loop-i l = record {
  good : (charges : List ℤ) → all_to (λ j. heat_in_range (heat_at (costs_by l.n l.points charges) j)) l.i ≡ true;
}
