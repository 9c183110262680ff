-- What the loop of `cost::numbers_of` keeps: the points before its index stand in their numbers.
use Rattle.std.proofs.Common.{length, ◌≡◌, ◌*◌, ◌<◌, ℕ, get_or}
use Rattle.rules_cost.specs.Costs.{most_points, blank_point}
use Rattle.rules_library.specs.Slices.{raw_point_at}
use Rattle.cost.proofs.numbers_of.Given as goal

abbrev pub invariant-loop-i : goal.invariant-loop-i
invariant-loop-i l = record {
  length_is : length l.numbers ≡ 2 * most_points;
  stored : (j : ℕ) → j < l.i → raw_point_at l.numbers j ≡ get_or l.point-items j blank_point;
}
