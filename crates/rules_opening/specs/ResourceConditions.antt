-- What a resource must be like, in paper 01's words (Refused, by place: "bid, costs (or the pack's curve), 11").
use Rattle.std.specs.Prelude.{List, [], ◌∷◌, ◌++◌, ◌≡◌, ℕ, ◌-◌, ℤ, length, ◌≤ℤ◌}
use Rattle.rules_curve.specs.Demands.{Demand, ◌asks◌}
use Rattle.rules_curve.specs.Conditions.{edge, bid_demands, default_demands}
use Rattle.rules_cost.specs.Conditions.{m, cost_demands}
use Rattle.rules_curve.specs.Curves.{most_steps}
use Rattle.rules_opening.specs.declared.Source.{Source}
use Rattle.rules_opening.specs.declared.Source.TheVariants as source
use Rattle.rules_opening.specs.declared.Resource.{Resource}

-- costs 4 to 8, or the pack's curve 1 to 3
abbrev pub source_demands : Source → Resource → List Demand
source_demands source.Costs x = cost_demands x.costs
source_demands source.Pack x = default_demands x.pack

-- where its default curve starts, and where it ends: from costs at the first m and at the last, from a pack at its first edge and at its last
abbrev pub default_start : Source → Resource → ℤ
default_start source.Costs x = m x.costs 0
default_start source.Pack x = edge x.pack 0

abbrev pub default_end : Source → Resource → ℤ
default_end source.Costs x = m x.costs (x.costs.count - 1)
default_end source.Pack x = edge x.pack x.pack.count

-- 11: "bid reaches outside its default curve", at its start or at its end
pub record Inside (s : Source) (x : Resource) : Type 0 where
  pub starts : default_start s x ≤ℤ edge x.bid 0
  pub ends : edge x.bid x.bid.count ≤ℤ default_end s x

abbrev pub resource_demands : ℕ → Resource → List Demand
resource_demands month x = bid_demands month x.bid ++ source_demands x.source x ++ ((11 asks Inside x.source x) ∷ [])

-- what the theorems take as given: a resource holds its bid and its pack in arrays of eleven steps
pub record Full (x : Resource) : Type 0 where
  pub bid : length x.bid.steps ≡ most_steps
  pub pack : length x.pack.steps ≡ most_steps
