-- What an opening must be like, in paper 01's words (Refused, by place: "Opening checks 9, then 10, then each resource in number order: bid, costs (or the pack's curve), 11").
use Rattle.std.specs.Prelude.{List, ◌∷◌, ◌⊎◌, ◌≡◌, ℕ, ◌<◌, ◌≤◌, ℤ, pos, nat_abs, get_or, ◌≤ℤ◌, ◌<ℤ◌}
use Rattle.rules_curve.specs.Demands.{Demand, ◌asks◌, Between, each_demand}
use Rattle.rules_opening.specs.ResourceConditions.{resource_demands, Full}
use Rattle.rules_opening.specs.declared.Resource.{Resource}
use Rattle.rules_opening.specs.Openings.{no_resource}
use Rattle.rules_opening.specs.declared.Opening.{Opening}

-- the mark of portfolio p, and resource r
abbrev pub seller : Opening → ℕ → ℤ
seller o p = get_or o.sellers p (pos 0)

abbrev pub resource : Opening → ℕ → Resource
resource o r = get_or o.list r no_resource

-- 9: "month, portfolio or resource count outside limits": month 1 to 1,200, 1 to 16 portfolios, 1 to 64 resources
pub record Limited (o : Opening) : Type 0 where
  pub month : Between (pos 1) (pos 1200) o.month
  pub portfolios : (1 ≤ o.portfolios) × (o.portfolios ≤ 16)
  pub resources : (1 ≤ o.resources) × (o.resources ≤ 64)

-- 10: "seller not 0 or 1, or unknown portfolio": portfolios count from 0
pub record Known (o : Opening) : Type 0 where
  pub marked : (p : ℕ) → p < o.portfolios → (seller o p ≡ pos 0) ⊎ (seller o p ≡ pos 1)
  pub owned : (r : ℕ) → r < o.resources → (pos 0 ≤ℤ (resource o r).portfolio) × ((resource o r).portfolio <ℤ pos o.portfolios)

-- each resource in number order, in the opening's month
abbrev pub each_resource : Opening → List Demand
each_resource o = each_demand (λ r. resource_demands (nat_abs o.month) (resource o r)) o.resources

abbrev pub opening_demands : Opening → List Demand
opening_demands o = (9 asks Limited o) ∷ (10 asks Known o) ∷ each_resource o

-- what the theorems take as given: each resource that is read holds its curves in arrays of eleven steps. Every opening in a text, in numbers and by value has that
abbrev pub EachFull : Opening → Type 0
EachFull o = (r : ℕ) → r < o.resources → r < 64 → Full (resource o r)
