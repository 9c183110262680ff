-- A resource in numbers: a block of 80, as rules_state reads them. A count past 63 bits is the largest number of 63 bits.
use mathlib.Core.List.{List, [], ◌∷◌, ◌++◌, flat_map}
use Rattle.std.specs.Prelude.{◌≡◌, ℕ, ◌+◌, ◌*◌, ℤ, pos, length}
use Rattle.rules_curve.specs.Curves.{most_steps}
use Rattle.rules_curve.specs.declared.RawStep.{RawStep}
use Rattle.rules_curve.specs.declared.RawCurve.{RawCurve}
use Rattle.rules_cost.specs.Costs.{most_points}
use Rattle.rules_cost.specs.declared.Costs.{Costs}
use Rattle.rules_cost.specs.declared.Point.{Point}
use Rattle.rules_opening.specs.declared.Resource.{Resource}
use Rattle.rules_opening.specs.declared.Source.{Source}
use Rattle.rules_opening.specs.declared.Source.TheVariants as source
use Rattle.rules_state.specs.Layout.{most_resources, block_room}
use Rattle.rules_state.specs.States.{cell_of}

abbrev pub blocks_room : ℕ
blocks_room = most_resources * block_room

-- eleven steps or points, a curve, costs
abbrev pub pairs_room : ℕ
pairs_room = 22

abbrev pub raw_room : ℕ
raw_room = 2 + pairs_room

abbrev pub cost_room : ℕ
cost_room = 1 + pairs_room + 7

abbrev pub step_numbers : RawStep → List ℤ
step_numbers s = s.end ∷ s.price ∷ []

abbrev pub point_numbers : Point → List ℤ
point_numbers p = p.mw ∷ p.heat ∷ []

unfoldable pub raw_numbers : RawCurve → List ℤ
raw_numbers c = c.start ∷ cell_of c.count ∷ flat_map step_numbers c.steps

abbrev pub charges : Costs → List ℤ
charges c = c.gas ∷ c.rate ∷ c.allowance ∷ c.om ∷ c.msc ∷ c.soc ∷ c.fee ∷ []

unfoldable pub cost_numbers : Costs → List ℤ
cost_numbers c = cell_of c.count ∷ flat_map point_numbers c.points ++ charges c

abbrev pub source_number : Source → ℤ
source_number source.Costs = pos 0
source_number source.Pack = pos 1

unfoldable pub block_numbers : Resource → List ℤ
block_numbers x = x.portfolio ∷ raw_numbers x.bid ++ (source_number x.source ∷ cost_numbers x.costs ++ raw_numbers x.pack)

-- what the types of its arrays say
pub record Rooms (x : Resource) : Type 0 where
  pub bid : length x.bid.steps ≡ most_steps
  pub points : length x.costs.points ≡ most_points
  pub pack : length x.pack.steps ≡ most_steps
