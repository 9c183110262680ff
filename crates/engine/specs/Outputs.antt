-- The outputs of an interval's resources, four of each in turn.
use Rattle.std.specs.Prelude.{List, ◌≡◌, ℤ}
use Rattle.rules_state.specs.Layout.{most_resources}
use Rattle.rules_state.specs.Intervals.{outputs_in}
use Rattle.rules_state.specs.Openings.{numbers_in}

-- a list from which locational prices, dispatches, available quantities and floors are read
pub record OutputsIn (l lmp dispatch available floor : List ℤ) : Type 0 where
  pub lmp_in : outputs_in l 0 ≡ numbers_in lmp most_resources
  pub dispatch_in : outputs_in l 1 ≡ numbers_in dispatch most_resources
  pub available_in : outputs_in l 2 ≡ numbers_in available most_resources
  pub floor_in_lem : outputs_in l 3 ≡ numbers_in floor most_resources
