-- Laws of floor prices read from cells. Assumes nothing.
use Prim.Native.Nat.{ℕ, ◌+◌, ◌≤◌, ◌<◌}
use mathlib.Core.Path.{◌≡◌}
use mathlib.Core.List.{List}
use native.Mathlib.Omega.{arith}
use lib.IntN.{ℤ}
use lib.ListN.{length, get_or, get_or-eq_default}
use Rattle.rules_number.proofs.OverLaws.{listed_length, listed_at}
use Rattle.rules_hour.specs.Hours.{uncut}
use Rattle.rules_library.specs.Slices.{cell_at}
use Rattle.rules_state.specs.Layout.{most_resources}
use Rattle.rules_state.specs.States.{floor_of, floors_in}

module _ (l : List ℤ) (from : ℕ) where
  pub floors_length : length (floors_in l from) ≡ most_resources
  unfolding floors_in
  floors_length = listed_length _ most_resources

  -- the floor price of a resource, and of none
  pub floors_at : (r : ℕ) → r < most_resources → get_or (floors_in l from) r uncut ≡ floor_of (cell_at l (from + r)) (cell_at l (from + most_resources + r))
  unfolding floors_in
  floors_at r h = listed_at _ uncut most_resources r h

  pub floors_past : (r : ℕ) → most_resources ≤ r → get_or (floors_in l from) r uncut ≡ uncut
  floors_past r h = get_or-eq_default (floors_in l from) uncut (omega (arith, floors_length))
