-- Refusals 1 to 3 of a bid in numbers, exactly: every such bid has an array of eleven steps. Assumes nothing.
use Prim.Native.Nat.{ℕ}
use mathlib.Core.Path.{◌≡◌}
use mathlib.Core.List.{List}
use mathlib.Core.Logic.{◌↔◌}
use lib.IntN.{ℤ}
use lib.ListN.{length}
use Rattle.rules_number.proofs.OverLaws.{listed_length}
use Rattle.rules_curve.specs.Conditions.{bid_demands, default_demands}
use Rattle.rules_curve.specs.Curves.{most_steps, bid_refusal, default_refusal}
use Rattle.rules_curve.specs.Demands.{First}
use Rattle.rules_curve.proofs.Exactly.{bid_exactly, default_exactly}
use Rattle.rules_library.specs.Slices.{raw_step_at, steps_in, raw_bid}

pub eleven_steps : (steps : List ℤ) → length (steps_in steps) ≡ most_steps
eleven_steps steps = listed_length (raw_step_at steps) most_steps

module _ (start : ℤ) (count : ℕ) (steps : List ℤ) where
  pub bid_exactly_in_numbers : (month n : ℕ) → (bid_refusal month (raw_bid start count steps) ≡ n) ↔ First n (bid_demands month (raw_bid start count steps))
  bid_exactly_in_numbers = bid_exactly (raw_bid start count steps) (eleven_steps steps)

  -- the same of the curve of a pack
  pub default_exactly_in_numbers : (n : ℕ) → (default_refusal (raw_bid start count steps) ≡ n) ↔ First n (default_demands (raw_bid start count steps))
  default_exactly_in_numbers = default_exactly (raw_bid start count steps) (eleven_steps steps)
