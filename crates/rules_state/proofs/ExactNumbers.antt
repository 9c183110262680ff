-- Refusals 1 to 11 of an opening in numbers, exactly: every such opening holds its curves in arrays of eleven steps. Assumes nothing.
use Prim.Native.Nat.{ℕ}
use mathlib.Core.Path.{◌≡◌, sym, subst}
use mathlib.Core.List.{List}
use mathlib.Core.Logic.{◌↔◌}
use lib.IntN.{ℤ}
use lib.ListN.{drop}
use Rattle.rules_number.proofs.OverLaws.{listed_at}
use Rattle.rules_curve.specs.Demands.{First}
use Rattle.rules_opening.specs.Conditions.{opening_demands, EachFull}
use Rattle.rules_opening.specs.Openings.{no_resource, opening_refusal}
use Rattle.rules_opening.specs.ResourceConditions.{Full}
use Rattle.rules_opening.proofs.Exactly.{opening_exactly}
use Rattle.rules_library.proofs.ExactBids.{eleven_steps}
use Rattle.rules_state.specs.Layout.{most_resources}
use Rattle.rules_state.specs.Openings.{opening_in, resource_in, block_of}

full_of_lem : (b : List ℤ) → Full (resource_in b)
unfolding resource_in
full_of_lem b = record { bid = eleven_steps (drop 3 b); pack = eleven_steps (drop 58 b) }

module _ (month : ℤ) (portfolios : ℕ) (sellers : List ℤ) (resources : ℕ) (blocks : List ℤ) where
  pub full_in_numbers : EachFull (opening_in month portfolios sellers resources blocks)
  unfolding opening_in
  full_in_numbers r h low = subst Full (sym (listed_at (λ k. resource_in (block_of blocks k)) no_resource most_resources r low)) (full_of_lem (block_of blocks r))

  -- an opening in numbers is refused with n exactly when n is the number of the first demand that it does not meet
  pub opening_exactly_in_numbers : (n : ℕ) → (opening_refusal (opening_in month portfolios sellers resources blocks) ≡ n) ↔ First n (opening_demands (opening_in month portfolios sellers resources blocks))
  opening_exactly_in_numbers = opening_exactly (opening_in month portfolios sellers resources blocks) full_in_numbers
