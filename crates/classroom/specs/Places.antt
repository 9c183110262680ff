-- The classroom bids by their places, as the code makes them.
use Rattle.std.specs.Prelude.{cond, List, [], ◌∷◌, ℕ, ◌+◌, ◌-◌, ◌*◌, ◌/◌, ◌%◌, ltb, pos, get_or}
use Rattle.rules_number.specs.Over.{padded}
use Rattle.rules_curve.specs.Conditions.{no_step}
use Rattle.rules_curve.specs.Curves.{most_steps}
use Rattle.rules_curve.specs.declared.RawStep.{RawStep}
use Rattle.rules_curve.specs.declared.RawCurve.{RawCurve}

-- the step of the last digit of each, and the bid of three digits of each
abbrev pub step_at_place : ℕ → ℕ → RawStep
step_at_place ends prices = record { end = pos (ends % 10 * 100); price = pos (prices % 10 * 10000) }

unfoldable pub bid_by : ℕ → ℕ → ℕ → RawCurve
bid_by count ends prices = record {
  start = pos 0;
  count = count;
  steps = padded most_steps no_step (step_at_place (ends / 100) (prices / 100) ∷ step_at_place (ends / 10) (prices / 10) ∷ step_at_place ends prices ∷ []);
}

-- ends and prices of two steps, and prices of three, smaller first
abbrev pub ends_of_two : List ℕ
ends_of_two = 120 ∷ 130 ∷ 230 ∷ []

abbrev pub prices_of_two : List ℕ
prices_of_two = 0 ∷ 10 ∷ 20 ∷ 110 ∷ 120 ∷ 220 ∷ []

abbrev pub prices_of_three : List ℕ
prices_of_three = 0 ∷ 1 ∷ 2 ∷ 11 ∷ 12 ∷ 22 ∷ 111 ∷ 112 ∷ 122 ∷ 222 ∷ []

unfoldable pub bid_at : ℕ → RawCurve
bid_at k =
    cond (ltb k 9) (bid_by 1 ((k / 3 + 1) * 100) (k % 3 * 100))
    (cond (ltb k 27) (bid_by 2 (get_or ends_of_two ((k - 9) / 6) 0) (get_or prices_of_two ((k - 9) % 6) 0))
    (cond (ltb k 37) (bid_by 3 123 (get_or prices_of_three (k - 27) 0)) (bid_by 0 0 0)))
