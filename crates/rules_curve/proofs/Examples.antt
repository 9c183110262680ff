-- Worked examples of paper 01, by computation (Marked for proof: P10).
use mathlib.Core.List.{[], ◌∷◌}
use mathlib.Core.Path.{◌≡◌, refl}
use Prim.Native.Nat.{ℕ, suc}
use lib.IntN.{ℤ, pos, negsuc}
use Rattle.rules_number.specs.Order.{in_range}
use Rattle.rules_number.specs.Over.{listed}
use Rattle.rules_curve.specs.Curves.{step_to, chain, curve_refusal, bid_refusal, default_refusal, price_at}
use Rattle.rules_curve.specs.declared.RawStep.{RawStep}
use Rattle.rules_curve.specs.declared.RawCurve.{RawCurve}

abbrev raw_to : ℤ → ℤ → RawStep
raw_to e p = record { end = e; price = p }

-- a raw curve of n steps, each one wide
abbrev steps : ℕ → RawCurve
steps n = record { start = pos 0; count = n; steps = listed (λ i. raw_to (pos (suc i)) (pos 0)) n }

-- a raw curve of one step
abbrev single : ℤ → ℤ → ℤ → RawCurve
single start end price = record { start = start; count = 1; steps = raw_to end price ∷ [] }

pub record Curves : Type 0 where
  -- P10: price 5000001: refused in month 12, taken in 13
  pub p10_refused : bid_refusal 12 (single (pos 0) (pos 1) (pos 5000001)) ≡ 3
  pub p10_taken : bid_refusal 13 (single (pos 0) (pos 1) (pos 5000001)) ≡ 0
  -- 7500000 until month 24, 10000000 from month 25; -1500000 in any
  pub month_24 : bid_refusal 24 (single (pos 0) (pos 1) (pos 7500001)) ≡ 3
  pub month_25 : bid_refusal 25 (single (pos 0) (pos 1) (pos 10000000)) ≡ 0
  pub lowest : bid_refusal 1 (single (pos 0) (pos 1) (negsuc 1499999)) ≡ 0
  pub below_lowest : bid_refusal 1 (single (pos 0) (pos 1) (negsuc 1500000)) ≡ 3
  -- a default curve has the wider range
  pub wider : default_refusal (single (pos 0) (pos 1000000) (negsuc 999999999)) ≡ 0
  -- the lowest number over the whole curve: the first step's price and the second's end are at fault
  pub lowest_number : bid_refusal 25 (record { start = pos 0; count = 2; steps = raw_to (pos 5) (pos 10000001) ∷ raw_to (pos 5) (pos 0) ∷ [] }) ≡ 2
  -- 10 steps of a bid and 11 of a default curve, and no more
  pub bid_steps_lem : (bid_refusal 25 (steps 10) ≡ 0) × (bid_refusal 25 (steps 11) ≡ 1)
  pub default_steps : (default_refusal (steps 11) ≡ 0) × (default_refusal (steps 12) ≡ 1)
  pub none : bid_refusal 25 (record { start = pos 0; count = 0; steps = [] }) ≡ 1
  -- lower edge <= q < end
  pub at_edge : price_at (step_to 15000 (pos 300000) ∷ step_to 30000 (pos 900000) ∷ []) 15000 ≡ pos 900000

pub examples : Curves
unfolding in_range listed chain curve_refusal price_at
examples = record {
  p10_refused = refl;
  p10_taken = refl;
  month_24 = refl;
  month_25 = refl;
  lowest = refl;
  below_lowest = refl;
  wider = refl;
  lowest_number = refl;
  bid_steps_lem = (refl, refl);
  default_steps = (refl, refl);
  none = refl;
  at_edge = refl;
}
