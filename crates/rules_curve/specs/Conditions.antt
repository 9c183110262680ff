-- What a curve must be like, in paper 01's words (Curve; Refused, by place: 1 to 3). No definition of the engine is cited here.
use Rattle.std.specs.Prelude.{List, [], ◌∷◌, ℕ, zero, suc, ◌<◌, ◌≤◌, ℤ, pos, neg_ℤ, get_or, ◌≤ℤ◌, ◌<ℤ◌}
use Rattle.rules_curve.specs.Demands.{Demand, ◌asks◌, Between}
use Rattle.rules_curve.specs.declared.RawStep.{RawStep}
use Rattle.rules_curve.specs.declared.RawCurve.{RawCurve}

-- a curve's steps are numbered from 0 to count - 1
abbrev pub no_step : RawStep
no_step = record { end = pos 0; price = pos 0 }

abbrev pub step_at : RawCurve → ℕ → RawStep
step_at c i = get_or c.steps i no_step

abbrev pub price : RawCurve → ℕ → ℤ
price c i = (step_at c i).price

-- the edges are numbered from 0 to count: edge 0 is the start, and edge i + 1 the end of step i
abbrev pub edge : RawCurve → ℕ → ℤ
edge c zero = c.start
edge c (suc i) = (step_at c i).end

-- 1: "step count outside 1 to 10"; "refusal 1 allows a default curve 11"
pub record Counted (most : ℕ) (c : RawCurve) : Type 0 where
  pub at_least : 1 ≤ c.count
  pub at_most : c.count ≤ most

-- 2: "an edge outside 0 to 1,000,000, or edges not rising"
pub record Edged (c : RawCurve) : Type 0 where
  pub within : (i : ℕ) → i ≤ c.count → Between (pos 0) (pos 1000000) (edge c i)
  pub rising : (i : ℕ) → i < c.count → edge c i <ℤ edge c (suc i)

-- 3: "price outside its range, or falling"
pub record Priced (low top : ℤ) (c : RawCurve) : Type 0 where
  pub within : (i : ℕ) → i < c.count → Between low top (price c i)
  pub never_falling_lem : (i : ℕ) → suc i < c.count → price c i ≤ℤ price c (suc i)

-- the range of a bid price: "at least -1,500,000 and at most 5,000,000 in months 1 to 12, 7,500,000 in months 13 to 24, 10,000,000 from month 25"
pub record BidPriced (month : ℕ) (c : RawCurve) : Type 0 where
  pub months_to_12 : month ≤ 12 → Priced (neg_ℤ (pos 1500000)) (pos 5000000) c
  pub months_13_to_24 : 13 ≤ month → month ≤ 24 → Priced (neg_ℤ (pos 1500000)) (pos 7500000) c
  pub months_from_25 : 25 ≤ month → Priced (neg_ℤ (pos 1500000)) (pos 10000000) c

-- of a default curve: "-1,000,000,000 to 1,000,000,000"
abbrev pub DefaultPriced : RawCurve → Type 0
DefaultPriced c = Priced (neg_ℤ (pos 1000000000)) (pos 1000000000) c

-- a bid in a month, and a default curve from a pack
abbrev pub bid_demands : ℕ → RawCurve → List Demand
bid_demands month c = (1 asks Counted 10 c) ∷ (2 asks Edged c) ∷ (3 asks BidPriced month c) ∷ []

abbrev pub default_demands : RawCurve → List Demand
default_demands c = (1 asks Counted 11 c) ∷ (2 asks Edged c) ∷ (3 asks DefaultPriced c) ∷ []
