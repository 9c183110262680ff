-- The data of case T, and of P3, P5, P6 and P10 (paper 01, Text; Marked for proof).
use mathlib.Core.List.{List, [], ◌∷◌}
use Prim.Native.Nat.{ℕ}
use lib.IntN.{ℤ, pos, neg_ℤ, negsuc}
use Rattle.rules_number.specs.Over.{padded}
use Rattle.rules_curve.specs.declared.RawStep.{RawStep}
use Rattle.rules_curve.specs.declared.RawCurve.{RawCurve}
use Rattle.rules_cost.specs.Costs.{most_points, blank_point}
use Rattle.rules_cost.specs.declared.Point.{Point}
use Rattle.rules_cost.specs.declared.Costs.{Costs}
use Rattle.rules_interval.specs.declared.Interval.{Interval}
use Rattle.rules_path.specs.Paths.{Path, at}
use Rattle.rules_curve.specs.Curves.{most_steps}
use Rattle.rules_opening.specs.Openings.{no_raw, no_resource}
use Rattle.rules_opening.specs.declared.Source.TheVariants as source
use Rattle.rules_opening.specs.declared.Resource.{Resource}
use Rattle.rules_opening.specs.declared.Opening.{Opening}

abbrev pub raw_to : ℕ → ℕ → RawStep
raw_to e p = record { end = pos e; price = pos p }

abbrev pub point : ℕ → ℕ → Point
point m h = record { mw = pos m; heat = pos h }

-- an array of n numbers that holds l
abbrev pub cells : ℕ → List ℤ → List ℤ
cells n l = padded n (pos 0) l

-- ---- T
abbrev pub bid_t : RawCurve
bid_t = record { start = pos 10000; count = 2; steps = padded most_steps (raw_to 0 0) (raw_to 15000 300000 ∷ raw_to 30000 900000 ∷ []) }

abbrev pub costs_t : Costs
costs_t = record {
  count = 3;
  points = padded most_points blank_point (point 10000 10000 ∷ point 20000 9000 ∷ point 30000 9500 ∷ []);
  gas = pos 40000;
  rate = pos 0;
  allowance = pos 0;
  om = pos 20000;
  msc = pos 1000;
  soc = pos 3000;
  fee = pos 50;
}

abbrev pub resource_t : Resource
resource_t = record { portfolio = pos 0; bid = bid_t; source = source.Costs; costs = costs_t; pack = no_raw }

abbrev pub opening_t : Opening
opening_t = record { month = pos 25; portfolios = 1; sellers = cells 16 (pos 1 ∷ []); resources = 1; list = padded 64 no_resource (resource_t ∷ []) }

-- T's interval, with this locational price
abbrev pub interval_at : ℕ → Interval
interval_at lmp = record {
  constraints = 1;
  shadow = cells 32 (pos 500000 ∷ []);
  resources = 1;
  lmp = cells 64 (pos lmp ∷ []);
  dispatch = cells 64 (pos 20000 ∷ []);
  available = cells 64 (pos 30000 ∷ []);
  floor = cells 64 [];
  factors = cells 2048 (neg_ℤ (pos 500000) ∷ []);
  parameter = pos 100;
}

abbrev pub interval_t : Interval
interval_t = interval_at 600000

-- ---- P3: two points with n = h' × m' - h × m = h' × 5 - h × 2 and w = 5 - 2
abbrev pub costs3 : ℕ → ℕ → Costs
costs3 h h' = record {
  count = 2;
  points = padded most_points blank_point (point 2 h ∷ point 5 h' ∷ []);
  gas = pos 0;
  rate = pos 0;
  allowance = pos 0;
  om = pos 0;
  msc = pos 0;
  soc = pos 0;
  fee = pos 0;
}

-- P4's points, with the middle one at m
abbrev pub costs4 : ℕ → Costs
costs4 m = record {
  count = 3;
  points = padded most_points blank_point (point 20000 9000 ∷ point m 9500 ∷ point 30000 9400 ∷ []);
  gas = pos 0;
  rate = pos 0;
  allowance = pos 0;
  om = pos 0;
  msc = pos 0;
  soc = pos 0;
  fee = pos 0;
}

-- ---- P5 and P6: four resources of four portfolios, each with e = 1, which can withhold 5, 4, 3 and 2; the first is seller s
abbrev pub path4 : List ℕ → ℕ → Path
path4 dispatch s = record {
  shadow = pos 1;
  resources = 4;
  factor = λ r. negsuc 0;
  dispatch = at dispatch;
  available = at (5 ∷ 4 ∷ 3 ∷ 2 ∷ []);
  floor = λ r. 0;
  portfolio = λ r. r;
  portfolios = 4;
  seller = at (s ∷ 1 ∷ 1 ∷ 1 ∷ []);
}

-- ---- P10
abbrev pub bid10 : RawCurve
bid10 = record { start = pos 0; count = 1; steps = padded most_steps (raw_to 0 0) (raw_to 1 5000001 ∷ []) }
