-- An hour with passes worked through, by computation on the definitions: Case T's resource at quantity 15000, bid 900000 and default price 378402, with
-- L = lmp - 250000 + 100.
use mathlib.Core.List.{List, [], ◌∷◌, ◌++◌}
use mathlib.Core.Path.{◌≡◌, refl}
use Prim.Native.Nat.{ℕ}
use lib.IntN.{ℤ, pos}
use Rattle.rules_number.specs.Order.{in_range}
use Rattle.rules_number.specs.Over.{sum_to, all_to, highest_to, listed, those, sum_over, padded, up_to}
use Rattle.rules_curve.specs.Refusals.{each_to}
use Rattle.rules_curve.specs.Curves.{price_at, chain, curve_refusal, curve_of}
use Rattle.rules_cost.specs.Costs.{mark, first_to, split_at, count_of_steps, segment_at, end_at, edge_at, width_at, width, unlimited, incremental_rate, fuel, greenhouse, fee_part, step_cost, with_adder, rate_at, largest_rate, step_price, raised_price, cost_curve, mw_suits, mw_good, heat_good, charges_in_range, prices_in_range, rates_good, cost_refusal}
use Rattle.rules_mitigation.specs.Mitigation.{segments_n, joined, joined_after, mitigated, used_steps}
use Rattle.rules_interval.specs.Intervals.{all_within, factors_good, outputs_good, interval_refusal}
use Rattle.rules_interval.specs.declared.Interval.{Interval}
use Rattle.rules_path.specs.Paths.{demand, supply, share, withholdable, offer, offers, largest, top, total, sellers, left, is_non_competitive}
use Rattle.rules_opening.specs.Openings.{sellers_good, owners_good, opening_refusal, market_of}
use Rattle.rules_opening.specs.Resources.{lies_inside, resource_refusal, row_of}
use Rattle.rules_opening.proofs.CaseT.{opening_t, interval_at, cells}
use Rattle.rules_hour.specs.Cuts.{entering, component, cut_from, cut_of}
use Rattle.rules_hour.specs.Hours.{fresh_standing, curve_in, next_standing, call_refusal, standing_after, hour_after}
use Rattle.rules_hour.specs.Opened.{fresh_hour, opened_hour}
use Rattle.rules_pass.specs.Passes.{RealTimeHour, fresh_quarter, turn_refusal, next_quarter, quarter_after, opened_real_time, interval_after, pass_after, five_minute_in}
use Rattle.rules_pass.specs.Calls.{Request, interval, pass, after_all, hour_of, answers_from, answers}

-- the hourly and the five-minute price of the quantity, and how many intervals and passes are accepted
pub record Standing : Type 0 where
  pub hourly : ℤ
  pub five : ℤ
  pub intervals : ℕ
  pub passes : ℕ

abbrev pub stands : ℕ → ℕ → ℕ → ℕ → Standing
stands x y n k = record { hourly = pos x; five = pos y; intervals = n; passes = k }

abbrev pub standing_in : RealTimeHour → Standing
standing_in h = record {
  hourly = price_at (used_steps (curve_in h.hour 0)) 15000;
  five = price_at (used_steps (five_minute_in h 0)) 15000;
  intervals = h.hour.standing.accepted;
  passes = h.quarter.passes;
}

abbrev pub after : List Request → Standing
after calls = standing_in (hour_of opening_t calls)

-- an interval or a pass at this lmp; without dispatch; with a parameter of 101; for two resources and with that parameter
abbrev at : ℕ → Interval
at = interval_at

abbrev idle : Interval
idle = let v = at 600000 in record {
  constraints = v.constraints;
  shadow = v.shadow;
  resources = v.resources;
  lmp = v.lmp;
  dispatch = cells 64 [];
  available = v.available;
  floor = v.floor;
  factors = v.factors;
  parameter = v.parameter;
}

abbrev dear : Interval
dear = let v = at 600000 in record {
  constraints = v.constraints;
  shadow = v.shadow;
  resources = v.resources;
  lmp = v.lmp;
  dispatch = v.dispatch;
  available = v.available;
  floor = v.floor;
  factors = v.factors;
  parameter = pos 101;
}

abbrev wide : Interval
wide = let v = at 600000 in record {
  constraints = v.constraints;
  shadow = v.shadow;
  resources = 2;
  lmp = v.lmp;
  dispatch = v.dispatch;
  available = v.available;
  floor = v.floor;
  factors = v.factors;
  parameter = pos 101;
}

-- an interval, a pass, a refused pass, and passes up to the third
abbrev one : List Request
one = interval (at 749900) ∷ pass (at 650000) ∷ pass dear ∷ []

abbrev three : List Request
three = one ++ (pass (at 749900) ∷ pass (at 600000) ∷ [])

-- a fourth pass; an interval without dispatch, one that is refused, and three more
abbrev fourth : List Request
fourth = three ++ (pass dear ∷ [])

abbrev full : List Request
full = fourth ++ (interval idle ∷ interval dear ∷ interval idle ∷ interval idle ∷ interval idle ∷ [])

pub record Worked : Type 0 where
  pub opened : after [] ≡ stands 900000 900000 0 0
  -- before any interval a pass is refused with 19, whatever it carries
  pub early : answers opening_t (pass (at 600000) ∷ pass wide ∷ []) ≡ 19 ∷ 19 ∷ []
  pub unchanged : after (pass (at 600000) ∷ []) ≡ stands 900000 900000 0 0
  -- an interval begins a quarter hour; its passes cut the five-minute price alone
  pub begins : after (interval (at 749900) ∷ []) ≡ stands 500000 500000 1 0
  pub cuts : after (interval (at 749900) ∷ pass (at 650000) ∷ []) ≡ stands 500000 400100 1 1
  pub refused : after one ≡ stands 500000 400100 1 1
  pub third : after three ≡ stands 500000 378402 1 3
  pub numbers : answers opening_t three ≡ 0 ∷ 0 ∷ 15 ∷ 0 ∷ 0 ∷ []
  -- the fourth is refused, and no resource count or parameter is looked at before
  pub no_fourth : answers opening_t fourth ≡ 0 ∷ 0 ∷ 15 ∷ 0 ∷ 0 ∷ 19 ∷ []
  pub left : after fourth ≡ stands 500000 378402 1 3
  -- an accepted interval begins another quarter hour, and a refused one leaves the passes
  pub again : after (fourth ++ (interval idle ∷ [])) ≡ stands 500000 500000 2 0
  pub kept : after (three ++ (interval dear ∷ [])) ≡ stands 500000 378402 1 3
  -- four intervals are accepted: another is refused with 12, and a pass is taken
  pub past_four : answers opening_t (full ++ (pass (at 650000) ∷ interval idle ∷ [])) ≡ 0 ∷ 0 ∷ 15 ∷ 0 ∷ 0 ∷ 19 ∷ 0 ∷ 15 ∷ 0 ∷ 0 ∷ 12 ∷ 0 ∷ 12 ∷ []
  pub taken : after (full ++ (pass (at 650000) ∷ [])) ≡ stands 500000 400100 4 1

pub worked : Worked
unfolding in_range sum_to all_to highest_to listed those sum_over padded up_to each_to price_at chain curve_refusal curve_of segments_n joined joined_after mitigated
    mark first_to split_at count_of_steps segment_at end_at edge_at width_at width unlimited incremental_rate fuel greenhouse fee_part step_cost with_adder rate_at largest_rate step_price raised_price cost_curve
    mw_suits mw_good heat_good charges_in_range prices_in_range rates_good cost_refusal
    all_within factors_good outputs_good interval_refusal
    demand supply share withholdable offer offers largest top total sellers left is_non_competitive
    entering component cut_from cut_of curve_in fresh_standing next_standing call_refusal standing_after hour_after
    sellers_good owners_good lies_inside resource_refusal opening_refusal row_of market_of fresh_hour opened_hour
    fresh_quarter turn_refusal next_quarter quarter_after opened_real_time interval_after pass_after five_minute_in after_all answers_from
worked = record {
  opened = refl;
  early = refl;
  unchanged = refl;
  begins = refl;
  cuts = refl;
  refused = refl;
  third = refl;
  numbers = refl;
  no_fourth = refl;
  left = refl;
  again = refl;
  kept = refl;
  past_four = refl;
  taken = refl;
}
