-- Hours whose bids are worked through, by computation on the definitions: Case T's resource, with L = lmp - 250000 + 100, and one whose hour bid has 20 steps.
use mathlib.Core.List.{List, [], ◌∷◌, ◌++◌}
use mathlib.Core.Path.{◌≡◌, refl}
use Prim.Native.Nat.{ℕ}
use lib.IntN.{ℤ, pos}
use Rattle.rules_number.specs.Order.{in_range}
use Rattle.rules_number.specs.Over.{sum_to, all_to, highest_to, listed, those, sum_over, padded, up_to}
use Rattle.rules_curve.specs.Refusals.{each_to}
use Rattle.rules_curve.specs.Curves.{step_to, price_at, chain, curve_refusal, curve_of}
use Rattle.rules_cost.specs.Costs.{mark, first_to, split_at, count_of_steps, segment_at, end_at, edge_at, width_at, width, unlimited, incremental_rate, fuel, greenhouse, fee_part, step_cost, with_adder, rate_at, largest_rate, step_price, raised_price, cost_curve, mw_suits, mw_good, heat_good, charges_in_range, prices_in_range, rates_good, cost_refusal}
use Rattle.rules_mitigation.specs.Mitigation.{segments_n, joined, joined_after, mitigated, used_steps}
use Rattle.rules_interval.specs.Intervals.{all_within, factors_good, outputs_good, interval_refusal}
use Rattle.rules_path.specs.Paths.{demand, supply, share, withholdable, offer, offers, largest, top, total, sellers, left, is_non_competitive}
use Rattle.rules_opening.specs.Openings.{no_costs, no_resource, sellers_good, owners_good, opening_refusal, market_of}
use Rattle.rules_opening.specs.Resources.{lies_inside, resource_refusal, row_of}
use Rattle.rules_opening.proofs.CaseT.{opening_t, interval_at, cells}
use Rattle.rules_hour.specs.Cuts.{entering, component, cut_from, cut_of}
use Rattle.rules_hour.specs.Hours.{fresh_standing, curve_in, next_standing, call_refusal, standing_after, hour_after}
use Rattle.rules_hour.specs.Opened.{fresh_hour, opened_hour}
use Rattle.rules_pass.specs.Passes.{fresh_quarter, turn_refusal, next_quarter, quarter_after, opened_real_time, interval_after, pass_after}
use Rattle.rules_pass.specs.Calls.{Request, interval, pass, after_all, hour_of}
use Rattle.rules_curve.specs.declared.Step.{Step}
use Rattle.rules_curve.specs.declared.RawStep.{RawStep}
use Rattle.rules_opening.specs.declared.Opening.{Opening}
use Rattle.rules_opening.specs.declared.Source.TheVariants as source
use Rattle.rules_hour_bid.specs.HourBids.{hour_bid_refusal, hour_bid_in, hour_bid_of}

-- the number and the steps of the hour bid of T's resource after these calls
abbrev number : List Request → ℕ
number calls = hour_bid_refusal (hour_of opening_t calls)

abbrev bid_after : List Request → List Step
bid_after calls = used_steps (hour_bid_of (hour_of opening_t calls) 0)

-- an interval at this lmp, one without dispatch, and one with a parameter of 101
abbrev at : ℕ → Request
at lmp = interval (interval_at lmp)

abbrev changed : List ℤ → ℤ → Request
changed dispatch parameter = let v = interval_at 600000 in interval (record {
  constraints = v.constraints;
  shadow = v.shadow;
  resources = v.resources;
  lmp = v.lmp;
  dispatch = cells 64 dispatch;
  available = v.available;
  floor = v.floor;
  factors = v.factors;
  parameter = parameter;
})

abbrev idle : Request
idle = changed [] (pos 100)

abbrev dear : Request
dear = changed (pos 20000 ∷ []) (pos 101)

abbrev three : List Request
three = at 749900 ∷ at 650000 ∷ at 700000 ∷ []

abbrev four : List Request
four = three ++ (at 749900 ∷ [])

-- ---- 20 steps: ten steps of bid and eleven of default curve that end by turns up to the last, their prices rising by turns, and an L below them all
abbrev raw : ℕ → ℕ → RawStep
raw end price = record { end = pos end; price = pos price }

abbrev by_turns : Opening
by_turns = record {
  month = pos 25;
  portfolios = 1;
  sellers = cells 16 (pos 1 ∷ []);
  resources = 1;
  list = padded 64 no_resource (record {
    portfolio = pos 0;
    bid = record { start = pos 0; count = 10; steps = raw 10 10 ∷ raw 20 30 ∷ raw 30 50 ∷ raw 40 70 ∷ raw 50 90 ∷ raw 60 110 ∷ raw 70 130 ∷ raw 80 150 ∷ raw 90 170 ∷ raw 100 190 ∷ [] };
    source = source.Pack;
    costs = no_costs;
    pack = record { start = pos 0; count = 11; steps = raw 5 0 ∷ raw 15 20 ∷ raw 25 40 ∷ raw 35 60 ∷ raw 45 80 ∷ raw 55 100 ∷ raw 65 120 ∷ raw 75 140 ∷ raw 85 160 ∷ raw 95 180 ∷ raw 100 200 ∷ [] };
  } ∷ []);
}

pub record Worked : Type 0 where
  -- 500000, 400100, 400100, 400100 at quantity 15000: the lowest, and from 20000 on the default price, which is above L
  pub lowest : bid_after four ≡ step_to 15000 (pos 300000) ∷ step_to 20000 (pos 400100) ∷ step_to 24000 (pos 444403) ∷ step_to 30000 (pos 488402) ∷ []
  pub told : number four ≡ 0
  -- three accepted, and three with a fourth that is refused: 20, and no curve
  pub early : number three ≡ 20
  pub refused : number (three ++ (dear ∷ [])) ≡ 20
  pub blank : bid_after three ≡ []
  -- four without dispatch: the opened bid
  pub uncut : bid_after (idle ∷ idle ∷ idle ∷ idle ∷ []) ≡ step_to 15000 (pos 300000) ∷ step_to 30000 (pos 900000) ∷ []
  -- passes and refused calls change nothing
  pub passes : bid_after (four ++ (pass (interval_at 600000) ∷ dear ∷ at 600000 ∷ [])) ≡ bid_after four
  -- a resource that the hour doesn't have: a blank curve, and 20 before it
  pub no_resource_lem : used_steps (hour_bid_of (hour_of opening_t four) 64) ≡ []
  -- 20 steps are reached
  pub twenty : (hour_bid_in (hour_of by_turns (at 0 ∷ at 0 ∷ at 0 ∷ at 0 ∷ [])) 0).count ≡ 20

pub worked : Worked
unfolding in_range sum_to all_to highest_to listed those sum_over padded up_to each_to price_at chain curve_refusal curve_of segments_n joined joined_after mitigated
    mark first_to split_at count_of_steps segment_at end_at edge_at width_at width unlimited incremental_rate fuel greenhouse fee_part step_cost with_adder rate_at largest_rate step_price raised_price cost_curve
    mw_suits mw_good heat_good charges_in_range prices_in_range rates_good cost_refusal
    all_within factors_good outputs_good interval_refusal
    demand supply share withholdable offer offers largest top total sellers left is_non_competitive
    entering component cut_from cut_of curve_in fresh_standing next_standing call_refusal standing_after hour_after
    sellers_good owners_good lies_inside resource_refusal opening_refusal row_of market_of fresh_hour opened_hour
    fresh_quarter turn_refusal next_quarter quarter_after opened_real_time interval_after pass_after after_all hour_bid_refusal hour_bid_in hour_bid_of
worked = record {
  lowest = refl;
  told = refl;
  early = refl;
  refused = refl;
  blank = refl;
  uncut = refl;
  passes = refl;
  no_resource_lem = refl;
  twenty = refl;
}
