-- Case T in numbers, by computation on the definitions: opened, and cut by one interval.
use mathlib.Core.List.{List, [], ◌∷◌, ◌++◌}
use mathlib.Core.Path.{◌≡◌, refl, ap, ◌∙◌}
use Prim.Native.Nat.{◌*◌}
use native.Mathlib.Omega.{arith}
use lib.IntN.{ℤ, pos, neg_ℤ, negsuc}
use lib.ListN.{replicate}
use Rattle.rules_number.specs.Order.{in_range}
use Rattle.rules_number.specs.Over.{sum_to, all_to, highest_to, listed, those, sum_over, padded, up_to}
use Rattle.rules_curve.specs.Refusals.{each_to}
use Rattle.rules_curve.specs.Curves.{step_to, chain, curve_refusal, curve_of}
use Rattle.rules_cost.specs.Costs.{mark, first_to, split_at, count_of_steps, segment_at, end_at, edge_at, width_at, width, unlimited, incremental_rate, fuel, greenhouse, fee_part, step_cost, with_adder, rate_at, largest_rate, step_price, raised_price, cost_curve, mw_suits, mw_good, heat_good, charges_in_range, prices_in_range, rates_good, cost_refusal}
use Rattle.rules_mitigation.specs.Mitigation.{segments_n, joined, joined_after, mitigated, used_steps}
use Rattle.rules_interval.specs.Intervals.{interval_of, all_within, factors_good, outputs_good, interval_refusal}
use Rattle.rules_interval.specs.declared.Interval.{Interval}
use Rattle.rules_path.specs.Paths.{demand, supply, share, withholdable, offer, offers, largest, top, total, mask, amount_of, sellers, named, left, is_non_competitive}
use Rattle.rules_path.specs.Verdicts.{verdict_of}
use Rattle.rules_path.specs.Judgements.{path_in}
use Rattle.rules_opening.specs.Openings.{sellers_good, owners_good, opening_refusal, market_of}
use Rattle.rules_opening.specs.Resources.{lies_inside, resource_refusal, row_of}
use Rattle.rules_opening.specs.declared.Opening.{Opening}
use Rattle.rules_opening.proofs.CaseT.{cells, interval_t}
use Rattle.rules_hour.specs.Cuts.{entering, component, cut_from, cut_of}
use Rattle.rules_hour.specs.Hours.{fresh_standing, curve_in, next_standing, call_refusal, standing_after, hour_after}
use Rattle.rules_hour.specs.Opened.{fresh_hour, opened_hour}
use Rattle.rules_pass.specs.Passes.{RealTimeHour, fresh_quarter, turn_refusal, next_quarter, quarter_after, opened_real_time, interval_after, pass_after}
use Rattle.rules_pass.specs.Calls as requests
use Rattle.rules_pass.specs.Calls.{after_all, hour_of}
use Rattle.rules_library.specs.Slices.{costs_in}
use Rattle.rules_state.specs.Layout.{most_constraints, most_resources}
use Rattle.rules_state.specs.States.{hour_in}
use Rattle.rules_state.specs.Openings.{block_of, resource_in, opening_in}
use Rattle.rules_state.specs.Intervals.{outputs_in, interval_in}
use Rattle.rules_state.specs.Verdicts.{verdict_cells}
use Rattle.rules_state.specs.Causes.{cause_of}
use Rattle.rules_state.specs.Calls.{open_answer, state_opened}
use Rattle.rules_state.specs.Lists.{Numbers, interval, interval_by, state_after_calls, requests_in}
use Rattle.rules_state.proofs.ReadNumbers.{short_slice}
use Rattle.rules_state.proofs.NumberCalls.{called_hour}

-- T's resource: portfolio 0, its bid of two steps, costs, three points, seven charges. The block ends there, and the pack is all zeros.
abbrev pub block_t : List ℤ
block_t =
    (pos 0 ∷ pos 10000 ∷ pos 2 ∷ pos 15000 ∷ pos 300000 ∷ pos 30000 ∷ pos 900000 ∷ [])
    ++ replicate 18 (pos 0)
    ++ (pos 0 ∷ pos 3 ∷ pos 10000 ∷ pos 10000 ∷ pos 20000 ∷ pos 9000 ∷ pos 30000 ∷ pos 9500 ∷ [])
    ++ replicate 16 (pos 0)
    ++ (pos 40000 ∷ pos 0 ∷ pos 0 ∷ pos 20000 ∷ pos 1000 ∷ pos 3000 ∷ pos 50 ∷ [])

abbrev pub opening_n : Opening
opening_n = opening_in (pos 25) 1 (pos 1 ∷ []) 1 block_t

-- T's interval, and 640 numbers lent for its verdicts
abbrev pub numbers_t : Numbers
numbers_t = record {
  constraints = 1;
  shadow = pos 500000 ∷ [];
  resources = 1;
  outputs = pos 600000 ∷ pos 20000 ∷ pos 30000 ∷ pos 0 ∷ [];
  factors = neg_ℤ (pos 500000) ∷ [];
  parameter = pos 100;
  verdicts = replicate 640 (pos 7);
}

-- the interval that they are
same_interval : {a a' b b' c c' d d' e e' f f' : List ℤ} → a ≡ a' → b ≡ b' → c ≡ c' → d ≡ d' → e ≡ e' → f ≡ f'
    → interval_of 1 a 1 b c d e f (pos 100) ≡ interval_of 1 a' 1 b' c' d' e' f' (pos 100)
same_interval s l d a f x = rw (s, l, d, a, f, x)

lmp_t : outputs_in numbers_t.outputs 0 ≡ cells 64 (pos 600000 ∷ [])
unfolding listed padded
lmp_t = refl

dispatch_t : outputs_in numbers_t.outputs 1 ≡ cells 64 (pos 20000 ∷ [])
unfolding listed padded
dispatch_t = refl

available_t : outputs_in numbers_t.outputs 2 ≡ cells 64 (pos 30000 ∷ [])
unfolding listed padded
available_t = refl

floor_t : outputs_in numbers_t.outputs 3 ≡ cells 64 []
unfolding listed padded
floor_t = refl

interval_t_lem : interval_by numbers_t ≡ interval_t
unfolding interval_in
interval_t_lem =
    same_interval (short_slice (pos 500000 ∷ []) most_constraints (omega arith)) lmp_t dispatch_t available_t floor_t
    (short_slice (neg_ℤ (pos 500000) ∷ []) (most_resources * most_constraints) (omega arith))

pub record Worked : Type 0 where
  pub read : interval_by numbers_t ≡ interval_t
  -- a state that held sevens
  pub opened : open_answer (replicate 3411 (pos 7)) opening_n ≡ pos 0
  pub short : open_answer (replicate 3410 (pos 7)) opening_n ≡ negsuc 0
  -- the curve of the hour after the interval
  pub curve : used_steps (curve_in (hour_of opening_n (requests.interval interval_t ∷ [])).hour 0)
      ≡ step_to 15000 (pos 300000) ∷ step_to 20000 (pos 378402) ∷ step_to 24000 (pos 444403) ∷ step_to 30000 (pos 488402) ∷ []
  -- why: cut, C, the competitive price, L
  pub cause : cause_of (market_of opening_n) interval_t 0 ≡ pos 1 ∷ pos 250000000000 ∷ pos 350000 ∷ pos 350100 ∷ []
  -- the verdict: non-competitive, demand, left, portfolio 0 named, and what it withholds
  pub verdict : verdict_cells (verdict_of (path_in (market_of opening_n) interval_t 0)) ≡ (pos 1 ∷ pos 10000000000 ∷ pos 0 ∷ pos 1 ∷ pos 15000000000 ∷ []) ++ replicate 15 (pos 0)

pub worked : Worked
unfolding in_range sum_to all_to highest_to listed those sum_over padded up_to each_to chain curve_refusal curve_of segments_n joined joined_after mitigated
    mark first_to split_at count_of_steps segment_at end_at edge_at width_at width unlimited incremental_rate fuel greenhouse fee_part step_cost with_adder rate_at largest_rate step_price raised_price cost_curve
    mw_suits mw_good heat_good charges_in_range prices_in_range rates_good cost_refusal
    all_within factors_good outputs_good interval_refusal
    demand supply share withholdable offer offers largest top total mask amount_of sellers named left is_non_competitive verdict_of
    entering component cut_from cut_of curve_in fresh_standing next_standing call_refusal standing_after hour_after
    sellers_good owners_good lies_inside resource_refusal opening_refusal row_of market_of fresh_hour opened_hour
    fresh_quarter turn_refusal next_quarter quarter_after opened_real_time interval_after pass_after after_all
    costs_in block_of resource_in opening_in open_answer cause_of verdict_cells
worked = record {
  read = interval_t_lem;
  opened = refl;
  short = refl;
  curve = refl;
  cause = refl;
  verdict = refl;
}

-- so the state has that curve, whatever it held before
requests_t : requests_in (interval numbers_t ∷ []) ≡ requests.interval interval_t ∷ []
unfolding requests_in
requests_t = ap (λ (v : Interval). requests.interval v ∷ []) interval_t_lem

pub worked_state : used_steps (curve_in (hour_in (state_after_calls (state_opened (replicate 3411 (pos 7)) opening_n) (interval numbers_t ∷ []))).hour 0)
    ≡ step_to 15000 (pos 300000) ∷ step_to 20000 (pos 378402) ∷ step_to 24000 (pos 444403) ∷ step_to 30000 (pos 488402) ∷ []
worked_state =
    ap (λ (h : RealTimeHour). used_steps (curve_in h.hour 0)) (called_hour (replicate 3411 (pos 7)) opening_n worked.opened (interval numbers_t ∷ []) ∙ ap (hour_of opening_n) requests_t)
    ∙ worked.curve
