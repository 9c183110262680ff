-- Answers worked out from paper 01: case T, P10, and slices that are too small.
use mathlib.Core.List.{List, [], ◌∷◌, ◌++◌}
use mathlib.Core.Path.{◌≡◌, refl}
use Prim.Native.Nat.{ℕ}
use lib.IntN.{ℤ, pos, negsuc}
use lib.ListN.{replicate}
use Rattle.rules_number.specs.Order.{in_range}
use Rattle.rules_number.specs.Over.{all_to, highest_to, listed, padded}
use Rattle.rules_curve.specs.Curves.{chain, curve_refusal, bid_refusal}
use Rattle.rules_cost.specs.Costs.{mark, first_to, split_at, count_of_steps, segment_at, end_at, edge_at, width_at, width, unlimited, incremental_rate, fuel, greenhouse, fee_part, step_cost, with_adder, rate_at, largest_rate, step_price, raised_price, cost_curve, mw_suits, mw_good, heat_good, charges_in_range, prices_in_range, rates_good, cost_refusal}
use Rattle.rules_cost.specs.declared.Costs.{Costs}
use Rattle.rules_library.specs.Slices.{raw_bid, costs_in, default_answer, edges_with, prices_with, edges_after, prices_after}

-- T's bid and costs, and one bid of a price over that of month 12
abbrev steps_t : List ℤ
steps_t = pos 15000 ∷ pos 300000 ∷ pos 30000 ∷ pos 900000 ∷ []

abbrev costs_t : Costs
costs_t =
    costs_in 3 (pos 10000 ∷ pos 10000 ∷ pos 20000 ∷ pos 9000 ∷ pos 30000 ∷ pos 9500 ∷ []) (pos 40000 ∷ pos 0 ∷ pos 0 ∷ pos 20000 ∷ pos 1000 ∷ pos 3000 ∷ pos 50 ∷ [])

abbrev over : List ℤ
over = pos 1 ∷ pos 5000001 ∷ []

-- lent slices of n numbers
abbrev edges : ℕ → List ℕ
edges n = replicate n 7

abbrev prices : ℕ → List ℤ
prices n = replicate n (pos 7)

pub record Worked : Type 0 where
  -- T's bid is taken; with a third step, which stands past the slice's end, its edge is refused
  pub bid_t_lem : bid_refusal 25 (raw_bid (pos 10000) 2 steps_t) ≡ 0
  pub bid_past : bid_refusal 25 (raw_bid (pos 10000) 3 steps_t) ≡ 2
  -- P10: refused in month 12, taken in 13
  pub p10_refused : bid_refusal 12 (raw_bid (pos 0) 1 over) ≡ 3
  pub p10_taken : bid_refusal 13 (raw_bid (pos 0) 1 over) ≡ 0
  -- T's default curve, in slices that have one number more than they need
  pub answer_t : default_answer (edges 14) (prices 12) costs_t ≡ pos 0
  pub edges_t : edges_after (edges 14) (prices 12) costs_t ≡ 3 ∷ 10000 ∷ 20000 ∷ 24000 ∷ 30000 ∷ 0 ∷ 0 ∷ 0 ∷ 0 ∷ 0 ∷ 0 ∷ 0 ∷ 0 ∷ 7 ∷ []
  pub prices_t : prices_after (edges 14) (prices 12) costs_t ≡ pos 378402 ∷ pos 444403 ∷ pos 488402 ∷ replicate 8 (pos 0) ++ (pos 7 ∷ [])
  -- 12 edges, or 10 prices, are too few
  pub few_edges : default_answer (edges 12) (prices 11) costs_t ≡ negsuc 0
  pub few_prices : default_answer (edges 13) (prices 10) costs_t ≡ negsuc 0
  pub few_left : edges_after (edges 13) (prices 10) costs_t ≡ edges 13
  -- no point at all is refused by number 4, and the slices are left as they were
  pub refused : default_answer (edges 13) (prices 11) (costs_in 0 [] []) ≡ pos 4
  pub refused_edges : edges_after (edges 13) (prices 11) (costs_in 0 [] []) ≡ edges 13
  pub refused_prices : prices_after (edges 13) (prices 11) (costs_in 0 [] []) ≡ prices 11

pub worked : Worked
unfolding in_range all_to highest_to listed padded chain curve_refusal mark first_to split_at count_of_steps segment_at end_at edge_at width_at width unlimited incremental_rate fuel greenhouse fee_part step_cost with_adder rate_at largest_rate step_price raised_price cost_curve mw_suits mw_good heat_good charges_in_range prices_in_range rates_good cost_refusal costs_in edges_with prices_with
worked = record {
  bid_t_lem = refl;
  bid_past = refl;
  p10_refused = refl;
  p10_taken = refl;
  answer_t = refl;
  edges_t = refl;
  prices_t = refl;
  few_edges = refl;
  few_prices = refl;
  few_left = refl;
  refused = refl;
  refused_edges = refl;
  refused_prices = refl;
}

-- seven charges that differ, each in its place
charges : costs_in 2 (pos 10 ∷ pos 11 ∷ pos 12 ∷ pos 13 ∷ []) (pos 1 ∷ pos 2 ∷ pos 3 ∷ pos 4 ∷ pos 5 ∷ pos 6 ∷ pos 7 ∷ []) ≡ record {
  count = 2;
  points = record { mw = pos 10; heat = pos 11 } ∷ record { mw = pos 12; heat = pos 13 } ∷ replicate 9 (record { mw = pos 0; heat = pos 0 });
  gas = pos 1;
  rate = pos 2;
  allowance = pos 3;
  om = pos 4;
  msc = pos 5;
  soc = pos 6;
  fee = pos 7;
}
unfolding costs_in listed
charges = refl
