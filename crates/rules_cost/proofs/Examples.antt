-- Default curves worked out: P1, P3 and P4 of paper 01, read with the split of paper 02, and costs at the edge of each rule and range.
use mathlib.Core.Bool.{true, false}
use mathlib.Core.List.{List, [], ◌∷◌, ◌++◌}
use mathlib.Core.Path.{◌≡◌, refl}
use Prim.Native.Nat.{ℕ, ◌*◌}
use lib.IntN.{pos, neg_ℤ}
use lib.ListN.{length, replicate}
use Rattle.rules_number.specs.Order.{in_range}
use Rattle.rules_number.specs.Over.{all_to, highest_to, listed, padded}
use Rattle.rules_curve.specs.Curves.{step_to, steps_of}
use Rattle.rules_cost.specs.Costs.{mark, first_to, split_at, count_of_steps, segment_at, end_at, edge_at, width_at, width, unlimited, is_limited, incremental_rate, fuel, greenhouse, fee_part, step_cost, with_adder, rate_at, largest_rate, step_price, raised_price, cost_curve, mw_suits, mw_good, heat_good, charges_in_range, prices_in_range, rates_good, cost_refusal}
use Rattle.rules_cost.specs.declared.Point.{Point}
use Rattle.rules_cost.specs.declared.Costs.{Costs}

abbrev pub point : ℕ → ℕ → Point
point m h = record { mw = pos m; heat = pos h }

-- costs with these points, gas, rate, allowance and fee, and no other charge
abbrev pub costs_of : List Point → ℕ → ℕ → ℕ → ℕ → Costs
costs_of l gas rate allowance fee =
    record { count = length l; points = l; gas = pos gas; rate = pos rate; allowance = pos allowance; om = pos 0; msc = pos 0; soc = pos 0; fee = pos fee }

-- Case T's costs
abbrev pub costs_t : Costs
costs_t = record {
  count = 3;
  points = point 10000 10000 ∷ point 20000 9000 ∷ point 30000 9500 ∷ [];
  gas = pos 40000;
  rate = pos 0;
  allowance = pos 0;
  om = pos 20000;
  msc = pos 1000;
  soc = pos 3000;
  fee = pos 50;
}

-- two points 3 apart, with n = 10 and with n = -10
abbrev pub rising : Costs
rising = costs_of (point 2 5 ∷ point 5 4 ∷ []) 0 0 0 0

abbrev pub falling : Costs
falling = costs_of (point 2 10 ∷ point 5 2 ∷ []) 0 0 0 0

-- a PMax and a first segment that ends at m: n / w, up, is 272 for m of 23999 to 24004, and the larger of h and h' is 200
abbrev pub ending_at : ℕ → ℕ → Costs
ending_at top m = costs_of (point 10000 100 ∷ point m 200 ∷ point top 200 ∷ []) 0 0 0 0

-- another first segment that ends at m: n / w, up, is 12000 for m of 24001, and the larger of h and h' is 9500
abbrev pub steep : ℕ → Costs
steep m = costs_of (point 20000 9000 ∷ point m 9500 ∷ point 30000 9400 ∷ []) 0 0 0 0

-- a segment from 7 to 9 that is split at 8, with a fee of 1,000,000
abbrev pub sliver : Costs
sliver = costs_of (point 0 1 ∷ point 7 1 ∷ point 9 1 ∷ point 10 1 ∷ []) 0 0 0 1000000

-- eleven points, with the mark, 808, inside the ninth segment
abbrev pub many : Costs
many = costs_of (listed (λ i. point (100 * i) 1) 10 ++ (point 1010 1 ∷ [])) 0 0 0 0

-- R falls from 10000 to 4995, and the last step is narrow
abbrev pub narrow : Costs
narrow = costs_of (point 0 10000 ∷ point 10000 10000 ∷ point 10010 9995 ∷ []) 1000 200000 1000000 1000000

-- R falls from 10000 to 8900, and the second segment is a tenth as wide
abbrev pub lower : Costs
lower = costs_of (point 0 10000 ∷ point 10000 10000 ∷ point 11000 9900 ∷ []) 30000 53073 250000 1000000

-- R falls from 9000, by the limit, to -3000
abbrev pub under : Costs
under = costs_of (point 1000 5000 ∷ point 2000 9000 ∷ point 3000 5000 ∷ []) 20000 53073 250001 0

-- one segment of width 3, with these costs
abbrev pub small : ℕ → ℕ → ℕ → ℕ → Costs
small = costs_of (point 0 1 ∷ point 3 1 ∷ [])

-- one segment of width 3, with the charges om, msc and soc alone
abbrev pub charged : ℕ → ℕ → ℕ → Costs
charged om msc soc =
    record { count = 2; points = point 0 1 ∷ point 3 1 ∷ []; gas = pos 0; rate = pos 0; allowance = pos 0; om = pos om; msc = pos msc; soc = pos soc; fee = pos 0 }

-- one segment from -1, and one with a gas price of -1
abbrev pub below_zero : Costs
below_zero = costs_of (record { mw = neg_ℤ (pos 1); heat = pos 1 } ∷ point 3 1 ∷ []) 0 0 0 0

abbrev pub gas_below_zero : Costs
gas_below_zero =
    record { count = 2; points = point 0 1 ∷ point 3 1 ∷ []; gas = neg_ℤ (pos 1); rate = pos 0; allowance = pos 0; om = pos 0; msc = pos 0; soc = pos 0; fee = pos 0 }

pub record Worked : Type 0 where
  -- P1: T's costs give 378402, 488402; with the split "the second segment becomes 444403 up to 24000 and 488402 up to 30000"
  pub p1 : steps_of (cost_curve costs_t) ≡ step_to 20000 (pos 378402) ∷ step_to 24000 (pos 444403) ∷ step_to 30000 (pos 488402) ∷ []
  pub p1_mark : (mark costs_t ≡ pos 24000) × (split_at costs_t ≡ 1) × (count_of_steps costs_t ≡ 3)
  -- its second segment has n / w, up, 10500, which the lower part limits to 9500
  pub p1_rates : (rate_at costs_t 0 ≡ pos 8000) × (rate_at costs_t 1 ≡ pos 9500) × (rate_at costs_t 2 ≡ pos 10500)
  -- fee 5000 / 4000 up, 2, and 5000 / 6000 up, 1
  pub p1_fees : (width_at costs_t 1 ≡ 4000) × (width_at costs_t 2 ≡ 6000) × (fee_part costs_t 4000 ≡ pos 2) × (fee_part costs_t 6000 ≡ pos 1)
  pub p1_start : (cost_curve costs_t).start ≡ 10000
  pub p1_taken : cost_refusal costs_t ≡ 0
  -- P3: n 10, w 3: R 4; n -10: -3
  pub p3_up : rate_at rising 0 ≡ pos 4
  pub p3_down : rate_at falling 0 ≡ neg_ℤ (pos 3)
  -- P4: PMax 30000: end 24000 is limited, 24001 isn't
  pub p4_limited : is_limited (pos 30000) (pos 24000) ≡ true
  pub p4_not : is_limited (pos 30000) (pos 24001) ≡ false
  -- an end at 24000 is one step, limited; one at 24001 is two, of which the upper isn't
  pub p4_whole : (count_of_steps (steep 24000) ≡ 2) × (rate_at (steep 24000) 0 ≡ pos 9500)
  pub p4_two : (count_of_steps (steep 24001) ≡ 3) × (end_at (steep 24001) 0 ≡ pos 24000) × (end_at (steep 24001) 1 ≡ pos 24001)
  pub p4_two_rates : (rate_at (steep 24001) 0 ≡ pos 9500) × (rate_at (steep 24001) 1 ≡ pos 12000)
  -- the mark is rounded down where 5 doesn't divide 4 × PMax: 120004 / 5, 120016 / 5 and 119996 / 5. A segment that ends there is whole, one that ends one past it isn't
  pub p4_30001_limited : (count_of_steps (ending_at 30001 24000) ≡ 2) × (rate_at (ending_at 30001 24000) 0 ≡ pos 200)
  pub p4_30001_not : (end_at (ending_at 30001 24001) 0 ≡ pos 24000) × (rate_at (ending_at 30001 24001) 0 ≡ pos 200) × (rate_at (ending_at 30001 24001) 1 ≡ pos 272)
  pub p4_30004_limited : (count_of_steps (ending_at 30004 24003) ≡ 2) × (rate_at (ending_at 30004 24003) 0 ≡ pos 200)
  pub p4_30004_not : (end_at (ending_at 30004 24004) 0 ≡ pos 24003) × (rate_at (ending_at 30004 24004) 0 ≡ pos 200) × (rate_at (ending_at 30004 24004) 1 ≡ pos 272)
  pub p4_29999_limited : (count_of_steps (ending_at 29999 23999) ≡ 2) × (rate_at (ending_at 29999 23999) 0 ≡ pos 200)
  pub p4_29999_not : (end_at (ending_at 29999 24000) 0 ≡ pos 23999) × (rate_at (ending_at 29999 24000) 0 ≡ pos 200) × (rate_at (ending_at 29999 24000) 1 ≡ pos 272)
  pub p4_30001_tests : (is_limited (pos 30001) (pos 24000) ≡ true) × (is_limited (pos 30001) (pos 24001) ≡ false)
  pub p4_30004_tests : (is_limited (pos 30004) (pos 24003) ≡ true) × (is_limited (pos 30004) (pos 24004) ≡ false)
  pub p4_29999_tests : (is_limited (pos 29999) (pos 23999) ≡ true) × (is_limited (pos 29999) (pos 24000) ≡ false)
  -- a negative R: fuel, greenhouse and fee part each rounded up, then the price
  pub below_zero_lem : steps_of (cost_curve (costs_of (point 10 100 ∷ point 20 1 ∷ []) 1000 200000 1000000 3)) ≡ step_to 16 (neg_ℤ (pos 21612)) ∷ step_to 20 (neg_ℤ (pos 21585)) ∷ []
  -- each part is rounded by itself: fuel 1, greenhouse 1 and fee part 34
  pub each_part : steps_of (cost_curve (costs_of (point 9 1 ∷ point 12 1 ∷ point 15 1 ∷ []) 1 1 1 1)) ≡ step_to 12 (pos 40) ∷ step_to 15 (pos 40) ∷ []
  -- one segment 0 to 7: k is 5, and PMax 1 has k 0, which is no edge more
  pub one_segment : steps_of (cost_curve (costs_of (point 0 1 ∷ point 7 1 ∷ []) 0 0 0 1)) ≡ step_to 5 (pos 22) ∷ step_to 7 (pos 55) ∷ []
  pub mark_at_start : steps_of (cost_curve (costs_of (point 0 1 ∷ point 1 1 ∷ []) 0 0 0 1)) ≡ step_to 1 (pos 110) ∷ []
  -- the fee of a part that is one hundredth wide exceeds that of the step before it
  pub sliver_curve : steps_of (cost_curve sliver) ≡ step_to 7 (pos 15714287) ∷ step_to 8 (pos 110000000) ∷ step_to 9 (pos 110000000) ∷ step_to 10 (pos 110000000) ∷ []
  -- eleven points, and as many steps
  pub eleven_steps : (cost_refusal many ≡ 0) × (length (steps_of (cost_curve many)) ≡ 11)
  -- fuel from the largest R so far, greenhouse from R, fee part over the step's own width
  pub from_m_and_r : steps_of (cost_curve narrow) ≡ step_to 8008 (pos 2224737) ∷ step_to 10000 (pos 2266222) ∷ step_to 10010 (pos 12109900) ∷ []
  -- greenhouse where R is below M. The last step has M 10000 and R 8900: fuel 300000, greenhouse 8900 × 53073 × 250000 / 1,000,000,000, up: 118088
  -- (from M it would be 132683 and the price 585952), fee part 100000, cost 518088
  pub lower_rates : (rate_at lower 0 ≡ pos 10000) × (rate_at lower 1 ≡ pos 10000) × (rate_at lower 2 ≡ pos 8900) × (largest_rate lower 2 ≡ pos 10000)
  pub lower_parts : (fuel lower (pos 10000) ≡ pos 300000) × (greenhouse lower (pos 8900) ≡ pos 118088) × (fee_part lower 1000 ≡ pos 100000)
  pub lower_curve : steps_of (cost_curve lower) ≡ step_to 8800 (pos 488452) ∷ step_to 10000 (pos 567619) ∷ step_to 11000 (pos 569897) ∷ []
  -- both parts of the second segment have M 9000 and R -3000: fuel 180000, greenhouse -39804.909.., up: -39804 (from M it would be 119415), cost 140196; the price is raised
  pub under_rates : (rate_at under 0 ≡ pos 9000) × (rate_at under 1 ≡ neg_ℤ (pos 3000)) × (rate_at under 2 ≡ neg_ℤ (pos 3000)) × (largest_rate under 2 ≡ pos 9000)
  pub under_parts : (fuel under (pos 9000) ≡ pos 180000) × (greenhouse under (neg_ℤ (pos 3000)) ≡ neg_ℤ (pos 39804)) × (fee_part under 1000 ≡ pos 0)
  pub under_prices : (step_price under 0 ≡ pos 329357) × (step_price under 1 ≡ pos 154216) × (step_price under 2 ≡ pos 154216)
  pub under_curve : steps_of (cost_curve under) ≡ step_to 2000 (pos 329357) ∷ step_to 2400 (pos 329357) ∷ step_to 3000 (pos 329357) ∷ []
  -- a narrow step's fee exceeds its right neighbour's: the others are raised from 139 and 550
  pub second : step_price (costs_of (point 0 1 ∷ point 1 1 ∷ point 1000 1 ∷ []) 0 0 0 1000) 1 ≡ pos 139
  pub third : step_price (costs_of (point 0 1 ∷ point 1 1 ∷ point 1000 1 ∷ []) 0 0 0 1000) 2 ≡ pos 550
  pub raised : steps_of (cost_curve (costs_of (point 0 1 ∷ point 1 1 ∷ point 1000 1 ∷ []) 0 0 0 1000)) ≡ step_to 1 (pos 110000) ∷ step_to 800 (pos 110000) ∷ step_to 1000 (pos 110000) ∷ []
  -- 4: one point or twelve
  pub one_point_lem : cost_refusal (costs_of (point 0 1 ∷ []) 0 0 0 0) ≡ 4
  pub twelve_points : cost_refusal (costs_of (replicate 12 (point 0 1)) 0 0 0 0) ≡ 4
  -- 5: m below 0, beyond 1,000,000, or not above the one before it; it comes before 6
  pub under_the_bottom : cost_refusal below_zero ≡ 5
  pub at_the_top : cost_refusal (costs_of (point 0 1 ∷ point 1000000 1 ∷ []) 0 0 0 0) ≡ 0
  pub past_the_top : cost_refusal (costs_of (point 0 1 ∷ point 1000001 1 ∷ []) 0 0 0 0) ≡ 5
  pub level : cost_refusal (costs_of (point 3 1 ∷ point 3 1 ∷ []) 0 0 0 0) ≡ 5
  pub five_before_six : cost_refusal (costs_of (point 3 0 ∷ point 3 1 ∷ []) 0 0 0 0) ≡ 5
  -- 6: h of 0, or above 100,000
  pub no_heat : cost_refusal (costs_of (point 0 0 ∷ point 3 1 ∷ []) 0 0 0 0) ≡ 6
  pub most_heat : cost_refusal (costs_of (point 0 100000 ∷ point 3 100000 ∷ []) 0 0 0 0) ≡ 0
  pub more_heat : cost_refusal (costs_of (point 0 100001 ∷ point 3 1 ∷ []) 0 0 0 0) ≡ 6
  -- 7: gas, rate, allowance or a charge outside its range
  pub all_at_most : cost_refusal (small 1000000 200000 10000000 1000000) ≡ 0
  pub more_gas : cost_refusal (small 1000001 0 0 0) ≡ 7
  pub more_rate : cost_refusal (small 0 200001 0 0) ≡ 7
  pub more_allowance : cost_refusal (small 0 0 10000001 0) ≡ 7
  pub more_fee : cost_refusal (small 0 0 0 1000001) ≡ 7
  pub charges_at_most : cost_refusal (charged 1000000 1000000 1000000) ≡ 0
  pub more_om : cost_refusal (charged 1000001 0 0) ≡ 7
  pub more_msc : cost_refusal (charged 0 1000001 0) ≡ 7
  pub more_soc : cost_refusal (charged 0 0 1000001) ≡ 7
  pub gas_below : cost_refusal gas_below_zero ≡ 7
  -- 8: an R of some 285,000,000 in the last step, which has no limit; and one that the limit brings down to 100,000
  pub last_too_steep : cost_refusal (costs_of (point 10000 10000 ∷ point 29999 1 ∷ point 30000 9500 ∷ []) 40000 0 0 50) ≡ 8
  pub saved_by_limit : cost_refusal (costs_of (point 0 1 ∷ point 999 1 ∷ point 1000 100000 ∷ point 2000 100000 ∷ []) 0 0 0 0) ≡ 0

pub worked : Worked
unfolding in_range all_to highest_to listed padded
    mark first_to split_at count_of_steps segment_at end_at edge_at width_at width unlimited incremental_rate fuel greenhouse fee_part step_cost with_adder rate_at largest_rate step_price raised_price cost_curve
    mw_suits mw_good heat_good charges_in_range prices_in_range rates_good cost_refusal
worked = record {
  p1 = refl;
  p1_mark = (refl, refl, refl);
  p1_rates = (refl, refl, refl);
  p1_fees = (refl, refl, refl, refl);
  p1_start = refl;
  p1_taken = refl;
  p3_up = refl;
  p3_down = refl;
  p4_limited = refl;
  p4_not = refl;
  p4_whole = (refl, refl);
  p4_two = (refl, refl, refl);
  p4_two_rates = (refl, refl);
  p4_30001_limited = (refl, refl);
  p4_30001_not = (refl, refl, refl);
  p4_30004_limited = (refl, refl);
  p4_30004_not = (refl, refl, refl);
  p4_29999_limited = (refl, refl);
  p4_29999_not = (refl, refl, refl);
  p4_30001_tests = (refl, refl);
  p4_30004_tests = (refl, refl);
  p4_29999_tests = (refl, refl);
  below_zero_lem = refl;
  each_part = refl;
  one_segment = refl;
  mark_at_start = refl;
  sliver_curve = refl;
  eleven_steps = (refl, refl);
  from_m_and_r = refl;
  lower_rates = (refl, refl, refl, refl);
  lower_parts = (refl, refl, refl);
  lower_curve = refl;
  under_rates = (refl, refl, refl, refl);
  under_parts = (refl, refl, refl);
  under_prices = (refl, refl, refl);
  under_curve = refl;
  second = refl;
  third = refl;
  raised = refl;
  one_point_lem = refl;
  twelve_points = refl;
  under_the_bottom = refl;
  at_the_top = refl;
  past_the_top = refl;
  level = refl;
  five_before_six = refl;
  no_heat = refl;
  most_heat = refl;
  more_heat = refl;
  all_at_most = refl;
  more_gas = refl;
  more_rate = refl;
  more_allowance = refl;
  more_fee = refl;
  charges_at_most = refl;
  more_om = refl;
  more_msc = refl;
  more_soc = refl;
  gas_below = refl;
  last_too_steep = refl;
  saved_by_limit = refl;
}
