-- Books worked out, by computation.
use Rattle.std.specs.Prelude.{None, Option, Some}
use mathlib.Core.List.{List, [], ◌∷◌}
use mathlib.Core.Path.{◌≡◌, refl}
use Prim.Native.Nat.{ℕ}
use lib.IntN.{pos, neg_ℤ}
use Rattle.rules_number.specs.Order.{in_range}
use Rattle.rules_number.specs.Over.{all_to, highest_to, listed, padded}
use Rattle.rules_curve.specs.Curves.{blank_curve, step_to, steps_of}
use Rattle.rules_cost.specs.Costs.{mark, first_to, split_at, count_of_steps, segment_at, end_at, edge_at, width_at, width, unlimited, incremental_rate, fuel, greenhouse, fee_part, step_cost, with_adder, rate_at, largest_rate, step_price, raised_price, cost_curve, mw_suits, mw_good, heat_good, charges_in_range, prices_in_range, rates_good, cost_refusal}
use Rattle.rules_cost.specs.declared.Costs.{Costs}
use Rattle.rules_cost.proofs.Examples.{point, costs_t}
use Rattle.rules_gas.specs.Book.{rise_from, days_rise, length_of_run, run_in, gas_run, last_price, price_in_use}
use Rattle.rules_gas.specs.Booked.{with_gas, booked_refusal, booked_curve}
use Rattle.rules_gas.specs.declared.GasMarket.TheVariants.{DayAhead, RealTime}

-- a book whose day-ahead list is good and whose real-time list has day 4 twice
abbrev ahead : List ℕ
ahead = 3 ∷ 40000 ∷ 5 ∷ 41000 ∷ 9 ∷ 39000 ∷ []

abbrev real : List ℕ
real = 4 ∷ 50000 ∷ 4 ∷ 1 ∷ []

abbrev used_price : ℕ → Option ℕ
used_price day = price_in_use DayAhead day ahead real

-- Case T's gas price, from day 1 on
abbrev book_t : List ℕ
book_t = 1 ∷ 40000 ∷ []

-- T's costs with a gas price out of range, and with one point alone
abbrev gas_wrong : Costs
gas_wrong = record {
  count = 3;
  points = costs_t.points;
  gas = neg_ℤ (pos 1);
  rate = pos 0;
  allowance = pos 0;
  om = pos 20000;
  msc = pos 1000;
  soc = pos 3000;
  fee = pos 50;
}

abbrev one_point : Costs
one_point = record {
  count = 1;
  points = point 10000 10000 ∷ [];
  gas = pos 0;
  rate = pos 0;
  allowance = pos 0;
  om = pos 0;
  msc = pos 0;
  soc = pos 0;
  fee = pos 0;
}

pub record Books : Type 0 where
  -- the run starts where the list does, and ends with the last entry up to the day
  pub run_on_5 : gas_run DayAhead 5 ahead real ≡ 3 ∷ 40000 ∷ 5 ∷ 41000 ∷ []
  pub run_on_2 : gas_run DayAhead 2 ahead real ≡ []
  -- the day itself counts, and an unpublished day takes the latest before it
  pub published : (used_price 3 ≡ Some 40000) × (used_price 5 ≡ Some 41000) × (used_price 9 ≡ Some 39000)
  pub unpublished : (used_price 4 ≡ Some 40000) × (used_price 8 ≡ Some 41000) × (used_price 4294967295 ≡ Some 39000)
  pub too_early : (used_price 2 ≡ None) × (used_price 0 ≡ None)
  -- the real-time list is broken on every day, and the day-ahead list isn't touched by it
  pub equal_days : (gas_run RealTime 4 ahead real ≡ []) × (gas_run RealTime 3 ahead real ≡ []) × (gas_run RealTime 9 ahead real ≡ [])
  -- a list that ends inside a pair
  pub inside_pair : (run_in 9 (3 ∷ 40000 ∷ 5 ∷ 41000 ∷ 9 ∷ []) ≡ []) × (run_in 3 (3 ∷ 40000 ∷ 5 ∷ []) ≡ []) × (run_in 3 (3 ∷ []) ≡ [])
  -- "later days included"
  pub later_days : run_in 1 (1 ∷ 7 ∷ 9 ∷ 7 ∷ 9 ∷ 7 ∷ []) ≡ []
  pub falling : run_in 1 (1 ∷ 7 ∷ 9 ∷ 7 ∷ 8 ∷ 7 ∷ []) ≡ []
  pub empty : run_in 4294967295 [] ≡ []
  -- T's costs at the book's price
  pub t_taken : booked_refusal DayAhead 1 book_t real costs_t ≡ 0
  pub t_curve : steps_of (booked_curve DayAhead 1 book_t real costs_t) ≡ step_to 20000 (pos 378402) ∷ step_to 24000 (pos 444403) ∷ step_to 30000 (pos 488402) ∷ []
  -- the costs' own gas price is neither tested nor used
  pub own_gas : (booked_refusal DayAhead 1 book_t real gas_wrong ≡ 0) × (cost_refusal gas_wrong ≡ 7)
  -- 21 comes before any cost check, and then the costs' number
  pub first_21 : (booked_refusal DayAhead 0 book_t real one_point ≡ 21) × (booked_refusal DayAhead 1 book_t real one_point ≡ 4)
  pub blank_21 : booked_curve DayAhead 0 book_t real costs_t ≡ blank_curve
  -- the book doesn't test prices: one over 1,000,000 is 7
  pub dear : (booked_refusal RealTime 1 real (1 ∷ 1000001 ∷ []) costs_t ≡ 7) × (booked_refusal RealTime 1 real (1 ∷ 1000000 ∷ []) costs_t ≡ 0)

pub worked : Books
unfolding rise_from days_rise length_of_run run_in last_price with_gas in_range all_to highest_to listed padded
    mark first_to split_at count_of_steps segment_at end_at edge_at width_at width unlimited incremental_rate fuel greenhouse fee_part step_cost with_adder rate_at largest_rate step_price raised_price cost_curve
    mw_suits mw_good heat_good charges_in_range prices_in_range rates_good cost_refusal
worked = record {
  run_on_5 = refl;
  run_on_2 = refl;
  published = (refl, refl, refl);
  unpublished = (refl, refl, refl);
  too_early = (refl, refl);
  equal_days = (refl, refl, refl);
  inside_pair = (refl, refl, refl);
  later_days = refl;
  falling = refl;
  empty = refl;
  t_taken = refl;
  t_curve = refl;
  own_gas = (refl, refl);
  first_21 = (refl, refl);
  blank_21 = refl;
  dear = (refl, refl);
}
