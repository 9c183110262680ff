-- Unrounded prices worked out by hand, and by computation on the definitions.
use mathlib.Core.List.{[], ◌∷◌}
use mathlib.Core.Path.{◌≡◌, refl}
use lib.IntN.{pos, neg_ℤ, ◌*ℤ◌}
use Rattle.rules_number.specs.Over.{highest_to}
use Rattle.rules_cost.specs.Costs.{mark, first_to, split_at, count_of_steps, segment_at, end_at, edge_at, width_at, width, unlimited, incremental_rate, fuel, greenhouse, fee_part, step_cost, with_adder, rate_at, largest_rate, step_price, raised_price}
use Rattle.rules_cost.specs.declared.Costs.{Costs}
use Rattle.rules_cost.proofs.Examples.{point, costs_of, costs_t}
use Rattle.rules_rounding.specs.Ratios.{Ratio, over, whole, ◌+Q◌, ◌≤Q◌}
use Rattle.rules_rounding.specs.Bound.{bound}
use Rattle.rules_rounding.specs.Exact.{highest_q, exact_rate_at, exact_price, exact_raised}

-- two points far apart, and next to nothing else: 800000 is strictly inside
abbrev flat : Costs
flat = costs_of (point 0 1 ∷ point 1000000 1 ∷ []) 1 1 1 1

-- R is -10 / 3, and past the mark, 5, 25 / 2
abbrev negative : Costs
negative = costs_of (point 2 10 ∷ point 5 2 ∷ point 7 5 ∷ []) 3000 0 0 0

-- steps of 100, 140 and 60 with a fee alone: the second is the cheapest
abbrev uneven : Costs
uneven = costs_of (point 0 1 ∷ point 100 1 ∷ point 300 1 ∷ []) 0 0 0 1

-- one amount, by cross products
abbrev Same : Ratio → Ratio → Type 0
Same x y = x.num *ℤ pos y.den ≡ y.num *ℤ pos x.den

pub record Worked : Type 0 where
  -- T: R is 8000 and 10500, by the limit at most 9500 up to 24000; M × 40 + 24000 + 5000 / w, w 10000, 4000 and 6000; 11/10 of 344000.5, 404001.25 and 444000.833..
  pub t_first : Same (exact_raised costs_t 0) (over (pos 7568011) 20)
  pub t_lower : Same (exact_raised costs_t 1) (over (pos 3555211) 8)
  pub t_upper : Same (exact_raised costs_t 2) (over (pos 5860811) 12)
  pub t_prices : (raised_price costs_t 0 ≡ pos 378402) × (raised_price costs_t 1 ≡ pos 444403) × (raised_price costs_t 2 ≡ pos 488402)
  -- 11/10 × (40 + 0 + 3) + 1
  pub t_bound : Same (bound costs_t) (over (pos 483) 10)
  -- flat: 11/10 of 1/1000 + 1/1000000000 + 100/800000, and of the same with 100/200000, under 4 each; the bound is 4.3011000011
  pub flat_lower : Same (exact_raised flat 0) (over (pos 12375011) 10000000000)
  pub flat_upper : Same (exact_raised flat 1) (over (pos 16500011) 10000000000)
  pub flat_prices : (count_of_steps flat ≡ 2) × (raised_price flat 0 ≡ pos 4) × (raised_price flat 1 ≡ pos 4)
  pub flat_bound : Same (bound flat) (over (pos 43011000011) 10000000000)
  -- without its last 1 it is 3.3011000011, and the amount with that isn't above 4
  pub flat_needs_one : (exact_raised flat 0 +Q over (pos 33011000011) 10000000000) ≤Q whole (pos 4)
  -- negative: 11/10 of -10 and of 75/2, under -9 and 43
  pub below_zero_lem : Same (exact_raised negative 0) (whole (neg_ℤ (pos 11))) × Same (exact_raised negative 1) (over (pos 165) 4)
  pub below_zero_prices : (count_of_steps negative ≡ 2) × (raised_price negative 0 ≡ neg_ℤ (pos 9)) × (raised_price negative 1 ≡ pos 43)
  -- uneven: 11/10 of 1, of 5/7, which is raised to it, and of 5/3, under 2, 2 and 3
  pub raised_to : Same (exact_price uneven 1) (over (pos 11) 14) × Same (exact_raised uneven 1) (over (pos 11) 10) × Same (exact_raised uneven 2) (over (pos 11) 6)
  pub raised_prices : (count_of_steps uneven ≡ 3) × (raised_price uneven 0 ≡ pos 2) × (raised_price uneven 1 ≡ pos 2) × (raised_price uneven 2 ≡ pos 3)

pub worked : Worked
unfolding highest_to mark first_to split_at count_of_steps segment_at end_at edge_at width_at width unlimited incremental_rate fuel greenhouse fee_part step_cost with_adder rate_at largest_rate step_price raised_price
    highest_q exact_rate_at exact_price exact_raised
worked = record {
  t_first = refl;
  t_lower = refl;
  t_upper = refl;
  t_prices = (refl, refl, refl);
  t_bound = refl;
  flat_lower = refl;
  flat_upper = refl;
  flat_prices = (refl, refl, refl);
  flat_bound = refl;
  flat_needs_one = record { le = tt };
  below_zero_lem = (refl, refl);
  below_zero_prices = (refl, refl, refl);
  raised_to = (refl, refl, refl);
  raised_prices = (refl, refl, refl, refl);
}
