-- Demand 3's own words worked through, by computation: counterflow, what a portfolio can withhold, the numbers that calls return, and caps.
use Rattle.std.specs.Prelude.{None, Some}
use mathlib.Core.List.{List, [], ◌∷◌, ◌++◌}
use mathlib.Core.Path.{◌≡◌, refl}
use Prim.Native.Nat.{ℕ}
use lib.IntN.{pos, neg_ℤ}
use Rattle.rules_number.specs.Order.{in_range}
use Rattle.rules_number.specs.Over.{sum_to, all_to, listed, those, sum_over, padded, up_to}
use Rattle.rules_curve.specs.Refusals.{each_to}
use Rattle.rules_curve.specs.Curves.{price_at, quote_from, chain, curve_refusal, curve_of}
use Rattle.rules_interval.specs.Intervals.{all_within, factors_good, outputs_good, interval_refusal}
use Rattle.rules_interval.specs.declared.Interval.{Interval}
use Rattle.rules_path.specs.Paths.{demand, supply, share, withholdable, offer, offers, largest, top, total, sellers, left, is_non_competitive}
use Rattle.rules_opening.specs.Openings.{no_raw, no_costs, no_resource, sellers_good, owners_good, opening_refusal, market_of}
use Rattle.rules_opening.specs.Resources.{lies_inside, resource_refusal, row_of}
use Rattle.rules_opening.specs.declared.Source.TheVariants as source
use Rattle.rules_opening.specs.declared.Opening.{Opening}
use Rattle.rules_opening.specs.declared.Resource.{Resource}
use Rattle.rules_opening.proofs.CaseT.{cells, opening_t, interval_t}
use Rattle.rules_hour.specs.Cuts.{entering, component, cut_from, cut_of}
use Rattle.rules_hour.specs.Hours.{fresh_standing, next_standing, call_refusal, standing_after, hour_after}
use Rattle.rules_hour.specs.Opened.{fresh_hour, opened_hour}
use Rattle.rules_hour.specs.Demand3.{sound_calls, caps_in, caps, quote_in, default_of, effectiveness_on, counterflow_demand, counterflow_supply, can_withhold, answers_from, answers}
use Rattle.rules_hour.proofs.WorkedHour.{two, interval, alone}

-- four resources: 0, 2 and 3 are portfolio 1's, resource 1 is portfolio 0's
abbrev owned : ℕ → Resource
owned p = record { portfolio = pos p; bid = no_raw; source = source.Costs; costs = no_costs; pack = no_raw }

abbrev pub shared : Opening
shared = record { month = pos 1; portfolios = 2; sellers = cells 16 (pos 0 ∷ pos 1 ∷ []); resources = 4; list = padded 64 no_resource (owned 1 ∷ owned 0 ∷ owned 1 ∷ owned 1 ∷ []) }

-- e is 2, 3, 5 and 0; the last resource loads the constraint
abbrev pub uneven : Interval
uneven = record {
  constraints = 1;
  shadow = cells 32 (pos 1 ∷ []);
  resources = 4;
  lmp = cells 64 [];
  dispatch = cells 64 (pos 1 ∷ pos 2 ∷ pos 3 ∷ pos 4 ∷ []);
  available = cells 64 (pos 10 ∷ pos 20 ∷ pos 30 ∷ pos 40 ∷ []);
  floor = cells 64 (pos 4 ∷ pos 0 ∷ pos 5 ∷ pos 0 ∷ []);
  factors = padded 32 (pos 0) (neg_ℤ (pos 2) ∷ []) ++ (padded 32 (pos 0) (neg_ℤ (pos 3) ∷ []) ++ (padded 32 (pos 0) (neg_ℤ (pos 5) ∷ []) ++ (pos 7 ∷ [])));
  parameter = pos 0;
}

-- six calls on the hour of two resources: the second is for three, and the last comes after four accepted ones
abbrev pub six : List Interval
six = alone 700 ∷ interval 3 (pos 100 ∷ []) (pos 10 ∷ []) (pos 100 ∷ []) 1 2 ∷ alone 600 ∷ alone 600 ∷ alone 100 ∷ alone 300 ∷ []

pub record Sums : Type 0 where
  -- T: e = 500000
  pub t_demand : counterflow_demand opening_t interval_t 0 ≡ pos 10000000000
  pub t_supply : counterflow_supply opening_t interval_t 0 ≡ pos 15000000000
  pub t_withheld : can_withhold opening_t interval_t 0 0 ≡ pos 15000000000
  -- 2 × 1 + 3 × 2 + 5 × 3 and 2 × 10 + 3 × 20 + 5 × 30
  pub demand : counterflow_demand shared uneven 0 ≡ pos 23
  pub supply : counterflow_supply shared uneven 0 ≡ pos 230
  -- 2 × (10 - 4) + 5 × (30 - 5): the sum over its resources, without their floors
  pub withheld : can_withhold shared uneven 0 1 ≡ pos 137
  pub other : can_withhold shared uneven 0 0 ≡ pos 60
  -- each call returns its number, and each accepted one that cuts has its cap, a higher one and a second alike
  pub told : answers two six ≡ 0 ∷ 13 ∷ 0 ∷ 0 ∷ 0 ∷ 12 ∷ []
  pub capped : caps two six 0 0 ≡ pos 800 ∷ pos 700 ∷ pos 700 ∷ pos 300 ∷ []
  pub uncapped : caps two six 1 0 ≡ []
  -- the default curve of resource 0 ends at 100: its last hundredth has a price, and past it there is none
  pub last : quote_in (default_of two 0) 99 ≡ Some (pos 300)
  pub past : quote_in (default_of two 0) 100 ≡ None

pub sums : Sums
unfolding in_range sum_to all_to listed those sum_over padded up_to each_to price_at quote_from chain curve_refusal curve_of
    all_within factors_good outputs_good interval_refusal
    demand supply share withholdable offer offers largest top total sellers left is_non_competitive
    entering component cut_from cut_of fresh_standing next_standing call_refusal standing_after hour_after
    sellers_good owners_good lies_inside resource_refusal opening_refusal row_of market_of fresh_hour opened_hour
    sound_calls caps_in effectiveness_on counterflow_demand counterflow_supply can_withhold answers_from
sums = record {
  t_demand = refl;
  t_supply = refl;
  t_withheld = refl;
  demand = refl;
  supply = refl;
  withheld = refl;
  other = refl;
  told = refl;
  capped = refl;
  uncapped = refl;
  last = refl;
  past = refl;
}
