-- Hydro defaults worked out by hand, and here by computation (paper 02, 2.8).
use Rattle.std.specs.Prelude.{Ok, Err}
use mathlib.Core.List.{List, [], ◌∷◌, ◌++◌}
use mathlib.Core.Path.{◌≡◌, refl}
use Prim.Native.Nat.{ℕ}
use lib.IntN.{ℤ, pos, neg_ℤ}
use Rattle.rules_number.specs.Order.{in_range}
use Rattle.rules_number.specs.Over.{sum_to, all_to, listed, those, sum_over, padded, up_to, highest_to}
use Rattle.rules_curve.specs.Refusals.{number_of, each_to}
use Rattle.rules_curve.specs.Curves.{step_to, chain, curve_refusal, curve_of, price_at, no_pack}
use Rattle.rules_curve.specs.declared.Refusal.{Refusal}
use Rattle.rules_mitigation.specs.Mitigation.{segments_n, joined, joined_after, mitigated, used_steps}
use Rattle.rules_interval.specs.Intervals.{all_within, factors_good, outputs_good, interval_refusal}
use Rattle.rules_path.specs.Paths.{demand, supply, share, withholdable, offer, offers, largest, top, total, sellers, left, is_non_competitive}
use Rattle.rules_opening.specs.Openings.{no_costs, no_resource, sellers_good, owners_good, opening_refusal, market_of}
use Rattle.rules_opening.specs.Resources.{lies_inside, resource_refusal, row_of}
use Rattle.rules_opening.specs.declared.Opening.{Opening}
use Rattle.rules_opening.specs.declared.Source.TheVariants as source
use Rattle.rules_opening.proofs.CaseT.{cells, bid_t, interval_t}
use Rattle.rules_hour.specs.Cuts.{entering, component, cut_from, cut_of}
use Rattle.rules_hour.specs.Hours.{fresh_standing, curve_in, next_standing, call_refusal, standing_after, hour_after, hour_after_all}
use Rattle.rules_hour.specs.Opened.{fresh_hour, opened_hour}
use Rattle.rules_hydro.specs.Hydros.{one_step, largest_at, largest_over, gas_floor, short_term_price, long_term, hydro_price, prices_good, limits_good, hydro_refusal, hydro_number, hydro_pack}
use Rattle.rules_hydro.specs.declared.Hydro.{Hydro}
use Rattle.rules_hydro.specs.declared.HydroRefusal.TheVariants as why

-- a hub by its first prices, the others being 0; and a table of hubs
abbrev hub : List ℤ → List ℤ
hub l = cells 14 l

abbrev with : ℤ → ℤ → ℤ → ℤ → ℕ → ℕ → List ℤ → Hydro
with low high heat gas hubs horizon prices = record { low = low; high = high; heat = heat; gas = gas; hubs = hubs; horizon = horizon; prices = cells 56 prices }

-- peak 500,000, balance of month 400,000, next month 300,000, month 2 nothing, month 3 900,000; at a second hub a peak of 1,000,000
abbrev two_hubs : List ℤ
two_hubs = hub (pos 500000 ∷ pos 400000 ∷ pos 300000 ∷ pos 0 ∷ pos 900000 ∷ []) ++ hub (pos 1000000 ∷ [])

abbrev first : ℕ → ℕ → Hydro
first hubs horizon = with (pos 10000) (pos 30000) (pos 10000) (pos 40000) hubs horizon two_hubs

-- the price of one hub over twelve months
abbrev price : ℤ → ℤ → List ℤ → ℤ
price heat gas prices = hydro_price (with (pos 0) (pos 1) heat gas 1 12 prices)

-- the refusal by counts and prices, and by H, gas and quantities
abbrev counts : ℕ → ℕ → List ℤ → ℕ
counts hubs horizon prices = hydro_refusal (with (pos 0) (pos 1) (pos 1) (pos 0) hubs horizon prices)

abbrev values : ℤ → ℤ → ℤ → ℤ → ℕ
values heat gas low high = hydro_refusal (with low high heat gas 1 1 [])

-- Case T's hour with a hydro unit
abbrev hour : Opening
hour = record {
  month = pos 25;
  portfolios = 1;
  sellers = cells 16 (pos 1 ∷ []);
  resources = 1;
  list = padded 64 no_resource (record { portfolio = pos 0; bid = bid_t; source = source.Pack; costs = no_costs; pack = hydro_pack (first 1 1) } ∷ []);
}

pub record Hydros : Type 1 where
  -- 440,000, 700,000 and 550,000
  pub amounts : (gas_floor (pos 10000) (pos 40000) ≡ pos 440000) × (short_term_price two_hubs ≡ pos 700000) × (long_term two_hubs 1 1 ≡ pos 550000)
  pub first_price : hydro_price (first 1 1) ≡ pos 700000
  -- month 3 counts from horizon 3 on, at 11/10, not at 14/10
  pub horizons : (hydro_price (first 1 2) ≡ pos 700000) × (hydro_price (first 1 3) ≡ pos 990000)
  -- the second hub counts from hub count 2 on, at 11/10
  pub second_hub : hydro_price (first 2 1) ≡ pos 1100000
  -- each amount is rounded up once: 11 / 10,000; 14/10 of 1 and of 5; 11/10 of 10
  pub rounded_once : price (pos 1) (pos 1) [] ≡ pos 1
  pub short_up : (price (pos 1) (pos 0) (pos 1 ∷ []) ≡ pos 2) × (price (pos 1) (pos 0) (pos 5 ∷ []) ≡ pos 7)
  pub next_month : price (pos 1) (pos 0) (pos 0 ∷ pos 0 ∷ pos 10 ∷ []) ≡ pos 14
  pub later_month : price (pos 1) (pos 0) (pos 0 ∷ pos 0 ∷ pos 0 ∷ pos 10 ∷ []) ≡ pos 11
  pub nothing : price (pos 1) (pos 0) [] ≡ pos 0
  pub greatest : (price (pos 100000) (pos 1000000) (pos 100000000 ∷ []) ≡ pos 140000000) × (price (pos 100000) (pos 1000000) [] ≡ pos 110000000)
  -- 22: counts, prices that are read and no others, H and gas
  pub hub_counts : (counts 0 1 [] ≡ 22) × (counts 5 1 [] ≡ 22) × (counts 4 12 [] ≡ 0)
  pub month_counts : (counts 1 0 [] ≡ 22) × (counts 1 13 [] ≡ 22)
  pub unread_month : (counts 1 1 (pos 0 ∷ pos 0 ∷ pos 0 ∷ neg_ℤ (pos 1) ∷ []) ≡ 0) × (counts 1 2 (pos 0 ∷ pos 0 ∷ pos 0 ∷ neg_ℤ (pos 1) ∷ []) ≡ 22)
  pub unread_hub : (counts 1 12 (hub [] ++ (neg_ℤ (pos 1) ∷ [])) ≡ 0) × (counts 2 1 (hub [] ++ (neg_ℤ (pos 1) ∷ [])) ≡ 22)
  pub price_limit : (counts 1 1 (pos 0 ∷ pos 0 ∷ pos 100000000 ∷ []) ≡ 0) × (counts 1 1 (pos 0 ∷ pos 0 ∷ pos 100000001 ∷ []) ≡ 22)
  pub heat_limits : (values (pos 0) (pos 0) (pos 0) (pos 1) ≡ 22) × (values (pos 100000) (pos 0) (pos 0) (pos 1) ≡ 0) × (values (pos 100001) (pos 0) (pos 0) (pos 1) ≡ 22)
  pub gas_limits : (values (pos 1) (neg_ℤ (pos 1)) (pos 0) (pos 1) ≡ 22) × (values (pos 1) (pos 1000000) (pos 0) (pos 1) ≡ 0) × (values (pos 1) (pos 1000001) (pos 0) (pos 1) ≡ 22)
  -- 2: the quantities, after 22
  pub quantities : (values (pos 1) (pos 0) (pos 5) (pos 5) ≡ 2) × (values (pos 1) (pos 0) (neg_ℤ (pos 1)) (pos 5) ≡ 2) × (values (pos 1) (pos 0) (pos 0) (pos 1000001) ≡ 2)
  pub widest : values (pos 1) (pos 0) (pos 0) (pos 1000000) ≡ 0
  pub before_2 : values (pos 0) (pos 0) (pos 5) (pos 5) ≡ 22
  -- the pack's numbers, whatever is handed back: 0, 22, and the engine's own
  pub numbers : ((T : Type 0) (x : T) → hydro_number (Ok x) ≡ 0) × ((T : Type 0) → hydro_number {T = T} (Err why.OutsideLimits) ≡ 22) × ((T : Type 0) (r : Refusal) → hydro_number {T = T} (Err (why.Curve r)) ≡ number_of r)
  pub refused_pack : hydro_pack (with (pos 0) (pos 1) (pos 0) (pos 0) 1 1 []) ≡ no_pack
  -- Case T's interval, L 350,100, cuts the bid to the hydro price
  pub taken : opening_refusal hour ≡ 0
  pub cut : used_steps (curve_in (hour_after_all (opened_hour hour) (interval_t ∷ [])) 0) ≡ step_to 15000 (pos 300000) ∷ step_to 30000 (pos 700000) ∷ []

pub worked : Hydros
unfolding in_range sum_to all_to listed those sum_over padded up_to highest_to each_to price_at chain curve_refusal curve_of segments_n joined joined_after mitigated
    all_within factors_good outputs_good interval_refusal
    demand supply share withholdable offer offers largest top total sellers left is_non_competitive
    entering component cut_from cut_of curve_in fresh_standing next_standing call_refusal standing_after hour_after hour_after_all
    sellers_good owners_good lies_inside resource_refusal opening_refusal row_of market_of fresh_hour opened_hour
    one_step largest_at largest_over gas_floor short_term_price long_term hydro_price prices_good limits_good hydro_refusal no_pack
worked = record {
  amounts = (refl, refl, refl);
  first_price = refl;
  horizons = (refl, refl);
  second_hub = refl;
  rounded_once = refl;
  short_up = (refl, refl);
  next_month = refl;
  later_month = refl;
  nothing = refl;
  greatest = (refl, refl);
  hub_counts = (refl, refl, refl);
  month_counts = (refl, refl);
  unread_month = (refl, refl);
  unread_hub = (refl, refl);
  price_limit = (refl, refl);
  heat_limits = (refl, refl, refl);
  gas_limits = (refl, refl, refl);
  quantities = (refl, refl, refl);
  widest = refl;
  before_2 = refl;
  numbers = ((λ T x. refl), (λ T. refl), λ T r. refl);
  refused_pack = refl;
  taken = refl;
  cut = refl;
}
