-- The hydro default (paper 02, 2.8; 39.7.1.7.1).
use Rattle.std.specs.Prelude.{Bool, ◌&&◌, List, [], ◌∷◌, ℕ, suc, ◌+◌, ◌-◌, ◌*◌, leb, ℤ, pos, ◌*ℤ◌, get_or, Result, Ok, Err}
use Rattle.rules_number.specs.Ceil.{ceil_div}
use Rattle.rules_number.specs.Order.{max_z, in_range}
use Rattle.rules_number.specs.Over.{all_to, highest_to}
use Rattle.rules_curve.specs.Curves.{default_refusal, raw_with, pack_unless}
use Rattle.rules_curve.specs.Refusals.{number_of, unless, ◌then◌}
use Rattle.rules_curve.specs.declared.RawCurve.{RawCurve}
use Rattle.rules_hydro.specs.declared.Hydro.{Hydro}
use Rattle.rules_hydro.specs.declared.HydroRefusal.{HydroRefusal}
use Rattle.rules_hydro.specs.declared.HydroRefusal.TheVariants as why

-- ---- the curve, as opening takes it from a pack: "one step from a given lowest to a given highest quantity"
unfoldable pub one_step : ℤ → ℤ → ℤ → RawCurve
one_step low high price = raw_with low (record { end = high; price = price } ∷ [])

-- ---- a table of prices, fourteen of each hub: its day-ahead peak, its balance of month, and those of the twelve months after this one
abbrev pub hub_prices : ℕ
hub_prices = 14

-- price j of hub i
abbrev pub hub_price : List ℤ → ℕ → ℕ → ℤ
hub_price prices i j = get_or prices (i * hub_prices + j) (pos 0)

abbrev pub peak : List ℤ → ℕ → ℤ
peak prices i = hub_price prices i 0

abbrev pub balance : List ℤ → ℕ → ℤ
balance prices i = hub_price prices i 1

-- "the first monthly price is next month's": that of month k after this one
abbrev pub month : List ℤ → ℕ → ℕ → ℤ
month prices i k = hub_price prices i (suc k)

-- the largest of hub i's day-ahead peak, its balance of month and its first n months
unfoldable pub largest_at : List ℤ → ℕ → ℕ → ℤ
largest_at prices i n = highest_to (hub_price prices i) (n + 1)

-- and over the hubs 0, .., hubs - 1
unfoldable pub largest_over : List ℤ → ℕ → ℕ → ℤ
largest_over prices hubs n = highest_to (λ i. largest_at prices i n) (hubs - 1)

-- ---- the three amounts, "each up"
-- "11 × H × gas / 10,000" (39.7.1.7.1.1)
unfoldable pub gas_floor : ℤ → ℤ → ℤ
gas_floor heat gas = ceil_div (pos 11 *ℤ heat *ℤ gas) 10000

-- "14/10 of the largest of the day-ahead peak, balance-of-month and next-month prices at the default hub" (39.7.1.7.1.2): "The first hub is the default one"
unfoldable pub short_term_price : List ℤ → ℤ
short_term_price prices = ceil_div (pos 14 *ℤ largest_at prices 0 1) 10

-- "11/10 of the largest of day-ahead peak, balance-of-month and the monthly prices up to the storage horizon, over 1 to 4 hubs" (39.7.1.7.1.3)
unfoldable pub long_term : List ℤ → ℕ → ℕ → ℤ
long_term prices hubs horizon = ceil_div (pos 11 *ℤ largest_over prices hubs horizon) 10

-- "priced at the largest of three amounts" (39.7.1.7.1)
unfoldable pub hydro_price : Hydro → ℤ
hydro_price x = max_z (gas_floor x.heat x.gas) (max_z (short_term_price x.prices) (long_term x.prices x.hubs x.horizon))

abbrev pub hydro_curve : Hydro → RawCurve
hydro_curve x = one_step x.low x.high (hydro_price x)

-- ---- 22: "a value outside these limits"
-- "hub prices 0 to 100,000,000": "Prices past the horizon or the hub count aren't read"
abbrev pub is_hub_price : ℤ → Bool
is_hub_price p = in_range (pos 0) (pos 100000000) p

unfoldable pub prices_good : List ℤ → ℕ → ℕ → Bool
prices_good prices hubs horizon = all_to (λ i. all_to (λ j. is_hub_price (hub_price prices i j)) (horizon + 2)) hubs

-- "H is 1 to 100,000 Btu/kWh, the horizon 1 to 12 months", "gas as in 01", "over 1 to 4 hubs"
unfoldable pub limits_good : Hydro → Bool
limits_good x =
    in_range (pos 1) (pos 100000) x.heat
    && (in_range (pos 0) (pos 1000000) x.gas
    && (leb 1 x.hubs && leb x.hubs 4
    && (leb 1 x.horizon && leb x.horizon 12
    && prices_good x.prices x.hubs x.horizon)))

-- "checked before 1"
unfoldable pub hydro_refusal : Hydro → ℕ
hydro_refusal x = unless (limits_good x) 22 then default_refusal (hydro_curve x)

-- ---- what is given, and the answer
-- numbers, and a slice of prices: one past its end is 0
abbrev pub hydro_in : ℤ → ℤ → ℤ → ℤ → ℕ → ℕ → List ℤ → Hydro
hydro_in low high heat gas hubs horizon prices = record { low = low; high = high; heat = heat; gas = gas; hubs = hubs; horizon = horizon; prices = prices }

abbrev pub hydro_number : {T : Type 0} → Result T HydroRefusal → ℕ
hydro_number (Ok x) = 0
hydro_number (Err why.OutsideLimits) = 22
hydro_number (Err (why.Curve r)) = number_of r

-- a refusal returns its number alone: the curve has no step
abbrev pub hydro_pack : Hydro → RawCurve
hydro_pack x = pack_unless (hydro_refusal x) (hydro_curve x)
