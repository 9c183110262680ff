-- Openings worked out: default curves from costs of which all seven differ and none is 0, and packs at the edges of a default curve's prices.
use mathlib.Core.List.{[], ◌∷◌}
use mathlib.Core.Path.{◌≡◌, refl}
use lib.IntN.{ℤ, pos, neg_ℤ}
use Rattle.rules_number.specs.Order.{in_range}
use Rattle.rules_number.specs.Over.{all_to, highest_to, listed, padded}
use Rattle.rules_curve.specs.Refusals.{each_to}
use Rattle.rules_curve.specs.Curves.{most_steps, step_to, steps_of, chain, curve_refusal, curve_of}
use Rattle.rules_curve.specs.declared.RawCurve.{RawCurve}
use Rattle.rules_cost.specs.Costs.{mark, first_to, split_at, count_of_steps, segment_at, end_at, edge_at, width_at, most_points, blank_point, width, unlimited, incremental_rate, fuel, greenhouse, fee_part, step_cost, with_adder, rate_at, largest_rate, step_price, raised_price, cost_curve, mw_suits, mw_good, heat_good, charges_in_range, prices_in_range, rates_good, cost_refusal}
use Rattle.rules_cost.specs.declared.Costs.{Costs}
use Rattle.rules_opening.specs.Resources.{lies_inside, resource_refusal, row_of}
use Rattle.rules_opening.specs.Openings.{no_raw, no_costs, no_resource, resource_at, sellers_good, owners_good, opening_refusal}
use Rattle.rules_opening.specs.declared.Source.TheVariants as source
use Rattle.rules_opening.specs.declared.Resource.{Resource}
use Rattle.rules_opening.specs.declared.Opening.{Opening}
use Rattle.rules_opening.proofs.CaseT.{raw_to, point, cells}

-- an hour of month 25 with one net seller and this one resource of its
abbrev pub opening_of : Resource → Opening
opening_of x = record { month = pos 25; portfolios = 1; sellers = cells 16 (pos 1 ∷ []); resources = 1; list = padded 64 no_resource (x ∷ []) }

-- ---- from costs
-- Worked by hand from paper 01. PMax is 25001, 4 × PMax = 100004; rate × allowance = 53073 × 187654 = 9959360742; om + msc + soc = 25700; 100 × fee = 60000100.
--
-- | to m' | w = m' - m | n = h' × m' - h × m | n / w, up | 5 × m' | R | M |
-- | 16000 | 6000 | 156800000 - 105000000 = 51800000 | 8634 | 80000: at most 10500 | 8634 | 8634 |
-- | 20000 | 4000 | 198000000 - 156800000 = 41200000 | 10300 | 100000: at most 9900 | 9900 | 9900 |
-- | 24000 | 4000 | 242400000 - 198000000 = 44400000 | 11100 | 120000: no limit | 11100 | 11100 |
-- | 25001 | 1001 | 250010000 - 242400000 = 7610000 | 7603 | 125005: no limit | 7603 | 11100 |
--
-- | to m' | fuel = M × 35001 / 1000, up | greenhouse = R × 9959360742 / 1,000,000,000, up | fee part = 60000100 / w, up | cost | 11 × cost / 10, up |
-- | 16000 | 302198.634: 302199 | 85989.120..: 85990 | 10000.01..: 10001 | 423890 | 466279 |
-- | 20000 | 346509.9: 346510 | 98597.671..: 98598 | 15000.025: 15001 | 485809 | 534389.9: 534390 |
-- | 24000 | 388511.1: 388512 | 110548.904..: 110549 | 15000.025: 15001 | 539762 | 593738.2: 593739 |
-- | 25001 | 388511.1: 388512 | 75721.019..: 75722 | 59940.15..: 59941 | 549875 | 604862.5: 604863 |
abbrev pub costs : Costs
costs = record {
  count = 5;
  points = padded most_points blank_point (point 10000 10500 ∷ point 16000 9800 ∷ point 20000 9900 ∷ point 24000 10100 ∷ point 25001 10000 ∷ []);
  gas = pos 35001;
  rate = pos 53073;
  allowance = pos 187654;
  om = pos 21700;
  msc = pos 1100;
  soc = pos 2900;
  fee = pos 600001;
}

abbrev pub bid : RawCurve
bid = record { start = pos 10000; count = 2; steps = padded most_steps (raw_to 0 0) (raw_to 18000 500000 ∷ raw_to 25001 900000 ∷ []) }

abbrev pub from_costs : Opening
from_costs = opening_of (record { portfolio = pos 0; bid = bid; source = source.Costs; costs = costs; pack = no_raw })

pub record FromCosts : Type 0 where
  pub taken : opening_refusal from_costs ≡ 0
  pub starts : (row_of (resource_at from_costs 0)).default.start ≡ 10000
  pub prices : steps_of (row_of (resource_at from_costs 0)).default
      ≡ step_to 16000 (pos 466279) ∷ step_to 20000 (pos 534390) ∷ step_to 24000 (pos 593739) ∷ step_to 25001 (pos 604863) ∷ []

pub from_costs_worked : FromCosts
unfolding in_range all_to highest_to listed padded each_to chain curve_refusal curve_of
    mark first_to split_at count_of_steps segment_at end_at edge_at width_at width unlimited incremental_rate fuel greenhouse fee_part step_cost with_adder rate_at largest_rate step_price raised_price cost_curve
    mw_suits mw_good heat_good charges_in_range prices_in_range rates_good cost_refusal
    sellers_good owners_good lies_inside resource_refusal opening_refusal row_of
from_costs_worked = record { taken = refl; starts = refl; prices = refl }

-- ---- from a pack: "A default curve, from a pack or from costs, allows prices of -1,000,000,000 to 1,000,000,000"
-- an opening whose pack has these two prices
abbrev pub packed : ℤ → ℤ → Opening
packed low high =
    opening_of (record {
      portfolio = pos 0;
      bid = bid;
      source = source.Pack;
      costs = no_costs;
      pack = record { start = pos 10000; count = 2; steps = padded most_steps (raw_to 0 0) (record { end = pos 20000; price = low } ∷ record { end = pos 30000; price = high } ∷ []) };
    })

pub record FromPack : Type 0 where
  pub at_both_edges : opening_refusal (packed (neg_ℤ (pos 1000000000)) (pos 1000000000)) ≡ 0
  pub curve : steps_of (row_of (resource_at (packed (neg_ℤ (pos 1000000000)) (pos 1000000000)) 0)).default ≡ step_to 20000 (neg_ℤ (pos 1000000000)) ∷ step_to 30000 (pos 1000000000) ∷ []
  pub one_below : opening_refusal (packed (neg_ℤ (pos 1000000001)) (pos 1000000000)) ≡ 3
  pub one_above : opening_refusal (packed (neg_ℤ (pos 1000000000)) (pos 1000000001)) ≡ 3

pub from_pack_worked : FromPack
unfolding in_range all_to padded each_to chain curve_refusal curve_of sellers_good owners_good lies_inside resource_refusal opening_refusal row_of
from_pack_worked = record { at_both_edges = refl; curve = refl; one_below = refl; one_above = refl }
