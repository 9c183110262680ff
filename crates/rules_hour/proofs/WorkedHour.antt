-- An hour of two resources worked through, by computation on the definitions.
-- Each bids one step: resource 0 at 900 with a default price of 300, resource 1 at 800 with a default price of 500. Resource 0's portfolio is a net seller, resource 1's a net buyer.
use mathlib.Core.List.{List, [], ◌∷◌, ◌++◌}
use mathlib.Core.Path.{◌≡◌, refl}
use Prim.Native.Nat.{ℕ}
use lib.IntN.{ℤ, pos, neg_ℤ}
use lib.ListN.{replicate}
use Rattle.rules_number.specs.Order.{in_range}
use Rattle.rules_number.specs.Over.{sum_to, all_to, listed, those, sum_over, padded, up_to}
use Rattle.rules_curve.specs.Refusals.{each_to}
use Rattle.rules_curve.specs.Curves.{most_steps, price_at, chain, curve_refusal, curve_of}
use Rattle.rules_curve.specs.declared.RawCurve.{RawCurve}
use Rattle.rules_mitigation.specs.Mitigation.{segments_n, joined, joined_after, mitigated, used_steps}
use Rattle.rules_interval.specs.Intervals.{all_within, factors_good, outputs_good, interval_refusal}
use Rattle.rules_interval.specs.declared.Interval.{Interval}
use Rattle.rules_path.specs.Paths.{demand, supply, share, withholdable, offer, offers, largest, top, total, sellers, left, is_non_competitive}
use Rattle.rules_hour.specs.Cuts.{entering, component, cut_from, cut_of}
use Rattle.rules_hour.specs.Hours.{fresh_standing, curve_in, next_standing, call_refusal, standing_after, hour_after, hour_after_all}
use Rattle.rules_opening.specs.Openings.{no_costs, no_resource, sellers_good, owners_good, opening_refusal, market_of}
use Rattle.rules_hour.specs.Opened.{fresh_hour, opened_hour}
use Rattle.rules_opening.specs.declared.Source.TheVariants as source
use Rattle.rules_opening.specs.declared.Resource.{Resource}
use Rattle.rules_opening.specs.declared.Opening.{Opening}
use Rattle.rules_hour.specs.Hours.{Hour}
use Rattle.rules_opening.proofs.CaseT.{raw_to, cells}
use Rattle.rules_opening.specs.Resources.{lies_inside, resource_refusal, row_of}

-- one step from 0 to 100 at price p
abbrev level : ℕ → RawCurve
level p = record { start = pos 0; count = 1; steps = padded most_steps (raw_to 0 0) (raw_to 100 p ∷ []) }

-- a resource of portfolio p with these prices of bid and default curve
abbrev packed : ℕ → ℕ → ℕ → Resource
packed p bid default = record { portfolio = pos p; bid = level bid; source = source.Pack; costs = no_costs; pack = level default }

abbrev pub two : Opening
two = record { month = pos 25; portfolios = 2; sellers = cells 16 (pos 1 ∷ []); resources = 2; list = padded 64 no_resource (packed 0 900 300 ∷ packed 1 800 500 ∷ []) }

-- an interval for n resources with a parameter of 100 and one constraint of shadow price 1: each resource's lmp, dispatch, available and effectiveness
abbrev pub interval : ℕ → List ℤ → List ℤ → List ℤ → ℕ → ℕ → Interval
interval n lmp dispatch available e f = record {
  constraints = 1;
  shadow = cells 32 (pos 1 ∷ []);
  resources = n;
  lmp = cells 64 lmp;
  dispatch = cells 64 dispatch;
  available = cells 64 available;
  floor = cells 64 [];
  factors = cells 2048 (neg_ℤ (pos e) ∷ replicate 31 (pos 0) ++ (neg_ℤ (pos f) ∷ []));
  parameter = pos 100;
}

-- resource 0 alone is dispatched, at this lmp: non-competitive, C = 1 for it, and 2 for the other
abbrev pub alone : ℕ → Interval
alone lmp = interval 2 (pos lmp ∷ pos 100 ∷ []) (pos 10 ∷ []) (pos 100 ∷ []) 1 2

-- the prices of the two after these calls, and how many were accepted
pub record Left : Type 0 where
  pub first : ℤ
  pub second : ℤ
  pub accepted : ℕ

abbrev pub leaves : ℤ → ℤ → ℕ → Left
leaves x y n = record { first = x; second = y; accepted = n }

abbrev pub left_by : Hour → Left
left_by h = leaves (price_at (used_steps (curve_in h 0)) 0) (price_at (used_steps (curve_in h 1)) 0) h.standing.accepted

abbrev pub left_then : List Interval → Left
left_then calls = left_by (hour_after_all (opened_hour two) calls)

pub record Worked : Type 0 where
  pub opened : left_then [] ≡ leaves (pos 900) (pos 800) 0
  -- C = 1: L = lmp + parameter; resource 1 isn't dispatched and stays
  pub one : left_then (alone 600 ∷ []) ≡ leaves (pos 700) (pos 800) 1
  -- a lower L cuts further, and a higher one leaves the cut that was made
  pub lower : left_then (alone 600 ∷ alone 500 ∷ []) ≡ leaves (pos 600) (pos 800) 2
  pub higher : left_then (alone 500 ∷ alone 600 ∷ []) ≡ leaves (pos 600) (pos 800) 2
  -- no price falls below its default price
  pub at_default : left_then (alone 100 ∷ []) ≡ leaves (pos 300) (pos 800) 1
  -- a call for three resources is refused and changes nothing
  pub refused : left_then (interval 3 (pos 100 ∷ []) (pos 10 ∷ []) (pos 100 ∷ []) 1 2 ∷ []) ≡ leaves (pos 900) (pos 800) 0
  -- the fourth is accepted, the fifth is not
  pub fourth : left_then (alone 700 ∷ alone 600 ∷ alone 500 ∷ alone 400 ∷ []) ≡ leaves (pos 500) (pos 800) 4
  pub fifth : left_then (alone 700 ∷ alone 600 ∷ alone 500 ∷ alone 400 ∷ alone 300 ∷ []) ≡ leaves (pos 500) (pos 800) 4
  -- both are dispatched: each is cut at its own L, and not below its own default price
  pub both : left_then (interval 2 (pos 600 ∷ pos 550 ∷ []) (pos 10 ∷ pos 10 ∷ []) (pos 100 ∷ pos 10 ∷ []) 1 2 ∷ []) ≡ leaves (pos 700) (pos 650) 1
  pub both_low : left_then (interval 2 (pos 600 ∷ pos 100 ∷ []) (pos 10 ∷ pos 10 ∷ []) (pos 100 ∷ pos 10 ∷ []) 1 2 ∷ []) ≡ leaves (pos 700) (pos 500) 1
  -- what the net buyer has available is enough: competitive, so no cut
  pub competitive : left_then (interval 2 (pos 600 ∷ pos 100 ∷ []) (pos 10 ∷ pos 10 ∷ []) (pos 100 ∷ pos 50 ∷ []) 1 2 ∷ []) ≡ leaves (pos 900) (pos 800) 1
  -- C = 0 for resource 1, which has no part in the constraint: no cut
  pub no_part : left_then (interval 2 (pos 600 ∷ pos 100 ∷ []) (pos 10 ∷ pos 10 ∷ []) (pos 100 ∷ pos 50 ∷ []) 1 0 ∷ []) ≡ leaves (pos 700) (pos 800) 1

pub worked : Worked
unfolding in_range sum_to all_to listed those sum_over padded up_to each_to price_at chain curve_refusal curve_of segments_n joined joined_after mitigated
    all_within factors_good outputs_good interval_refusal
    demand supply share withholdable offer offers largest top total sellers left is_non_competitive
    entering component cut_from cut_of curve_in fresh_standing next_standing call_refusal standing_after hour_after hour_after_all
    sellers_good owners_good lies_inside resource_refusal opening_refusal row_of market_of fresh_hour opened_hour
worked = record {
  opened = refl;
  one = refl;
  lower = refl;
  higher = refl;
  at_default = refl;
  refused = refl;
  fourth = refl;
  fifth = refl;
  both = refl;
  both_low = refl;
  competitive = refl;
  no_part = refl;
}
