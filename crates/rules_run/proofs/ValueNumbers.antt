-- The numbers of values: an opening is refused with a number of at most 11, an interval with one of at most 16. Assumes nothing.
use Prim.Native.Nat.{ℕ, zero, suc, ◌≤◌, zero-le}
use mathlib.Core.Bool.{Bool, true, false}
use native.Mathlib.Omega.{arith}
use Rattle.rules_curve.specs.Curves.{most_steps, most_bid_steps, count_good, edges_good, prices_good, curve_refusal}
use Rattle.rules_curve.specs.Curves.{curve_of, lowest_bid, highest_bid, lowest_default, highest_default}
use Rattle.rules_curve.specs.Refusals.{unless, ◌then◌, each_to}
use Rattle.rules_curve.specs.declared.RawCurve.{RawCurve}
use Rattle.rules_cost.specs.Costs.{points_good, mw_good, heat_good, prices_in_range, rates_good, cost_refusal}
use Rattle.rules_cost.specs.declared.Costs.{Costs}
use Rattle.rules_number.specs.Order.{nat_of}
use Rattle.rules_interval.specs.Intervals.{is_same_count, constraints_good, ranges_good, outputs_good, interval_refusal}
use Rattle.rules_interval.specs.declared.Interval.{Interval}
use Rattle.rules_opening.specs.Openings.{resource_at, counts_good, members_good, opening_refusal}
use Rattle.rules_opening.specs.Resources.{default_by, source_refusal, lies_inside, resource_refusal}
use Rattle.rules_opening.specs.declared.Opening.{Opening}
use Rattle.rules_opening.specs.declared.Resource.{Resource}
use Rattle.rules_opening.specs.declared.Source.{Source}
use Rattle.rules_opening.specs.declared.Source.TheVariants as source
use Rattle.rules_hour.specs.Hours.{Hour, call_refusal, hour_refusal}
use lib.Dec.{ltb}
use lib.IntN.{ℤ}

-- a chain of checks gives none but their numbers
module _ (k : ℕ) where
  unless_few : (t : Bool) (n : ℕ) → n ≤ k → unless t n ≤ k
  unless_few true n h = zero-le
  unless_few false n h = h

  then_few : (a b : ℕ) → a ≤ k → b ≤ k → (a then b) ≤ k
  then_few zero b h l = l
  then_few (suc a) b h l = h

  each_few : (f : ℕ → ℕ) (n : ℕ) → ((i : ℕ) → f i ≤ k) → each_to f n ≤ k
  unfolding each_to
  each_few f zero h = zero-le
  each_few f (suc n) h = then_few (each_to f n) (f n) (each_few f n h) (h n)

  curve_few : 3 ≤ k → (most : ℕ) (low top : ℤ) (c : RawCurve) → curve_refusal most low top c ≤ k
  unfolding curve_refusal
  curve_few l most low top c =
      then_few _ _ (then_few _ _ (unless_few (count_good most c) 1 (omega arith)) (unless_few (edges_good c) 2 (omega arith))) (unless_few (prices_good low top c) 3 l)

  costs_few : 8 ≤ k → (c : Costs) → cost_refusal c ≤ k
  unfolding cost_refusal
  costs_few l c =
      then_few _ _ (then_few _ _ (then_few _ _ (then_few _ _ (unless_few (points_good c) 4 (omega arith)) (unless_few (mw_good c) 5 (omega arith))) (unless_few (heat_good c) 6 (omega arith)))
      (unless_few (prices_in_range c) 7 (omega arith))) (unless_few (rates_good c) 8 l)

source_few : (s : Source) (x : Resource) → source_refusal s x ≤ 11
source_few source.Costs x = costs_few 11 (omega arith) x.costs
source_few source.Pack x = curve_few 11 (omega arith) most_steps lowest_default highest_default x.pack

resource_few : (month : ℕ) (x : Resource) → resource_refusal month x ≤ 11
unfolding resource_refusal
resource_few month x =
    then_few 11 _ _ (then_few 11 _ _ (curve_few 11 (omega arith) most_bid_steps lowest_bid (highest_bid month) x.bid) (source_few x.source x))
    (unless_few 11 (lies_inside (curve_of x.bid) (default_by x.source x)) 11 (omega arith))

pub opening_number : (o : Opening) → opening_refusal o ≤ 11
unfolding opening_refusal
opening_number o =
    then_few 11 _ _ (then_few 11 _ _ (unless_few 11 (counts_good o) 9 (omega arith)) (unless_few 11 (members_good o) 10 (omega arith)))
    (each_few 11 (λ r. resource_refusal (nat_of o.month) (resource_at o r)) o.resources (λ r. resource_few (nat_of o.month) (resource_at o r)))

interval_few : (n : ℕ) (v : Interval) → interval_refusal n v ≤ 16
unfolding interval_refusal
interval_few n v =
    then_few 16 _ _ (then_few 16 _ _ (then_few 16 _ _ (unless_few 16 (is_same_count n v) 13 (omega arith)) (unless_few 16 (constraints_good v) 14 (omega arith)))
    (unless_few 16 (ranges_good v.shadow v.lmp v.parameter v.factors v.resources v.constraints) 15 (omega arith)))
    (unless_few 16 (outputs_good v.available v.floor v.dispatch v.resources) 16 (omega arith))

pub interval_number : (h : Hour) (v : Interval) → hour_refusal h v ≤ 16
unfolding call_refusal
interval_number h v = then_few 16 _ _ (unless_few 16 (ltb h.standing.accepted 4) 12 (omega arith)) (interval_few h.market.resources v)
