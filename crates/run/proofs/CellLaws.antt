-- What the cells of an hour stand for, after a part of a text.
use Prim.Native.Nat.{ℕ, zero, suc, ◌≤◌}
use mathlib.Core.Path.{◌≡◌}
use mathlib.Core.Bool.{Bool, true, false}
use mathlib.Core.List.{List}
use native.Mathlib.Omega.{arith}
use lib.Dec.{ltb}
use lib.IntN.{ℤ}
use lib.ListN.{length}
use Rattle.rules_number.specs.Order.{nat_of}
use Rattle.rules_curve.specs.Refusals.{unless, ◌then◌, each_to}
use Rattle.rules_curve.specs.Curves.{most_steps, most_bid_steps, lowest_bid, highest_bid, lowest_default, highest_default, count_good, edges_good, prices_good, curve_refusal, curve_of}
use Rattle.rules_curve.specs.declared.RawCurve.{RawCurve}
use Rattle.rules_cost.specs.Costs.{points_good, mw_good, heat_good, prices_in_range, rates_good, cost_refusal}
use Rattle.rules_cost.specs.declared.Costs.{Costs}
use Rattle.rules_opening.specs.Resources.{source_refusal, lies_inside, resource_refusal, default_by}
use Rattle.rules_opening.specs.declared.Source.{Source}
use Rattle.rules_opening.specs.declared.Source.TheVariants as source
use Rattle.rules_opening.specs.declared.Resource.{Resource}
use Rattle.rules_interval.specs.declared.Interval.{Interval}
use Rattle.rules_interval.specs.Intervals.{interval_refusal, is_same_count, constraints_good, ranges_good, outputs_good}
use Rattle.rules_path.specs.declared.Market.{Market}
use Rattle.rules_opening.specs.declared.Opening.{Opening}
use Rattle.rules_opening.specs.Openings.{opening_refusal, counts_good, members_good, resource_at}
use Rattle.rules_hour.specs.declared.Standing.{Standing}
use Rattle.rules_hour.specs.Hours.{call_refusal, hour_after}
use Rattle.rules_hour.proofs.AcceptedOpening.{few}
use Rattle.rules_state.specs.Layout.{rows_from}
use Rattle.rules_state.specs.States.{hour_in, standing_in, market_in}
use Rattle.rules_state.specs.Takes.{standing_written}
use Rattle.rules_state.proofs.TakeLaws.{standing_market, standing_rows, standing_after_lem}

unless_few : (b : Bool) (n k : ℕ) → n ≤ k → unless b n ≤ k
unless_few true n k h = omega arith
unless_few false n k h = h

then_few : (a b n : ℕ) → a ≤ n → b ≤ n → (a then b) ≤ n
then_few zero b n h k = k
then_few (suc a) b n h k = h

each_few : (f : ℕ → ℕ) (k n : ℕ) → ((i : ℕ) → f i ≤ k) → each_to f n ≤ k
unfolding each_to
each_few f k zero h = omega arith
each_few f k (suc n) h = then_few (each_to f n) (f n) k (each_few f k n h) (h n)

-- refusals of an interval and of an opening have two digits
pub call_few : (m : Market) (s : Standing) (v : Interval) → call_refusal m s v ≤ 99
unfolding call_refusal interval_refusal
call_few m s v =
    then_few _ _ 99 (unless_few (ltb s.accepted 4) 12 99 (omega arith))
    (then_few _ _ 99
    (then_few _ _ 99 (then_few _ _ 99 (unless_few (is_same_count m.resources v) 13 99 (omega arith)) (unless_few (constraints_good v) 14 99 (omega arith)))
    (unless_few (ranges_good v.shadow v.lmp v.parameter v.factors v.resources v.constraints) 15 99 (omega arith)))
    (unless_few (outputs_good v.available v.floor v.dispatch v.resources) 16 99 (omega arith)))

curve_few : (most : ℕ) (low top : ℤ) (c : RawCurve) → curve_refusal most low top c ≤ 99
unfolding curve_refusal
curve_few most low top c =
    then_few _ _ 99 (then_few _ _ 99 (unless_few (count_good most c) 1 99 (omega arith)) (unless_few (edges_good c) 2 99 (omega arith))) (unless_few (prices_good low top c) 3 99 (omega arith))

cost_few : (c : Costs) → cost_refusal c ≤ 99
unfolding cost_refusal
cost_few c =
    then_few _ _ 99
    (then_few _ _ 99
    (then_few _ _ 99 (then_few _ _ 99 (unless_few (points_good c) 4 99 (omega arith)) (unless_few (mw_good c) 5 99 (omega arith))) (unless_few (heat_good c) 6 99 (omega arith)))
    (unless_few (prices_in_range c) 7 99 (omega arith)))
    (unless_few (rates_good c) 8 99 (omega arith))

source_few : (s : Source) (x : Resource) → source_refusal s x ≤ 99
source_few source.Costs x = cost_few x.costs
source_few source.Pack x = curve_few most_steps lowest_default highest_default x.pack

resource_few : (month : ℕ) (x : Resource) → resource_refusal month x ≤ 99
unfolding resource_refusal
resource_few month x =
    then_few _ _ 99 (then_few _ _ 99 (curve_few most_bid_steps lowest_bid (highest_bid month) x.bid) (source_few x.source x))
    (unless_few (lies_inside (curve_of x.bid) (default_by x.source x)) 11 99 (omega arith))

pub opening_few : (o : Opening) → opening_refusal o ≤ 99
unfolding opening_refusal
opening_few o =
    then_few _ _ 99 (then_few _ _ 99 (unless_few (counts_good o) 9 99 (omega arith)) (unless_few (members_good o) 10 99 (omega arith)))
    (each_few (λ r. resource_refusal (nat_of o.month) (resource_at o r)) 99 o.resources (λ r. resource_few (nat_of o.month) (resource_at o r)))

pub opened_resources : (o : Opening) → opening_refusal o ≡ 0 → o.resources ≤ 64
opened_resources o e = (few o e).2

-- the hour after an accepted interval
pub hour_after_lem : (l : List ℤ) (v : Interval) → rows_from ≤ length l → call_refusal (market_in l) (standing_in l) v ≡ 0 → (hour_in (standing_written l v)).hour ≡ hour_after (hour_in l).hour v
unfolding hour_after
hour_after_lem l v h e = rw (standing_market l v e, standing_rows l v e, standing_after_lem l v e (omega (arith, h)))
