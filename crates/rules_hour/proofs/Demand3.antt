-- Demand 3, as one statement over the whole list:
-- "After every list of interval calls on a freshly opened hour, accepted and refused ones in any order, the price of each hundredth of a megawatt in a
-- resource's bid is the least of its submitted price and its caps. Such a hundredth has one cap for each accepted interval of the list in which the resource
-- was dispatched and its non-competitive congestion component was above zero, and no other. The cap is the higher of its default price and the resource's
-- competitive price in that interval plus the parameter. A constraint enters that component exactly when it binds and some choice of at most three net
-- sellers, each withholding no more than it can, leaves counterflow supply below counterflow demand."
-- Assumes nothing.
use mathlib.Core.List.{List}
use mathlib.Core.Path.{◌≡◌}
use Prim.Native.Nat.{ℕ, ◌<◌}
use Rattle.rules_curve.specs.Demands.{Met}
use Rattle.rules_interval.specs.declared.Interval.{Interval}
use Rattle.rules_opening.specs.Conditions.{opening_demands, EachFull}
use Rattle.rules_opening.specs.Openings.{opening_refusal}
use Rattle.rules_opening.specs.declared.Opening.{Opening}
use Rattle.rules_opening.proofs.Exactly.{opening_accepted}
use Rattle.rules_hour.specs.Hours.{floor_in}
use Rattle.rules_hour.specs.Demand3.{submitted_price, default_price, accepted_calls, hour_of, curve_after, Demand3}
use Rattle.rules_hour.proofs.CallLaws.{floor_price, hour_count}
use Rattle.rules_hour.proofs.Answers.{answers_exactly, accepted_return_zero, accepted_sound}
use Rattle.rules_hour.proofs.CurveShape.{shape}
use Rattle.rules_hour.proofs.Owners.{owned_curve}

pub demand_3 : (o : Opening) (calls : List Interval) (r : ℕ) → opening_refusal o ≡ 0 → r < o.resources → Demand3 o calls r
demand_3 o calls r accepted l = record {
  owned =
      owned_curve o accepted r l (accepted_calls o calls) (accepted_sound o calls) (curve_after o calls r) (floor_in (hour_of o calls) r).price (shape o r accepted l calls)
      (λ q i. floor_price o accepted calls r l (submitted_price o r q) (default_price o r q));
  answered = answers_exactly o accepted calls;
  accepting = accepted_return_zero o accepted calls;
  counted = hour_count o accepted calls r l;
}

-- The same of an opening that meets every demand of the table, 9 to 11 and those of its curves and costs.
pub demand_3_met : (o : Opening) (calls : List Interval) (r : ℕ) → EachFull o → Met (opening_demands o) → r < o.resources → Demand3 o calls r
demand_3_met o calls r full met l = demand_3 o calls r ((opening_accepted o full).1 met) l
