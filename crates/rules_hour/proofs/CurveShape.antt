-- The curve of a resource in an hour that calls on an accepted opening leave (paper 01, Interval and hour):
-- "Neighbouring steps with one price are merged, in the opened hour too; 19 steps always suffice", 20 since a default curve may have 11.
use Rattle.std.specs.Prelude.{None, Option, ℤ}
use mathlib.Core.List.{List, []}
use mathlib.Core.Path.{◌≡◌, ap, ◌∙◌, subst}
use Prim.Native.Nat.{ℕ, ◌≤◌, ◌<◌}
use Rattle.rules_curve.specs.declared.Step.{Step}
use Rattle.rules_mitigation.specs.Mitigation.{most_mitigated_steps, mitigated, used_steps}
use Rattle.rules_mitigation.specs.Meaning.{IsMitigated}
use Rattle.rules_mitigation.specs.declared.Mitigated.{Mitigated}
use Rattle.rules_mitigation.proofs.MitigatedCurve.{mitigated_is, mitigated_only, twenty_suffice}
use Rattle.rules_interval.specs.declared.Interval.{Interval}
use Rattle.rules_hour.specs.Hours.{floor_in, curve_in, hour_after_all}
use Rattle.rules_opening.specs.Openings.{opening_refusal}
use Rattle.rules_hour.specs.Opened.{opened_hour}
use Rattle.rules_hour.specs.Demand3.{submitted, default_of, hour_of, curve_after}
use Rattle.rules_hour.specs.declared.Floor.{Floor}
use Rattle.rules_hour.specs.Hours.{Hour}
use Rattle.rules_opening.specs.declared.Opening.{Opening}
use Rattle.rules_hour.proofs.AcceptedOpening.{opened_hour_lem, bid_sound, default_sound, bid_inside, fresh_floor}
use Rattle.rules_hour.proofs.KeptLaws.{Kept, hour_kept, kept_curve}

-- What the curve c of resource r is where its floor price is k: the bid with each quantity at the smaller of its price and its cap, its prices never falling and
-- no two neighbours with one price; it is the only such curve, and 20 steps suffice.
pub record Shape (o : Opening) (r : ℕ) (k : Option ℤ) (c : Mitigated) : Type 0 where
  pub is : IsMitigated k (submitted o r) (default_of o r) c.start (used_steps c)
  pub only : (p : ℕ) (l : List Step) → IsMitigated k (submitted o r) (default_of o r) p l → l ≡ used_steps c
  pub twenty : c.count ≤ most_mitigated_steps

module _ (o : Opening) (r : ℕ) (accepted : opening_refusal o ≡ 0) (l : r < o.resources) where
  -- the curve of the bid with a floor price
  pub shape_by : (k : Option ℤ) (c : Mitigated) → c ≡ mitigated k (submitted o r) (default_of o r) → Shape o r k c
  shape_by k c e =
      let b = bid_sound o accepted r l in
      let d = default_sound o accepted r l in
      let i = bid_inside o accepted r l in
      rw e
      (record {
        is = mitigated_is k (submitted o r) (default_of o r) b d i;
        only = mitigated_only k (submitted o r) (default_of o r) b d i;
        twenty = twenty_suffice k (submitted o r) (default_of o r) b d i;
      })

  -- the curve in an hour that keeps bids and default curves
  pub kept_shape : (h : Hour) → Kept o h → Shape o r (floor_in h r).price (curve_in h r)
  kept_shape h k = shape_by (floor_in h r).price (curve_in h r) (kept_curve o h k r l)

  -- the curve after any list of calls
  pub shape : (calls : List Interval) → Shape o r (floor_in (hour_of o calls) r).price (curve_after o calls r)
  shape calls = kept_shape (hour_of o calls) (hour_kept o calls accepted)

  -- the curve in the opened hour: no floor price, and merged too
  pub opened_shape : Shape o r None (curve_in (opened_hour o) r)
  unfolding hour_after_all
  opened_shape =
      let uncut = ap (λ (h : Hour). (floor_in h r).price) (opened_hour_lem o accepted) ∙ ap (λ (x : Floor). x.price) (fresh_floor o r l) in
      subst (λ (k : Option ℤ). Shape o r k (curve_in (opened_hour o) r)) uncut (shape [])
