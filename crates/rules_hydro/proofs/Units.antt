-- "A cut on a hydro unit has the same causes as on any other" (paper 02, 2.8), over every list of interval calls and passes. Assumes nothing.
use Rattle.std.specs.Prelude.{Some}
use mathlib.Core.Bool.{cond}
use mathlib.Core.List.{List, [], ◌∷◌}
use mathlib.Core.Logic.{◌↔◌}
use mathlib.Core.Path.{◌≡◌, refl, sym, ap, ap₂, subst, ◌∙◌}
use Prim.Native.Nat.{ℕ, zero, suc, ◌<◌}
use native.Mathlib.Nat.{le_refl}
use native.Mathlib.Omega.{arith}
use lib.IntN.{ℤ, pos, ◌+ℤ◌, ◌-ℤ◌, ◌*ℤ◌}
use Rattle.rules_number.specs.Order.{eq_z, nat_of}
use Rattle.rules_curve.specs.Curves.{step_to, steps_of, end_of, price_at, curve_of}
use Rattle.rules_curve.specs.declared.Step.{Step}
use Rattle.rules_curve.proofs.PriceLaws.{price_here}
use Rattle.rules_interval.specs.Intervals.{available_at, floor_at}
use Rattle.rules_interval.specs.declared.Interval.{Interval}
use Rattle.rules_opening.specs.Openings.{opening_refusal}
use Rattle.rules_opening.specs.declared.Opening.{Opening}
use Rattle.rules_hour.specs.Demand3.{InBid, sum_of, effectiveness_on, counterflow_demand, counterflow_supply, can_withhold, Enters, Component, quote_in, default_of}
use Rattle.rules_hour.proofs.AcceptedOpening.{packed_default}
use Rattle.rules_pass.specs.Calls.{Request}
use Rattle.rules_pass.proofs.Demand3.{demand_3}
use Rattle.rules_pass.proofs.FiveMinute.{five_minute}
use Rattle.rules_hydro.specs.Hydros.{hydro_refusal, hydro_price, hydro_curve}
use Rattle.rules_hydro.specs.Units.{IsHydro, SameOwners, HydroUnit}
use Rattle.rules_hydro.specs.declared.Hydro.{Hydro}
use Rattle.rules_hydro.proofs.HydroPrice.{one_step_lem}

-- ---- the causes: dispatch, prices and factors are the interval's own, and of an opening they take who owns what and who sells
sum_same : (f g : ℕ → ℤ) (n : ℕ) → ((i : ℕ) → i < n → f i ≡ g i) → sum_of f n ≡ sum_of g n
sum_same f g zero h = refl
sum_same f g (suc n) h = ap₂ ◌+ℤ◌ (sum_same f g n (λ i l. h i (omega arith))) (h n (le_refl (suc n)))

module _ (o p : Opening) (same : SameOwners o p) (v : Interval) where
  withhold_same : (c k : ℕ) → can_withhold o v c k ≡ can_withhold p v c k
  unfolding can_withhold
  withhold_same c k =
      sum_same _ _ o.resources (λ r l. ap (λ (z : ℤ). cond (eq_z z (pos k)) (effectiveness_on v c r *ℤ (available_at v r -ℤ floor_at v r)) (pos 0)) (same.owners r l))
      ∙ ap (sum_of _) same.resources

  enters_same : (c : ℕ) → Enters o v c → Enters p v c
  unfolding counterflow_demand counterflow_supply
  enters_same c h = record {
    binding = h.binding;
    choice = h.choice;
    few = h.few;
    once = h.once;
    each = λ x m.
        let e = h.each x m in
        ((rw same.portfolios at e.0.0, sym (same.sellers x.who e.0.0) ∙ e.0.1), rw (withhold_same c x.who) at e.1);
    below = rw same.resources at h.below;
  }

turned : (o p : Opening) → SameOwners o p → SameOwners p o
turned o p s = record {
  resources = sym s.resources;
  owners = λ r l. sym (s.owners r (rw s.resources l));
  portfolios = sym s.portfolios;
  sellers = λ k l. sym (s.sellers k (rw s.portfolios l));
}

component_same : (o p : Opening) → SameOwners o p → (v : Interval) (r : ℕ) (C : ℤ) → Component o v r C → Component p v r C
component_same o p s v r C h = record {
  constraints = h.constraints;
  once = h.once;
  enters = λ c. ((λ m. let e = (h.enters c).0 m in (e.0, enters_same o p s v c e.1)), λ e. (h.enters c).1 (e.0, enters_same p o (turned o p s) v c e.1));
  sum = h.sum;
}

-- the component is the same with any other default curve
pub same_causes : (o p : Opening) → SameOwners o p → (v : Interval) (r : ℕ) (C : ℤ) → Component o v r C ↔ Component p v r C
same_causes o p s v r C = (component_same o p s v r C, component_same p o (turned o p s) v r C)

-- ---- the unit in an hour
module _ (o : Opening) (calls : List Request) (r : ℕ) (x : Hydro) (accepted : opening_refusal o ≡ 0) (l : r < o.resources) (hydro : IsHydro o r x) where
  packed : (hydro_refusal x ≡ 0) × (default_of o r ≡ curve_of (hydro_curve x))
  packed = packed_default o accepted r l (hydro_refusal x) (hydro_curve x) hydro.packed hydro.pack

  -- its default curve is the one step
  steps_are : steps_of (default_of o r) ≡ step_to (nat_of x.high) (hydro_price x) ∷ []
  steps_are = ap steps_of packed.1 ∙ (one_step_lem x).1

  pub hydro_unit : HydroUnit o calls r x
  hydro_unit = record { taken = packed.0; hourly = demand_3 o calls r accepted l; five_minute = five_minute o calls r accepted l; default = default }
    where
      default : (q : ℕ) → InBid o r q → quote_in (default_of o r) q ≡ Some (hydro_price x)
      default q i =
          let own = (demand_3 o calls r accepted l).owned in
          let step = step_to (nat_of x.high) (hydro_price x) in
          let below : q < nat_of x.high = subst (λ (t : List Step). q < end_of (default_of o r).start t) steps_are (own.default_covers q i).below_end in
          (own.quoted q i).default ∙ ap Some (ap (λ (t : List Step). price_at t q) steps_are ∙ price_here step [] q below)
