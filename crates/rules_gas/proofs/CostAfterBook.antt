-- "21 .. found before any cost check" (paper 02, 2.7). Assumes nothing.
use Rattle.std.specs.Prelude.{None, Option, Some}
use mathlib.Core.Bool.{Bool, true, false}
use mathlib.Core.List.{List, []}
use mathlib.Core.Logic.{◌↔◌}
use mathlib.Core.Path.{◌≡◌, refl, ap}
use Prim.Native.Nat.{ℕ}
use native.Mathlib.Omega.{arith}
use lib.IntN.{ℤ, pos}
use Rattle.rules_curve.specs.Curves.{blank_curve, unless_refused}
use Rattle.rules_curve.specs.Refusals.{unless, ◌then◌}
use Rattle.rules_cost.specs.Costs.{points_good, mw_good, heat_good, prices_in_range, rates_good, cost_refusal, cost_curve}
use Rattle.rules_cost.specs.declared.Costs.{Costs}
use Rattle.rules_gas.specs.Book.{run_in, gas_run, last_price, price_in_use}
use Rattle.rules_gas.specs.Booked.{with_gas, priced_refusal, priced_curve, list_refusal, booked_refusal, booked_curve}
use Rattle.rules_gas.specs.declared.GasMarket.{GasMarket}
use Rattle.rules_gas.specs.declared.GasMarket.TheVariants.{DayAhead, RealTime}
use Rattle.rules_gas.proofs.PriceInUse.{last_none}

-- ---- 21 is no number of costs
not_21 : (a b c d e : Bool) → (unless a 4 then unless b 5 then unless c 6 then unless d 7 then unless e 8) ≡ 21 → ⊥
not_21 false b c d e h = omega arith
not_21 true false c d e h = omega arith
not_21 true true false d e h = omega arith
not_21 true true true false e h = omega arith
not_21 true true true true false h = omega arith
not_21 true true true true true h = omega arith

cost_not_21 : (c : Costs) → cost_refusal c ≡ 21 → ⊥
unfolding cost_refusal
cost_not_21 c h = not_21 (points_good c) (mw_good c) (heat_good c) (prices_in_range c) (rates_good c) h

priced_exactly : (g : Option ℕ) (c : Costs) → (priced_refusal g c ≡ 21) ↔ (g ≡ None)
priced_exactly None c = ((λ h. refl), λ h. refl)
priced_exactly (Some p) c = ((λ h. absurd (cost_not_21 (with_gas c p) h)), λ h. ap (λ (g : Option ℕ). priced_refusal g c) h)

-- 21 exactly where the run is empty, whatever the costs
pub list_21_exactly : (day : ℕ) (l : List ℕ) (c : Costs) → (list_refusal day l c ≡ 21) ↔ (run_in day l ≡ [])
list_21_exactly day l c =
    let a = priced_exactly (last_price (run_in day l)) c in
    let b = last_none (run_in day l) in
    ((λ h. b.0 (a.0 h)), λ h. a.1 (b.1 h))

module _ (market : GasMarket) (day : ℕ) (ahead real : List ℕ) (c : Costs) where
  pub cost_after_book : (booked_refusal market day ahead real c ≡ 21) ↔ (gas_run market day ahead real ≡ [])
  cost_after_book =
      let a = priced_exactly (price_in_use market day ahead real) c in
      let b = last_none (gas_run market day ahead real) in
      ((λ h. b.0 (a.0 h)), λ h. a.1 (b.1 h))

  -- 21 hands back the blank curve
  pub no_curve_lem : gas_run market day ahead real ≡ [] → booked_curve market day ahead real c ≡ blank_curve
  no_curve_lem h = ap (λ (g : Option ℕ). priced_curve g c) ((last_none (gas_run market day ahead real)).1 h)

  -- with a price in use, refusal and curve are those of the costs with that gas price
  pub priced_as : (price : ℕ) → price_in_use market day ahead real ≡ Some price
      → (booked_refusal market day ahead real c ≡ cost_refusal (with_gas c price))
      × (booked_curve market day ahead real c ≡ unless_refused (cost_refusal (with_gas c price)) (cost_curve (with_gas c price)))
  priced_as price e = (ap (λ (g : Option ℕ). priced_refusal g c) e, ap (λ (g : Option ℕ). priced_curve g c) e)

-- "The answer never depends on the other list"
pub booked_unread : (day : ℕ) (l other other' : List ℕ) (c : Costs)
    → (booked_refusal DayAhead day l other c ≡ booked_refusal DayAhead day l other' c) × (booked_refusal RealTime day other l c ≡ booked_refusal RealTime day other' l c)
    × (booked_curve DayAhead day l other c ≡ booked_curve DayAhead day l other' c) × (booked_curve RealTime day other l c ≡ booked_curve RealTime day other' l c)
booked_unread day l other other' c = (refl, refl, refl, refl)

-- ---- the book's price alone is the gas price
abbrev gas_at : Costs → ℤ → Costs
gas_at c g = record {
  count = c.count;
  points = c.points;
  gas = g;
  rate = c.rate;
  allowance = c.allowance;
  om = c.om;
  msc = c.msc;
  soc = c.soc;
  fee = c.fee;
}

pub record GasOf (c : Costs) (price : ℕ) : Type 0 where
  pub gas : (with_gas c price).gas ≡ pos price
  -- everything else of the costs stays
  pub others : gas_at (with_gas c price) c.gas ≡ c
  -- what stood in its place isn't looked at
  pub unread : (g : ℤ) → with_gas (gas_at c g) price ≡ with_gas c price

pub gas_of : (c : Costs) (price : ℕ) → GasOf c price
unfolding with_gas
gas_of c price = record { gas = refl; others = refl; unread = λ g. refl }
