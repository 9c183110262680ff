-- The number of each refusal, and what a check hands back: "A refusal returns its number alone". Assumes nothing.
use Rattle.std.specs.Prelude.{Err, Ok, Result, ⊤}
use mathlib.Core.List.{map}
use mathlib.Core.Path.{◌≡◌, refl, ap, ◌∙◌}
use Prim.Native.Nat.{ℕ, ◌<◌}
use native.Mathlib.Omega.{arith}
use lib.IntN.{pos}
use lib.ListN.{take, replicate}
use Rattle.rules_curve.specs.Refusals.{number_of, outcome_number}
use Rattle.rules_curve.specs.Curves.{curve_of, unless_refused, bid_refusal, default_refusal, checked_bid, checked_default}
use Rattle.rules_curve.specs.declared.Refusal.{Refusal}
use Rattle.rules_curve.specs.declared.Refusal.TheVariants as refusal
use Rattle.rules_curve.specs.declared.Curve.{Curve}
use Rattle.rules_curve.specs.declared.RawCurve.{RawCurve}
use Rattle.rules_curve.proofs.RefusalLaws.{outcome_only, refused_number}
use Rattle.rules_curve.proofs.Answered.{blank_is, refused_alone, same_start, same_steps}
use Rattle.rules_cost.specs.Costs.{cost_refusal, cost_curve}
use Rattle.rules_cost.specs.declared.Costs.{Costs}
use Rattle.statements.proofs.Plain.{Whole}

-- ---- paper 01, Refused, by place, and paper 02 from 19 on
abbrev pub Number : Refusal → ℕ
Number refusal.StepCount = 1
Number refusal.Edge = 2
Number refusal.Price = 3
Number refusal.PointCount = 4
Number refusal.Quantity = 5
Number refusal.HeatRate = 6
Number refusal.CostRange = 7
Number refusal.IncrementalRate = 8
Number refusal.Counts = 9
Number refusal.Membership = 10
Number refusal.OutsideDefault = 11
Number refusal.HourFull = 12
Number refusal.ResourceCount = 13
Number refusal.ConstraintCount = 14
Number refusal.IntervalRange = 15
Number refusal.Output = 16
Number refusal.Form = 17
Number refusal.Length = 18
Number refusal.PassTurn = 19
Number refusal.HourOpen = 20
Number refusal.GasBook = 21
Number refusal.PartsApart = 23
Number refusal.PartsTogether = 24
Number refusal.TradingDay = 25
Number refusal.NothingBinds = 26

-- the refusal of an outcome, and any where there is none
refusal_in : Result ⊤ Refusal → Refusal
refusal_in (Ok x) = refusal.StepCount
refusal_in (Err r) = r

-- whatever an accepted call hands back, a number that is a refusal's is of that refusal
said_by : {T : Type 0} (r : Refusal) (a : Result T Refusal) → outcome_number a ≡ number_of r → a ≡ Err r
unfolding refusal_in
said_by r (Ok x) e = let p : 0 < number_of r = refused_number r in absurd (omega (arith, e))
said_by r (Err s) e = ap Err (ap refusal_in (outcome_only (Err s) (Err r) e))

-- 0 is accepted, whatever is handed back, and an outcome is what its number says: with the number of a refusal it is that refusal
pub outcomes : ((T : Type 0) (x : T) → outcome_number (Ok x) ≡ 0) × ((T : Type 0) (r : Refusal) → outcome_number {T = T} (Err r) ≡ Number r)
    × ((a b : Result ⊤ Refusal) → outcome_number a ≡ outcome_number b → a ≡ b) × ((T : Type 0) (r : Refusal) (a : Result T Refusal) → outcome_number a ≡ Number r → a ≡ Err r)
outcomes = ((λ T x. refl), (λ T r. refl), outcome_only, λ T r a e. said_by r a e)

-- ---- the curve of nothing: start 0 and no steps
abbrev pub Nothing : Curve
Nothing = record { start = 0; count = 0; steps = replicate 11 (record { end = 0; price = pos 0 }) }

-- k is handed back by a check of c whose number is n
pub record HandsBack (n : ℕ) (c : RawCurve) (k : Curve) : Type 0 where
  pub refused : 0 < n → k ≡ Nothing
  -- else what was read: a start and ends that aren't negative are themselves
  pub start : n ≡ 0 → k.start ≡ Whole c.start
  pub steps : n ≡ 0 → take k.count k.steps ≡ map (λ s. record { end = Whole s.end; price = s.price }) (take c.count c.steps)

-- ---- from the theorems
hands_back : (n : ℕ) (c : RawCurve) → HandsBack n c (unless_refused n (curve_of c))
hands_back n c = record {
  refused = λ some. refused_alone n (curve_of c) some ∙ blank_is;
  start = λ e. ap (λ (m : ℕ). (unless_refused m (curve_of c)).start) e ∙ same_start c;
  steps = λ e. ap (λ (m : ℕ). take (unless_refused m (curve_of c)).count (unless_refused m (curve_of c)).steps) e ∙ same_steps c;
}

pub bid_check : (month : ℕ) (c : RawCurve) → HandsBack (bid_refusal month c) c (checked_bid month c)
bid_check month c = hands_back (bid_refusal month c) c

pub default_check : (c : RawCurve) → HandsBack (default_refusal c) c (checked_default c)
default_check c = hands_back (default_refusal c) c

-- costs hand back the default curve, or nothing
pub costs_check : (c : Costs) → (0 < cost_refusal c → unless_refused (cost_refusal c) (cost_curve c) ≡ Nothing) × (cost_refusal c ≡ 0 → unless_refused (cost_refusal c) (cost_curve c) ≡ cost_curve c)
costs_check c = ((λ some. refused_alone (cost_refusal c) (cost_curve c) some ∙ blank_is), λ e. ap (λ (n : ℕ). unless_refused n (cost_curve c)) e)
