-- Paper 01, Refused, by place: what 12 to 16 say, and which calls are accepted. Assumes nothing.
use mathlib.Core.List.{List, [], ◌∷◌}
use mathlib.Core.Logic.{◌⊎◌, ⊎_elim, ◌↔◌}
use mathlib.Core.Path.{◌≡◌, refl}
use Prim.Native.Nat.{ℕ, ◌+◌, ◌*◌, ◌≤◌, ◌<◌}
use native.Mathlib.Omega.{arith}
use lib.IntN.{ℤ, pos, neg_ℤ}
use lib.ListN.{get_or}
use Rattle.rules_number.proofs.OverLaws.{le_or_lt}
use Rattle.rules_curve.specs.Demands.{First, Met}
use Rattle.rules_interval.specs.Conditions.{Ranged, Able, interval_demands}
use Rattle.rules_interval.specs.Intervals.{interval_refusal}
use Rattle.rules_interval.proofs.Exactly.{interval_exactly}
use Rattle.rules_interval.specs.declared.Interval.{Interval}
use Rattle.rules_path.specs.declared.Market.{Market}
use Rattle.rules_hour.specs.Conditions.{call_demands}
use Rattle.rules_hour.specs.Hours.{call_refusal}
use Rattle.rules_hour.specs.declared.Standing.{Standing}
use Rattle.rules_hour.proofs.Exactly.{call_exactly}
use Rattle.statements.proofs.Told.{◌says◌, Item, and_so, passed, stopped, told, taken, only}
use Rattle.statements.proofs.Refusals.{Within}

-- ---- an interval for an hour of n resources: resource r and constraint c are numbered from 0
module _ (n : ℕ) (v : Interval) where
  abbrev entry : List ℤ → ℕ → ℤ
  entry l i = get_or l i (pos 0)

  -- 13 "resource count isn't the hour's"
  abbrev pub Resources : Type 0
  Resources = v.resources ≡ n

  -- 14 "over 32 constraints"
  abbrev pub Constraints : Type 0
  Constraints = v.constraints ≤ 32

  -- 15 "shadow, lmp, parameter or factor outside limits": "shadow 0 to 100,000,000, lmp up to 100,000,000 either way, parameter 0 to 100"; "Shift factors are millionths, -1,000,000 to 1,000,000"
  abbrev pub Limits : Type 0
  Limits =
      ((c : ℕ) → c < v.constraints → Within (pos 0) (pos 100000000) (entry v.shadow c))
      × ((r : ℕ) → r < v.resources → Within (neg_ℤ (pos 100000000)) (pos 100000000) (entry v.lmp r))
      × Within (pos 0) (pos 100) v.parameter
      × ((r : ℕ) → r < v.resources → (c : ℕ) → c < v.constraints → Within (neg_ℤ (pos 1000000)) (pos 1000000) (entry v.factors (r * 32 + c)))

  -- 16 "available outside 0 to 1,000,000, or floor or dispatch below 0 or above it"
  abbrev pub Outputs : Type 0
  Outputs = (r : ℕ) → r < v.resources
      → Within (pos 0) (pos 1000000) (entry v.available r) × Within (pos 0) (entry v.available r) (entry v.floor r) × Within (pos 0) (entry v.available r) (entry v.dispatch r)

pub record IntervalSays (n : ℕ) (v : Interval) (r : ℕ) : Type 0 where
  pub thirteen : (r ≡ 13) ↔ (Resources n v → ⊥)
  pub fourteen : (r ≡ 14) ↔ (Resources n v × (Constraints n v → ⊥))
  pub fifteen : (r ≡ 15) ↔ (Resources n v × (Constraints n v × (Limits n v → ⊥)))
  pub sixteen : (r ≡ 16) ↔ (Resources n v × (Constraints n v × (Limits n v × (Outputs n v → ⊥))))
  pub none : (r ≡ 0) ↔ (Resources n v × (Constraints n v × (Limits n v × Outputs n v)))
  pub no_other : (r ≡ 0) ⊎ ((13 ≤ r) × (r ≤ 16))

-- ---- a call: "An interval call is accepted exactly when none of 12 to 16 applies"; accepted is how many were before it, and i the number of its interval
pub record CallSays (accepted i r : ℕ) : Type 0 where
  -- 12 "four already accepted"
  pub twelve : (r ≡ 12) ↔ (4 ≤ accepted)
  pub others : (n : ℕ) → (n ≡ 12 → ⊥) → (r ≡ n) ↔ ((accepted < 4) × (i ≡ n))

-- ---- from the theorems
module _ (n : ℕ) (v : Interval) (few : n ≤ 64) where
  count_is : (v.resources ≡ n) ↔ Resources n v
  count_is = ((λ a. a), λ a. a)

  constraints_are : (v.constraints ≤ 32) ↔ Constraints n v
  constraints_are = ((λ a. a), λ a. a)

  limits_are : Ranged v ↔ Limits n v
  limits_are = ((λ a. (a.shadow, a.lmp, a.parameter, a.factor)), λ a. record { shadow = a.0; lmp = a.1; parameter = a.2; factor = a.3 })

  outputs_are : Able v ↔ Outputs n v
  outputs_are = (
    (λ a r l. (a.available r l, a.floor r l, a.dispatch r l)),
    λ a. record { available = λ r l. (a r l).0; floor = λ r l. (a r l).1; dispatch = λ r l. (a r l).2 },
  )

  abbrev items : List Item
  items = (13 says count_is) ∷ (14 says constraints_are) ∷ (15 says limits_are) ∷ (16 says outputs_are) ∷ []

  pub met_is : Met (interval_demands n v) ↔ (Resources n v × (Constraints n v × (Limits n v × Outputs n v)))
  met_is = (
    (λ m. (m.0, (m.1.0, (limits_are.0 m.1.1.0, outputs_are.0 m.1.1.1.0)))),
    λ h. (h.0, (h.1.0, (limits_are.1 h.1.1.0, (outputs_are.1 h.1.1.1, tt)))),
  )

  pub interval : IntervalSays n v (interval_refusal n v)
  interval =
      let e = interval_exactly n v few in
      let r = interval_refusal n v in
      record {
        thirteen = told items r e 13 refl;
        fourteen = told items r e 14 refl;
        fifteen = told items r e 15 refl;
        sixteen = told items r e 16 refl;
        none = taken items r e;
        no_other = only items r e 13 16 refl;
      }

  -- what each number says of the values
  pub number_says : (k : ℕ) → First k (interval_demands n v) ↔ (interval_refusal n v ≡ k)
  number_says k = let e = interval_exactly n v few k in (e.1, e.0)

-- n is how many resources the hour has
module _ (accepted n r : ℕ) (v : Interval) (few : n ≤ 64) (exactly : (k : ℕ) → (r ≡ k) ↔ First k (call_demands accepted n v)) where
  room : (accepted < 4) ↔ (accepted < 4)
  room = ((λ a. a), λ a. a)

  full : (accepted < 4 → ⊥) ↔ (4 ≤ accepted)
  full = ((λ h. ⊎_elim (λ a. a) (λ a. absurd (h a)) (le_or_lt 4 accepted)), λ h a. omega arith)

  unsaid : First 12 (interval_demands n v) → ⊥
  unsaid f = let e = (number_says n v few 12).0 f in ⊎_elim (λ y. omega arith) (λ y. omega (arith, y.0)) (interval n v few).no_other

  pub call_says : CallSays accepted (interval_refusal n v) r
  call_says = record {
    twelve = and_so (exactly 12) (and_so (stopped 12 12 (interval_demands n v) room refl (omega arith) unsaid) full);
    others = λ k other. and_so (exactly k) (passed k 12 (interval_demands n v) room other (number_says n v few k));
  }

  pub accepted_says : Met (call_demands accepted n v) ↔ ((accepted < 4) × (Resources n v × (Constraints n v × (Limits n v × Outputs n v))))
  accepted_says = ((λ m. (m.0, (met_is n v few).0 m.1)), λ h. (h.0, (met_is n v few).1 h.1))

pub call : (m : Market) (s : Standing) (v : Interval) → m.resources ≤ 64 → CallSays s.accepted (interval_refusal m.resources v) (call_refusal m s v)
call m s v few = call_says s.accepted m.resources (call_refusal m s v) v few (call_exactly m s v few)
