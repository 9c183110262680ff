-- What an interval must be like, in paper 01's words (Interval and hour: Limits; Refused, by place: 13 to 16). No definition of the engine is cited here.
use Rattle.std.specs.Prelude.{List, [], ◌∷◌, ◌≡◌, ℕ, ◌+◌, ◌*◌, ◌<◌, ◌≤◌, ℤ, pos, neg_ℤ, get_or}
use Rattle.rules_curve.specs.Demands.{Demand, ◌asks◌, Between}
use Rattle.rules_interval.specs.declared.Interval.{Interval}

-- entry i of an array
abbrev pub entry : List ℤ → ℕ → ℤ
entry l i = get_or l i (pos 0)

-- 15: "shadow, lmp, parameter or factor outside limits": shadow 0 to 100,000,000, lmp up to 100,000,000 either way, parameter 0 to 100, factors -1,000,000 to 1,000,000
pub record Ranged (v : Interval) : Type 0 where
  pub shadow : (c : ℕ) → c < v.constraints → Between (pos 0) (pos 100000000) (entry v.shadow c)
  pub lmp : (r : ℕ) → r < v.resources → Between (neg_ℤ (pos 100000000)) (pos 100000000) (entry v.lmp r)
  pub parameter : Between (pos 0) (pos 100) v.parameter
  pub factor : (r : ℕ) → r < v.resources → (c : ℕ) → c < v.constraints → Between (neg_ℤ (pos 1000000)) (pos 1000000) (entry v.factors (r * 32 + c))

-- 16: "available outside 0 to 1,000,000, or floor or dispatch below 0 or above it"
pub record Able (v : Interval) : Type 0 where
  pub available : (r : ℕ) → r < v.resources → Between (pos 0) (pos 1000000) (entry v.available r)
  pub floor : (r : ℕ) → r < v.resources → Between (pos 0) (entry v.available r) (entry v.floor r)
  pub dispatch : (r : ℕ) → r < v.resources → Between (pos 0) (entry v.available r) (entry v.dispatch r)

-- of an interval for an hour of n resources. 13: "resource count isn't the hour's"; 14: "over 32 constraints"
abbrev pub interval_demands : ℕ → Interval → List Demand
interval_demands n v = (13 asks (v.resources ≡ n)) ∷ (14 asks (v.constraints ≤ 32)) ∷ (15 asks Ranged v) ∷ (16 asks Able v) ∷ []
