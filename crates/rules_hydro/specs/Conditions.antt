-- What a hydro default's data must be like, in the request's words (paper 02, 2.8).
use Rattle.std.specs.Prelude.{List, [], ◌∷◌, ℕ, ◌<◌, ◌≤◌, ℤ, pos, ◌≤ℤ◌, ◌<ℤ◌}
use Rattle.rules_curve.specs.Demands.{Demand, ◌asks◌, Between}
use Rattle.rules_curve.specs.Conditions.{default_demands}
use Rattle.rules_hydro.specs.Hydros.{peak, balance, month, hydro_curve}
use Rattle.rules_hydro.specs.declared.Hydro.{Hydro}

-- "hub prices 0 to 100,000,000"
abbrev pub IsHubPrice : ℤ → Type 0
IsHubPrice p = Between (pos 0) (pos 100000000) p

-- 22: "a value outside these limits"
pub record Limited (x : Hydro) : Type 0 where
  -- "H is 1 to 100,000 Btu/kWh", "gas as in 01"
  pub heat : Between (pos 1) (pos 100000) x.heat
  pub gas : Between (pos 0) (pos 1000000) x.gas
  -- "over 1 to 4 hubs", "the horizon 1 to 12 months"
  pub hubs : (1 ≤ x.hubs) × (x.hubs ≤ 4)
  pub horizon : (1 ≤ x.horizon) × (x.horizon ≤ 12)
  -- "Prices past the horizon or the hub count aren't read"
  pub peaks : (i : ℕ) → i < x.hubs → IsHubPrice (peak x.prices i)
  pub balances : (i : ℕ) → i < x.hubs → IsHubPrice (balance x.prices i)
  pub months : (i k : ℕ) → i < x.hubs → 1 ≤ k → k ≤ x.horizon → IsHubPrice (month x.prices i k)

-- "It adds 22 .. checked before 1"
abbrev pub hydro_demands : Hydro → List Demand
hydro_demands x = (22 asks Limited x) ∷ default_demands (hydro_curve x)

-- what 1 to 3 leave to ask: the step count is 1 and the price is in range, so that it is the quantities alone
pub record Quantities (x : Hydro) : Type 0 where
  pub from : pos 0 ≤ℤ x.low
  pub rising : x.low <ℤ x.high
  pub to : x.high ≤ℤ pos 1000000

abbrev pub own_demands : Hydro → List Demand
own_demands x = (22 asks Limited x) ∷ (2 asks Quantities x) ∷ []
