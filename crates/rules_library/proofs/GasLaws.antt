-- A book of gas prices in slices: what a market's number means, and 21. Assumes nothing.
use Rattle.std.specs.Prelude.{None, Option, Some}
use Prim.Native.Nat.{ℕ, zero, suc, ◌≤◌}
use mathlib.Core.List.{List, [], ◌∷◌}
use mathlib.Core.Logic.{◌↔◌}
use mathlib.Core.Path.{◌≡◌, refl, ap}
use native.Mathlib.Omega.{arith}
use lib.ListN.{length}
use Rattle.rules_curve.specs.Curves.{most_steps, unless_refused}
use Rattle.rules_cost.specs.Costs.{cost_refusal, cost_curve}
use Rattle.rules_cost.specs.declared.Costs.{Costs}
use Rattle.rules_gas.specs.Book.{days_rise, length_of_run, run_in, gas_run, last_price}
use Rattle.rules_gas.specs.Booked.{with_gas, priced_refusal, priced_curve, list_refusal, list_curve, booked_refusal, booked_curve}
use Rattle.rules_gas.specs.declared.GasMarket.TheVariants.{DayAhead, RealTime}
use Rattle.rules_library.specs.Gas.{list_by, run_count}
use Rattle.rules_library.proofs.Meaning.{all_steps}

-- ---- markets by number
pub record ByNumber (day : ℕ) (ahead real : List ℕ) : Type 0 where
  pub day_ahead : run_count 0 day ahead real ≡ length (gas_run DayAhead day ahead real)
  pub real_time : run_count 1 day ahead real ≡ length (gas_run RealTime day ahead real)
  pub no_market : (n : ℕ) → 2 ≤ n → run_count n day ahead real ≡ 0

pub by_number : (day : ℕ) (ahead real : List ℕ) → ByNumber day ahead real
unfolding run_in days_rise length_of_run
by_number day ahead real = record { day_ahead = refl; real_time = refl; no_market = go }
  where
    go : (n : ℕ) → 2 ≤ n → run_count n day ahead real ≡ 0
    go zero h = absurd (omega arith)
    go (suc zero) h = absurd (omega arith)
    go (suc (suc n)) h = refl

-- the same of the default curve: that of the market, and 21 where there is none
pub record DefaultByNumber (day : ℕ) (ahead real : List ℕ) (c : Costs) : Type 0 where
  pub day_ahead : (list_refusal day (list_by 0 ahead real) c ≡ booked_refusal DayAhead day ahead real c) × (list_curve day (list_by 0 ahead real) c ≡ booked_curve DayAhead day ahead real c)
  pub real_time : (list_refusal day (list_by 1 ahead real) c ≡ booked_refusal RealTime day ahead real c) × (list_curve day (list_by 1 ahead real) c ≡ booked_curve RealTime day ahead real c)
  pub no_market : (n : ℕ) → 2 ≤ n → list_refusal day (list_by n ahead real) c ≡ 21

pub default_by_number : (day : ℕ) (ahead real : List ℕ) (c : Costs) → DefaultByNumber day ahead real c
unfolding run_in days_rise length_of_run last_price
default_by_number day ahead real c = record { day_ahead = (refl, refl); real_time = (refl, refl); no_market = go }
  where
    go : (n : ℕ) → 2 ≤ n → list_refusal day (list_by n ahead real) c ≡ 21
    go zero h = absurd (omega arith)
    go (suc zero) h = absurd (omega arith)
    go (suc (suc n)) h = refl

-- "an empty part handed back means 21": 0 is the length of an empty run and of no other
pub empty_is_0 : (market day : ℕ) (ahead real : List ℕ) → (run_count market day ahead real ≡ 0) ↔ (run_in day (list_by market ahead real) ≡ [])
empty_is_0 market day ahead real = (go (run_in day (list_by market ahead real)), ap length)
  where
    go : (l : List ℕ) → length l ≡ 0 → l ≡ []
    go [] h = refl
    go (x ∷ l) h = absurd (omega arith)

-- ---- a curve at a book's price has eleven steps
unless_steps : (c : Costs) (n : ℕ) → cost_refusal c ≡ n → n ≡ 0 → length (unless_refused n (cost_curve c)).steps ≡ most_steps
unless_steps c zero e z = all_steps c e
unless_steps c (suc n) e z = absurd (omega arith)

pub priced_steps : (g : Option ℕ) (c : Costs) → priced_refusal g c ≡ 0 → length (priced_curve g c).steps ≡ most_steps
priced_steps None c z = absurd (omega arith)
priced_steps (Some p) c z = unless_steps (with_gas c p) (cost_refusal (with_gas c p)) refl z
