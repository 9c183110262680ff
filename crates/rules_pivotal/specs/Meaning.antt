-- The search in the request's words. No definition of the engine is cited here but paper 01's supply, demand, what a portfolio can withhold, and a bit of a number.
use Rattle.std.specs.Prelude.{◌≡◌, ℕ, ◌+◌, ◌*◌, ◌≤◌, ◌<◌, pos, ◌<ℤ◌}
use Rattle.std.specs.Int.Count.{ones}
use Rattle.rules_number.specs.Over.{sum_to}
use Rattle.rules_interval.specs.Intervals.{shadow_at}
use Rattle.rules_interval.specs.declared.Interval.{Interval}
use Rattle.rules_path.specs.Judgements.{path_in}
use Rattle.rules_path.specs.Paths.{Path, at, demand, supply, withholdable}
use Rattle.rules_path.specs.Verdicts.{bit}
use Rattle.rules_path.specs.declared.Market.{Market}

-- a set of net sellers: bit p stands for portfolio p
abbrev pub OfNetSellers : Market → ℕ → Type 0
OfNetSellers m s = (p : ℕ) → bit p s ≡ 1 → (p < 16) × (at m.seller p ≡ 1)

-- its "full withholding" on a constraint: the sum of all that each member can withhold
abbrev pub full_of : Path → ℕ → ℕ
full_of d s = sum_to (λ p. bit p s * withholdable d p) 16

-- it leaves the constraint short: supply less withheld is below demand
abbrev pub Short : Path → ℕ → Type 0
Short d s = supply d < demand d + full_of d s

-- constraint c of an interval binds
abbrev pub BindsIn : Interval → ℕ → Type 0
BindsIn v c = (c < v.constraints) × (pos 0 <ℤ shadow_at v c)

-- "leaves every binding constraint of an interval short"
abbrev pub Works : Market → Interval → ℕ → Type 0
Works m v s = (c : ℕ) → BindsIn v c → Short (path_in m v c) s

-- k is the count that a constraint alone needs: some set of so many net sellers leaves it short, and none of fewer does
pub record Needs (m : Market) (d : Path) (k : ℕ) : Type 0 where
  pub set : ℕ
  pub of_sellers : OfNetSellers m set
  pub members : ones set ≡ k
  pub short : Short d set
  pub no_fewer : (s : ℕ) → OfNetSellers m s → Short d s → k ≤ ones s

-- "a floor: the largest count that one constraint alone needs"
pub record IsFloor (m : Market) (v : Interval) (floor : ℕ) : Type 0 where
  pub at_least : (c : ℕ) → BindsIn v c → (k : ℕ) → Needs m (path_in m v c) k → k ≤ floor
  pub one : ℕ
  pub one_binds : BindsIn v one
  pub attained : Needs m (path_in m v one) floor
