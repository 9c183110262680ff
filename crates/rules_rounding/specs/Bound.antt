-- The bound on rounding (paper 02, 2.14).
use Rattle.std.specs.Prelude.{ℤ, pos, ◌*ℤ◌}
use Rattle.rules_cost.specs.declared.Costs.{Costs}
use Rattle.rules_rounding.specs.Ratios.{Ratio, over, whole, ◌+Q◌, times_q, ◌≤Q◌, ◌<Q◌}

-- "11/10 × (gas / 1000 + rate × allowance / 1,000,000,000 + 3) + 1"
abbrev pub bound : Costs → Ratio
bound c = times_q (over c.gas 1000 +Q over (c.rate *ℤ c.allowance) 1000000000 +Q whole (pos 3)) (pos 11) 10 +Q whole (pos 1)

-- "a default price worked out from costs is never lower, and is higher by less than" the bound
pub record Rounded (c : Costs) (price : ℤ) (exact : Ratio) : Type 0 where
  pub never_lower : exact ≤Q whole price
  pub less : whole price <Q (exact +Q bound c)
