-- "the same definition with no rounding but that of k" (paper 02, 2.14): the default curve from costs in the words of rules_cost's Meaning, each line without its "up".
-- Points, n and w, PMax, k and the parts of a segment are those of rules_cost's Conditions.
use Rattle.std.specs.Prelude.{ℕ, suc, ◌≤◌, ℤ, pos, ◌-ℤ◌, ◌*ℤ◌, ◌≤ℤ◌, ◌<ℤ◌}
use Rattle.rules_number.specs.Order.{max_z, nat_of}
use Rattle.rules_cost.specs.Conditions.{h, w, n, PMax}
use Rattle.rules_cost.specs.declared.Costs.{Costs}
use Rattle.rules_rounding.specs.Ratios.{Ratio, over, whole, ◌+Q◌, times_q, Is, IsSmaller, IsLargest}

-- "R = n / w, up": n / w of segment i
abbrev pub exact_slope : Costs → ℕ → Ratio
exact_slope c i = over (n c i) (nat_of (w c i))

-- "If 5 × m' <= 4 × PMax, R is at most the larger of h and h'": R of a part of segment i that ends at `to`
pub record ExactRate (c : Costs) (i : ℕ) (to : ℤ) (R : Ratio) : Type 0 where
  pub limited : (pos 5 *ℤ to) ≤ℤ (pos 4 *ℤ PMax c) → IsSmaller (exact_slope c i) (whole (max_z (h c i) (h c (suc i)))) R
  pub unlimited : (pos 4 *ℤ PMax c) <ℤ (pos 5 *ℤ to) → Is (exact_slope c i) R

-- "fuel = M × gas / 1000, up"
abbrev pub exact_fuel : Costs → Ratio → Ratio
exact_fuel c M = times_q M c.gas 1000

-- "greenhouse = R × rate × allowance / 1,000,000,000, up"
abbrev pub exact_greenhouse : Costs → Ratio → Ratio
exact_greenhouse c R = times_q R (c.rate *ℤ c.allowance) 1000000000

-- "fee part = 100 × fee / w, up", of a part's own width
abbrev pub exact_fee : Costs → ℕ → Ratio
exact_fee c width = over (pos 100 *ℤ c.fee) width

-- "cost = fuel + greenhouse + om + msc + soc + fee part"
abbrev pub exact_cost : Costs → Ratio → Ratio → ℕ → Ratio
exact_cost c M R width = exact_fuel c M +Q exact_greenhouse c R +Q whole c.om +Q whole c.msc +Q whole c.soc +Q exact_fee c width

-- "step price = 11 × cost / 10, up"
abbrev pub exact_adder : Costs → Ratio → Ratio → ℕ → Ratio
exact_adder c M R width = times_q (exact_cost c M R width) (pos 11) 10

-- the step price of step t, which reaches from edge t to edge t + 1 in its segment
pub record ExactPrice (c : Costs) (edge : ℕ → ℤ) (segment : ℕ → ℕ) (t : ℕ) (price : Ratio) : Type 0 where
  pub R : ℕ → Ratio
  pub rates : (j : ℕ) → j ≤ t → ExactRate c (segment j) (edge (suc j)) (R j)
  -- "M is the largest R so far, from the left"
  pub M : Ratio
  pub largest : IsLargest R t M
  pub price_is : Is (exact_adder c M (R t) (nat_of (edge (suc t) -ℤ edge t))) price

-- "Last, each step price is raised to the largest before it"
pub record ExactRaised (c : Costs) (edge : ℕ → ℤ) (segment : ℕ → ℕ) (t : ℕ) (price : Ratio) : Type 0 where
  pub prices : ℕ → Ratio
  pub priced : (j : ℕ) → j ≤ t → ExactPrice c edge segment j (prices j)
  pub largest : IsLargest prices t price
