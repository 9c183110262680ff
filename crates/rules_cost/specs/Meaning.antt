-- What the default curve from costs is, in paper 01's words (Default curve from costs) and paper 02's (Segments across the 80% mark). No definition of the
-- engine is cited here but those of Conditions: the points, w, n and R, k and the parts.
use Rattle.std.specs.Prelude.{◌≡◌, ℕ, zero, suc, ◌≤◌, ◌<◌, ℤ, pos, ◌+ℤ◌, ◌-ℤ◌, ◌*ℤ◌, get_or, ◌≤ℤ◌, ◌<ℤ◌}
use Rattle.rules_number.specs.Least.{IsHighest}
use Rattle.rules_curve.specs.declared.Step.{Step}
use Rattle.rules_curve.specs.declared.Curve.{Curve}
use Rattle.rules_cost.specs.Conditions.{m, PMax, Part, IsRate}
use Rattle.rules_cost.specs.declared.Costs.{Costs}

-- "Up" means rounded toward plus infinity: q is x / d, up, where d × q >= x > d × (q - 1)
pub record Up (x d q : ℤ) : Type 0 where
  pub enough : x ≤ℤ (d *ℤ q)
  pub no_more : (d *ℤ (q -ℤ pos 1)) <ℤ x

-- n steps from the left, of which step t reaches from edge t to edge t + 1 and is a segment or a part of one: the first starts at the first m, each later one
-- where the step before it ends, and the last ends at PMax
pub record Steps (c : Costs) (n : ℕ) (edge : ℕ → ℤ) (segment : ℕ → ℕ) : Type 0 where
  pub starts : edge 0 ≡ m c 0
  pub among : (t : ℕ) → t < n → suc (segment t) < c.count
  pub parts : (t : ℕ) → t < n → Part c (segment t) (edge t) (edge (suc t))
  pub ends : edge n ≡ PMax c

-- the step price of step t
pub record Priced (c : Costs) (edge : ℕ → ℤ) (segment : ℕ → ℕ) (t : ℕ) (price : ℤ) : Type 0 where
  -- R of the steps so far
  pub R : ℕ → ℤ
  pub rates : (j : ℕ) → j ≤ t → IsRate c (segment j) (edge (suc j)) (R j)
  -- "M is the largest R so far, from the left"
  pub M : ℤ
  pub largest : IsHighest R t M
  -- "fuel = M × gas / 1000, up"
  pub fuel : ℤ
  pub fuel_up : Up (M *ℤ c.gas) (pos 1000) fuel
  -- "greenhouse = R × rate × allowance / 1,000,000,000, up"
  pub greenhouse : ℤ
  pub greenhouse_up : Up (R t *ℤ c.rate *ℤ c.allowance) (pos 1000000000) greenhouse
  -- "fee part = 100 × fee / w, up", where "the fee is spread over each part's own width"
  pub fee_part_lem : ℤ
  pub fee_up : Up (pos 100 *ℤ c.fee) (edge (suc t) -ℤ edge t) fee_part_lem
  -- "cost = fuel + greenhouse + om + msc + soc + fee part"
  pub cost : ℤ
  pub cost_is : cost ≡ fuel +ℤ greenhouse +ℤ c.om +ℤ c.msc +ℤ c.soc +ℤ fee_part_lem
  -- "step price = 11 × cost / 10, up"
  pub price_up : Up (pos 11 *ℤ cost) (pos 10) price

-- "Last, each step price is raised to the largest before it"
pub record Raised (c : Costs) (edge : ℕ → ℤ) (segment : ℕ → ℕ) (t : ℕ) (price : ℤ) : Type 0 where
  pub prices : ℕ → ℤ
  pub priced : (j : ℕ) → j ≤ t → Priced c edge segment j (prices j)
  pub largest : IsHighest prices t price

-- step i of a curve
abbrev pub step : Curve → ℕ → Step
step k i = get_or k.steps i (record { end = 0; price = pos 0 })

-- edge 0 of a curve is its start, edge t + 1 the end of step t
abbrev pub edge_of : Curve → ℕ → ℤ
edge_of k zero = pos k.start
edge_of k (suc t) = pos (step k t).end

-- "The curve starts at the first m and each later m ends one step", and k does where it lies strictly inside a segment
pub record IsDefaultCurve (c : Costs) (k : Curve) : Type 0 where
  pub segment : ℕ → ℕ
  pub steps : Steps c k.count (edge_of k) segment
  pub prices : (t : ℕ) → t < k.count → Raised c (edge_of k) segment t (step k t).price

-- two curves with one start and the same steps
pub record Alike (j k : Curve) : Type 0 where
  pub start : j.start ≡ k.start
  pub count : j.count ≡ k.count
  pub each : (i : ℕ) → i < j.count → step j i ≡ step k i
