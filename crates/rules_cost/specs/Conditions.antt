-- What costs must be like, in paper 01's words (Default curve from costs; Refused, by place: 4 to 8) and paper 02's (Segments across the 80% mark). No
-- definition of the engine is cited here but the smaller and the larger of two numbers, and the whole number of one that isn't negative.
use Rattle.std.specs.Prelude.{List, [], ◌∷◌, ◌≡◌, ℕ, suc, ◌-◌, ◌*◌, ◌/◌, ◌<◌, ◌≤◌, ℤ, pos, neg_ℤ, ◌-ℤ◌, ◌*ℤ◌, get_or, ◌≤ℤ◌, ◌<ℤ◌}
use Rattle.rules_number.specs.Order.{min_z, max_z, nat_of}
use Rattle.rules_curve.specs.Demands.{Demand, ◌asks◌, Between}
use Rattle.rules_cost.specs.declared.Point.{Point}
use Rattle.rules_cost.specs.declared.Costs.{Costs}

-- the points are numbered from 0 to count - 1: quantity m and average heat rate h of point i
abbrev pub point : Costs → ℕ → Point
point c i = get_or c.points i (record { mw = pos 0; heat = pos 0 })

abbrev pub m : Costs → ℕ → ℤ
m c i = (point c i).mw

abbrev pub h : Costs → ℕ → ℤ
h c i = (point c i).heat

-- 4: "point count outside 2 to 11"
pub record Pointed (c : Costs) : Type 0 where
  pub at_least : 2 ≤ c.count
  pub at_most : c.count ≤ 11

-- 5: "m outside 0 to 1,000,000 or not rising"
pub record Quantified (c : Costs) : Type 0 where
  pub within : (i : ℕ) → i < c.count → Between (pos 0) (pos 1000000) (m c i)
  pub rising : (i : ℕ) → suc i < c.count → m c i <ℤ m c (suc i)

-- 6: "h outside its range": 1 to 100,000
abbrev pub Heated : Costs → Type 0
Heated c = (i : ℕ) → i < c.count → Between (pos 1) (pos 100000) (h c i)

-- 7: "a price, rate or fee outside its range"
pub record Charged (c : Costs) : Type 0 where
  pub gas : Between (pos 0) (pos 1000000) c.gas
  pub rate : Between (pos 0) (pos 200000) c.rate
  pub allowance : Between (pos 0) (pos 10000000) c.allowance
  pub om : Between (pos 0) (pos 1000000) c.om
  pub msc : Between (pos 0) (pos 1000000) c.msc
  pub soc : Between (pos 0) (pos 1000000) c.soc
  pub fee : Between (pos 0) (pos 1000000) c.fee

-- PMax, the last m
abbrev pub PMax : Costs → ℤ
PMax c = m c (c.count - 1)

-- for the neighbours i and i + 1: "w = m' - m and n = h' × m' - h × m"
abbrev pub w : Costs → ℕ → ℤ
w c i = m c (suc i) -ℤ m c i

abbrev pub n : Costs → ℕ → ℤ
n c i = h c (suc i) *ℤ m c (suc i) -ℤ h c i *ℤ m c i

-- "k, which is 4 × PMax / 5 rounded down"
abbrev pub k : Costs → ℤ
k c = pos (4 * nat_of (PMax c) / 5)

-- "k lies strictly inside" the segment i, which reaches from m to m'
abbrev pub Inside : Costs → ℕ → Type 0
Inside c i = (m c i <ℤ k c) × (k c <ℤ m c (suc i))

-- what reaches from one quantity to another is the segment i, or the lower or the upper part of it where it is split
pub data Part (c : Costs) (i : ℕ) (from to : ℤ) : Type 0 where
  whole : (Inside c i → ⊥) → from ≡ m c i → to ≡ m c (suc i) → Part c i from to
  lower : Inside c i → from ≡ m c i → to ≡ k c → Part c i from to
  upper : Inside c i → from ≡ k c → to ≡ m c (suc i) → Part c i from to

-- of a part that ends at `to`: "R = n / w, up. If 5 × m' <= 4 × PMax, R is at most the larger of h and h'", with "n and w of the whole segment" and the
-- part's own end. Up is the whole number q with (q - 1) × w < n <= q × w
pub record IsRate (c : Costs) (i : ℕ) (to R : ℤ) : Type 0 where
  pub q : ℤ
  pub enough : n c i ≤ℤ (q *ℤ w c i)
  pub no_more : ((q -ℤ pos 1) *ℤ w c i) <ℤ n c i
  pub limited : (pos 5 *ℤ to) ≤ℤ (pos 4 *ℤ PMax c) → R ≡ min_z q (max_z (h c i) (h c (suc i)))
  pub unlimited : (pos 4 *ℤ PMax c) <ℤ (pos 5 *ℤ to) → R ≡ q

-- 8: "an R, after the 80% limit, outside -100,000 to 100,000"
abbrev pub Rated : Costs → Type 0
Rated c = (i : ℕ) → suc i < c.count → (from to R : ℤ) → Part c i from to → IsRate c i to R → Between (neg_ℤ (pos 100000)) (pos 100000) R

abbrev pub cost_demands : Costs → List Demand
cost_demands c = (4 asks Pointed c) ∷ (5 asks Quantified c) ∷ (6 asks Heated c) ∷ (7 asks Charged c) ∷ (8 asks Rated c) ∷ []
