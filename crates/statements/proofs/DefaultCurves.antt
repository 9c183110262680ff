-- Paper 01, Default curve from costs (39.7.1.1.1.1), with paper 02's split at the 80% mark, in full: the one curve that the papers' words give. Assumes nothing.
use mathlib.Core.Bool.{true}
use mathlib.Core.Logic.{◌↔◌}
use mathlib.Core.Path.{◌≡◌, refl, ap, ap₂}
use Prim.Native.Nat.{ℕ, zero, suc, ◌≤◌, ◌<◌}
use lib.IntN.{ℤ, pos, neg_ℤ, ◌+ℤ◌, ◌-ℤ◌, ◌*ℤ◌}
use lib.ListN.{get_or}
use lib.Signed.{◌≤ℤ◌, ◌<ℤ◌}
use Rattle.rules_number.specs.Least.{IsHighest}
use Rattle.rules_curve.specs.Curves.{default_refusal}
use Rattle.rules_curve.specs.declared.Step.{Step}
use Rattle.rules_curve.specs.declared.Curve.{Curve}
use Rattle.rules_curve.proofs.RawLaws.{raw_of}
use Rattle.rules_cost.specs.Costs.{count_of_steps, split_at, segment_at, end_at, edge_at, width_at, rate_at, raised_price, cost_curve, cost_refusal, mw_good, prices_in_range, rates_good}
use Rattle.rules_cost.specs.Meaning as rules
use Rattle.rules_cost.specs.Meaning.{Steps, Priced, Raised, IsDefaultCurve, Alike}
use Rattle.rules_cost.specs.declared.Costs.{Costs}
use Rattle.rules_number.specs.Order.{min_z, max_z}
use Rattle.rules_cost.proofs.Exactly.{quantities_exactly, step_rate_is, step_rate_only}
use Rattle.rules_cost.proofs.SplitLaws.{split_strictly, split_once}
use Rattle.rules_cost.proofs.EdgeLaws.{eleven_suffice}
use Rattle.rules_cost.proofs.Split.{split_rates, whole_rate}
use Rattle.rules_cost.proofs.Former.{former_curve, former_refusal, unsplit_as_before, rates_as_before}
use Rattle.rules_cost.proofs.DefaultCurve.{prices_in_range_lem, cost_curve_passes}
use Rattle.rules_cost.proofs.Formula.{accepted_curve}
use Rattle.statements.proofs.Told.{and_so}
use Rattle.statements.proofs.Refusals.{Within, m, h, w, n, k, PMax, Across, PartOf, RateBy, Quantities, quantities_are}
use Rattle.statements.proofs.Refusals as said

-- q is x / d, up
abbrev Up : ℤ → ℤ → ℤ → Type 0
Up x d q = (x ≤ℤ (d *ℤ q)) × ((d *ℤ (q -ℤ pos 1)) <ℤ x)

-- z is the largest of f 0, .., f i
abbrev Largest : (ℕ → ℤ) → ℕ → ℤ → Type 0
Largest f i z = ((j : ℕ) → j ≤ i → f j ≤ℤ z) × ((j : ℕ) × (j ≤ i) × (z ≡ f j))

-- n steps, of which step t reaches from edge t to edge t + 1 and is a segment or a part of one; they begin at the first m, follow each other and end at PMax
abbrev pub StepsOf : Costs → ℕ → (ℕ → ℤ) → (ℕ → ℕ) → Type 0
StepsOf c n edge segment =
    (edge 0 ≡ m c 0) × ((t : ℕ) → t < n → suc (segment t) < c.count) × ((t : ℕ) → t < n → PartOf c (segment t) (edge t) (edge (suc t))) × (edge n ≡ PMax c)

-- x is the step price of step t
pub record StepPrice (c : Costs) (edge : ℕ → ℤ) (segment : ℕ → ℕ) (t : ℕ) (x : ℤ) : Type 0 where
  pub R : ℕ → ℤ
  pub rates : (j : ℕ) → j ≤ t → (q : ℤ) × RateBy c (segment j) (edge (suc j)) q (R j)
  -- "M is the largest R so far, from the left."
  pub M : ℤ
  pub largest : Largest R t M
  -- "fuel = M × gas / 1000, up; greenhouse = R × rate × allowance / 1,000,000,000, up; fee part = 100 × fee / w, up", "spread over each part's own width".
  pub fuel : ℤ
  pub fuel_up : Up (M *ℤ c.gas) (pos 1000) fuel
  pub greenhouse : ℤ
  pub greenhouse_up : Up (R t *ℤ c.rate *ℤ c.allowance) (pos 1000000000) greenhouse
  pub part : ℤ
  pub part_up : Up (pos 100 *ℤ c.fee) (edge (suc t) -ℤ edge t) part
  -- "cost = fuel + greenhouse + om + msc + soc + fee part; step price = 11 × cost / 10, up."
  pub price_up : Up (pos 11 *ℤ (fuel +ℤ greenhouse +ℤ c.om +ℤ c.msc +ℤ c.soc +ℤ part)) (pos 10) x

-- "Last, each step price is raised to the largest before it"
abbrev pub RaisedPrice : Costs → (ℕ → ℤ) → (ℕ → ℕ) → ℕ → ℤ → Type 0
RaisedPrice c edge segment t x = (prices : ℕ → ℤ) × ((j : ℕ) → j ≤ t → StepPrice c edge segment j (prices j)) × Largest prices t x

abbrev pub step : Curve → ℕ → Step
step k i = get_or k.steps i (record { end = 0; price = pos 0 })

-- edge 0 of a curve is its start, edge t + 1 the end of step t
abbrev pub edge_of : Curve → ℕ → ℤ
edge_of k zero = pos k.start
edge_of k (suc t) = pos (step k t).end

-- "The curve starts at the first m and each later m ends one step", and k does where it lies strictly inside a segment
abbrev pub IsDefault : Costs → Curve → Type 0
IsDefault c k = (segment : ℕ → ℕ) × StepsOf c k.count (edge_of k) segment × ((t : ℕ) → t < k.count → RaisedPrice c (edge_of k) segment t (step k t).price)

abbrev pub SameCurve : Curve → Curve → Type 0
SameCurve j k = (j.start ≡ k.start) × (j.count ≡ k.count) × ((i : ℕ) → i < j.count → ((step j i).end ≡ (step k i).end) × ((step j i).price ≡ (step k i).price))

-- ---- from the theorems
up_is : {x d q : ℤ} → rules.Up x d q ↔ Up x d q
up_is = ((λ u. (u.enough, u.no_more)), λ u. record { enough = u.0; no_more = u.1 })

largest_is : {f : ℕ → ℤ} {i : ℕ} {z : ℤ} → IsHighest f i z ↔ Largest f i z
largest_is = ((λ h. (h.at_least_each, (h.at, h.among, h.attained))), λ h. record { at_least_each = h.0; at = h.1.0; among = h.1.1; attained = h.1.2 })

module _ (c : Costs) where
  priced_is : (edge : ℕ → ℤ) (segment : ℕ → ℕ) (t : ℕ) (x : ℤ) → Priced c edge segment t x ↔ StepPrice c edge segment t x
  priced_is edge segment t x = (
    (λ p. record {
      R = p.R;
      rates = λ j l. (said.rate_is c (segment j) (edge (suc j)) (p.R j)).0 (p.rates j l);
      M = p.M;
      largest = largest_is.0 p.largest;
      fuel = p.fuel;
      fuel_up = up_is.0 p.fuel_up;
      greenhouse = p.greenhouse;
      greenhouse_up = up_is.0 p.greenhouse_up;
      part = p.fee_part_lem;
      part_up = up_is.0 p.fee_up;
      price_up = rw (← p.cost_is) (up_is.0 p.price_up);
    }),
    λ p. record {
      R = p.R;
      rates = λ j l. (said.rate_is c (segment j) (edge (suc j)) (p.R j)).1 (p.rates j l);
      M = p.M;
      largest = largest_is.1 p.largest;
      fuel = p.fuel;
      fuel_up = up_is.1 p.fuel_up;
      greenhouse = p.greenhouse;
      greenhouse_up = up_is.1 p.greenhouse_up;
      fee_part_lem = p.part;
      fee_up = up_is.1 p.part_up;
      cost = p.fuel +ℤ p.greenhouse +ℤ c.om +ℤ c.msc +ℤ c.soc +ℤ p.part;
      cost_is = refl;
      price_up = up_is.1 p.price_up;
    },
  )

  raised_is : (edge : ℕ → ℤ) (segment : ℕ → ℕ) (t : ℕ) (x : ℤ) → Raised c edge segment t x ↔ RaisedPrice c edge segment t x
  raised_is edge segment t x = (
    (λ r. (r.prices, (λ j l. (priced_is edge segment j (r.prices j)).0 (r.priced j l)), largest_is.0 r.largest)),
    λ r. record { prices = r.0; priced = λ j l. (priced_is edge segment j (r.0 j)).1 (r.1 j l); largest = largest_is.1 r.2 },
  )

  steps_are : (n : ℕ) (edge : ℕ → ℤ) (segment : ℕ → ℕ) → Steps c n edge segment ↔ StepsOf c n edge segment
  steps_are n edge segment = (
    (λ s. (s.starts, s.among, (λ t l. (said.part_is c (segment t) (edge t) (edge (suc t))).0 (s.parts t l)), s.ends)),
    λ s. record { starts = s.0; among = s.1; parts = λ t l. (said.part_is c (segment t) (edge t) (edge (suc t))).1 (s.2 t l); ends = s.3 },
  )

  default_is : (k : Curve) → IsDefaultCurve c k ↔ IsDefault c k
  default_is k = (
    (λ d. (d.segment, (steps_are k.count (edge_of k) d.segment).0 d.steps, λ t l. (raised_is (edge_of k) d.segment t (step k t).price).0 (d.prices t l))),
    λ d. record { segment = d.0; steps = (steps_are k.count (edge_of k) d.0).1 d.1; prices = λ t l. (raised_is (edge_of k) d.0 t (step k t).price).1 (d.2 t l) },
  )

  -- of one numbering of segments
  pub default_by_lem : (k : Curve) (d : IsDefault c k) → (r : IsDefaultCurve c k) × (r.segment ≡ d.0)
  unfolding default_is
  default_by_lem k d = ((default_is k).1 d, refl)

  same_is : (j k : Curve) → Alike j k ↔ SameCurve j k
  same_is j k = (
    (λ a. (a.start, a.count, λ i l. (ap (λ (s : Step). s.end) (a.each i l), ap (λ (s : Step). s.price) (a.each i l)))),
    λ a. record { start = a.0; count = a.1; each = λ i l. ap₂ (λ (e : ℕ) (p : ℤ). record { end = e; price = p }) (a.2 i l).0 (a.2 i l).1 },
  )

  -- there is one R of a step, and no other, where 5 doesn't apply
  pub one_rate : Quantities c → (t : ℕ) → t < count_of_steps c → (R : ℤ) → (R ≡ rate_at c t) ↔ ((q : ℤ) × RateBy c (segment_at c t) (end_at c t) q R)
  one_rate g t l R =
      let good = (quantities_are c).1 g in (
        (λ e. (said.rate_is c (segment_at c t) (end_at c t) R).0 (rw e (step_rate_is c good t l))),
        λ r. step_rate_only c good t l R ((said.rate_is c (segment_at c t) (end_at c t) R).1 r),
      )

  -- "splits a segment at k .. where k lies strictly inside it": that segment, and at most one
  pub split_exactly : Quantities c → (i : ℕ) → suc i < c.count → (split_at c ≡ i) ↔ Across c i
  split_exactly g i l = split_strictly c ((quantities_exactly c).1 ((quantities_are c).1 g)) i l

  pub split_alone : Quantities c → (i j : ℕ) → suc i < c.count → suc j < c.count → Across c i → Across c j → i ≡ j
  split_alone g = split_once c ((quantities_exactly c).1 ((quantities_are c).1 g))

  -- "Both parts take n and w of the whole segment for R; the lower part is limited, the upper isn't. The fee is spread over each part's own width."
  pub two_parts : Quantities c → (i : ℕ) → suc i < c.count → Across c i → (q : ℤ) → n c i ≤ℤ (q *ℤ w c i) → ((q -ℤ pos 1) *ℤ w c i) <ℤ n c i
      → (suc i < count_of_steps c)
      × ((edge_at c i ≡ m c i) × (edge_at c (suc i) ≡ k c) × (end_at c (suc i) ≡ m c (suc i)))
      × ((rate_at c i ≡ min_z q (max_z (h c i) (h c (suc i)))) × (rate_at c (suc i) ≡ q))
      × ((pos (width_at c i) ≡ k c -ℤ m c i) × (pos (width_at c (suc i)) ≡ m c (suc i) -ℤ k c))
  two_parts g i l x q up down =
      let good = (quantities_are c).1 g in
      let two = split_rates c ((quantities_exactly c).1 good) i l x in
      let e = whole_rate c good i l q up down in
      (two.both_among, (two.lower_from, two.upper_from, two.upper_to), (rw e two.lower_rate, rw e two.upper_rate), (two.lower_width, two.upper_width))

  -- "A default curve may so have 11 steps"
  pub eleven : c.count ≤ 11 → count_of_steps c ≤ 11
  eleven = eleven_suffice c

  -- a table in which no segment is split has its former curve, and 8 refuses the tables that it refused
  pub unsplit : ((i : ℕ) → suc i < c.count → Across c i → ⊥) → cost_curve c ≡ former_curve c
  unsplit = unsplit_as_before c

  pub same_refusals : cost_refusal c ≡ former_refusal c
  same_refusals = rates_as_before c

  -- there is one default curve of costs that are taken, and no other
  pub default_curve : cost_refusal c ≡ 0 → (k : Curve) → SameCurve k (cost_curve c) ↔ IsDefault c k
  default_curve e k =
      let a = accepted_curve c e k in
      and_so ((λ s. a.1 ((same_is k (cost_curve c)).1 s)), λ d. (same_is k (cost_curve c)).0 (a.0 d)) (default_is k)

  -- it passes 1 to 3 as a pack's does
  pub default_passes : cost_refusal c ≡ 0 → default_refusal (raw_of (cost_curve c)) ≡ 0
  default_passes = cost_curve_passes c

  -- "Bounds for 2 to 11 points are shown for any number of points."
  pub default_bounds : mw_good c ≡ true → prices_in_range c ≡ true → rates_good c ≡ true → (t : ℕ) → t < count_of_steps c → Within (neg_ℤ (pos 1000000000)) (pos 1000000000) (raised_price c t)
  default_bounds = prices_in_range_lem c
