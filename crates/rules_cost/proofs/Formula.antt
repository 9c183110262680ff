-- The formula of the default curve from costs (paper 01, Default curve from costs): each line of it, the price of a step, and the curve, which is the
-- only one that the paper's words allow. For any number of points.
use mathlib.Core.Bool.{true}
use mathlib.Core.Logic.{◌↔◌}
use mathlib.Core.Path.{◌≡◌, refl, sym, ap, ap₂, ◌∙◌}
use Prim.Native.Nat.{ℕ, zero, suc, ◌≤◌, ◌<◌}
use native.Mathlib.Omega.{arith}
use lib.Dec.{lit<}
use lib.IntN.{ℤ, pos, ◌+ℤ◌, ◌-ℤ◌, ◌*ℤ◌, *ℤ_comm}
use lib.Signed.{◌≤ℤ◌}
use Rattle.rules_number.specs.Order.{nat_of}
use Rattle.rules_number.specs.Ceil.{ceil_div}
use Rattle.rules_number.specs.Least.{IsHighest}
use Rattle.rules_number.proofs.Kit.{var, eq_by, le_of}
use Rattle.rules_number.proofs.CeilSize.{ceil_ge, ceil_lt}
use Rattle.rules_number.proofs.CeilLaws.{ceil_unique}
use Rattle.rules_number.proofs.RangeLaws.{nat_is}
use Rattle.rules_number.proofs.OverLaws.{listed_length}
use Rattle.rules_number.proofs.CellLaws.{cell_listed}
use Rattle.rules_curve.specs.Curves.{most_steps, step_to, blank_step}
use Rattle.rules_curve.specs.declared.Step.{Step}
use Rattle.rules_curve.specs.declared.Curve.{Curve}
use Rattle.rules_cost.specs.Conditions.{Quantified}
use Rattle.rules_cost.specs.Meaning.{Up, Priced, Raised, step, edge_of, IsDefaultCurve, Alike}
use Rattle.rules_cost.specs.Costs.{segment_at, end_at, edge_at, width_at, mw_good, fuel, greenhouse, fee_part, step_cost, with_adder, rate_at, largest_rate, step_price, raised_price, count_of_steps, cost_step, cost_curve, cost_refusal}
use Rattle.rules_cost.proofs.DefaultCurve.{largest_so_far, raised_to_largest}
use Rattle.rules_cost.proofs.Exactly.{quantities_exactly, step_rate_is, step_rate_only, cost_accepted}
use Rattle.rules_cost.proofs.RangeLaws.{above_zero}
use Rattle.rules_cost.proofs.SplitLaws.{whole_mw, segment_among, step_part}
use Rattle.rules_cost.proofs.EdgeLaws.{wide_step, width_above, first_edge, last_edge, Alone, steps_only}
use Rattle.rules_cost.specs.declared.Costs.{Costs}

-- ---- up: there is one such number, and no other
pub up_is : (x : ℤ) (d : ℕ) → 0 < d → Up x (pos d) (ceil_div x d)
up_is x d h = record {
  enough = rw (*ℤ_comm (pos d) (ceil_div x d)) (ceil_ge x d h);
  no_more = rw (*ℤ_comm (pos d) (ceil_div x d -ℤ pos 1)) (ceil_lt x d h);
}

pub up_only : (x q : ℤ) (d : ℕ) → 0 < d → Up x (pos d) q → q ≡ ceil_div x d
up_only x q d h u = ceil_unique x q d h (rw (*ℤ_comm q (pos d)) u.enough) (rw (*ℤ_comm (q -ℤ pos 1) (pos d)) u.no_more)

-- ---- the parts of a step's price
module _ (c : Costs) where
  -- "fuel = M × gas / 1000, up"
  pub fuel_is : (M : ℤ) → Up (M *ℤ c.gas) (pos 1000) (fuel c M)
  unfolding fuel
  fuel_is M = up_is (M *ℤ c.gas) 1000 (lit< tt)

  -- "greenhouse = R × rate × allowance / 1,000,000,000, up"
  pub greenhouse_is : (R : ℤ) → Up (R *ℤ c.rate *ℤ c.allowance) (pos 1000000000) (greenhouse c R)
  unfolding greenhouse
  greenhouse_is R = up_is (R *ℤ c.rate *ℤ c.allowance) 1000000000 (lit< tt)

  -- "fee part = 100 × fee / w, up"
  pub fee_is : (w : ℕ) → 0 < w → Up (pos 100 *ℤ c.fee) (pos w) (fee_part c w)
  unfolding fee_part
  fee_is w h = up_is (pos 100 *ℤ c.fee) w h

  -- "cost = fuel + greenhouse + om + msc + soc + fee part"
  pub cost_is : (M R : ℤ) (w : ℕ) → step_cost c M R w ≡ fuel c M +ℤ greenhouse c R +ℤ c.om +ℤ c.msc +ℤ c.soc +ℤ fee_part c w
  unfolding step_cost
  cost_is M R w = refl

  -- "step price = 11 × cost / 10, up"
  pub adder_is : (M R : ℤ) (w : ℕ) → Up (pos 11 *ℤ step_cost c M R w) (pos 10) (with_adder c M R w)
  unfolding with_adder
  adder_is M R w = up_is (pos 11 *ℤ step_cost c M R w) 10 (lit< tt)

-- what is the highest of the same numbers is the same
highest_only : (f g : ℕ → ℤ) (n : ℕ) (a b : ℤ) → ((i : ℕ) → i ≤ n → f i ≡ g i) → IsHighest f n a → IsHighest g n b → a ≡ b
highest_only f g n a b e x y = eq_by (var a) (var b) (omega (arith, le_of up, le_of down))
  where
    up : a ≤ℤ b
    up = rw (x.attained, e x.at x.among) (y.at_least_each x.at x.among)

    down : b ≤ℤ a
    down = rw (y.attained, ← e y.at y.among) (x.at_least_each y.at y.among)

-- ---- the price of a step, where the quantities rise (5), by edges and segments that are those of the steps
module _ (c : Costs) (good : Quantified c) (t : ℕ) (l : t < count_of_steps c) (edge : ℕ → ℤ) (segment : ℕ → ℕ)
    (edges : (j : ℕ) → j ≤ suc t → edge j ≡ edge_at c j) (segments : (j : ℕ) → j ≤ t → segment j ≡ segment_at c j) where
  abbrev W : ℕ
  W = width_at c t

  above : 0 < W
  above = width_above c ((quantities_exactly c).1 good) t l

  own_width : edge (suc t) -ℤ edge t ≡ pos W
  unfolding width_at edge_at
  own_width = ap₂ (λ (a b : ℤ). a -ℤ b) (edges (suc t) (omega arith)) (edges t (omega arith)) ∙ sym (above_zero (end_at c t -ℤ edge_at c t) above)

  pub priced : Priced c edge segment t (step_price c t)
  unfolding step_price edge_at
  priced = record {
    R = rate_at c;
    rates = λ j k. rw (segments j k, edges (suc j) (omega arith)) (step_rate_is c good j (omega arith));
    M = largest_rate c t;
    largest = largest_so_far c t;
    fuel = fuel c (largest_rate c t);
    fuel_up = fuel_is c (largest_rate c t);
    greenhouse = greenhouse c (rate_at c t);
    greenhouse_up = greenhouse_is c (rate_at c t);
    fee_part_lem = fee_part c W;
    fee_up = rw own_width (fee_is c W above);
    cost = step_cost c (largest_rate c t) (rate_at c t) W;
    cost_is = cost_is c (largest_rate c t) (rate_at c t) W;
    price_up = adder_is c (largest_rate c t) (rate_at c t) W;
  }

  -- and no other number is that
  pub priced_only : (x : ℤ) → Priced c edge segment t x → x ≡ step_price c t
  unfolding step_price with_adder step_cost fuel greenhouse fee_part edge_at
  priced_only x p = up_only (pos 11 *ℤ p.cost) x 10 (lit< tt) p.price_up ∙ ap (λ (z : ℤ). ceil_div (pos 11 *ℤ z) 10) cost_same
    where
      rate_same : (j : ℕ) → j ≤ t → p.R j ≡ rate_at c j
      rate_same j k = step_rate_only c good j (omega arith) (p.R j) (rw (segments j k, edges (suc j) (omega arith)) at (p.rates j k))

      largest_same : p.M ≡ largest_rate c t
      largest_same = highest_only p.R (rate_at c) t p.M (largest_rate c t) rate_same p.largest (largest_so_far c t)

      fuel_same : p.fuel ≡ fuel c (largest_rate c t)
      fuel_same = up_only (p.M *ℤ c.gas) p.fuel 1000 (lit< tt) p.fuel_up ∙ ap (fuel c) largest_same

      greenhouse_same : p.greenhouse ≡ greenhouse c (rate_at c t)
      greenhouse_same = up_only (p.R t *ℤ c.rate *ℤ c.allowance) p.greenhouse 1000000000 (lit< tt) p.greenhouse_up ∙ ap (greenhouse c) (rate_same t (omega arith))

      fee_same : p.fee_part_lem ≡ fee_part c W
      fee_same = up_only (pos 100 *ℤ c.fee) p.fee_part_lem W above (rw own_width at p.fee_up)

      cost_same : p.cost ≡ step_cost c (largest_rate c t) (rate_at c t) W
      cost_same = p.cost_is ∙ rw (fuel_same, greenhouse_same, fee_same)

-- "Last, each step price is raised to the largest before it"
module _ (c : Costs) (good : Quantified c) (t : ℕ) (l : t < count_of_steps c) (edge : ℕ → ℤ) (segment : ℕ → ℕ)
    (edges : (j : ℕ) → j ≤ suc t → edge j ≡ edge_at c j) (segments : (j : ℕ) → j ≤ t → segment j ≡ segment_at c j) where
  pub raised : Raised c edge segment t (raised_price c t)
  raised = record {
    prices = step_price c;
    priced = λ j k. priced c good j (omega arith) edge segment (λ i h. edges i (omega arith)) (λ i h. segments i (omega arith));
    largest = raised_to_largest c t;
  }

  pub raised_only : (x : ℤ) → Raised c edge segment t x → x ≡ raised_price c t
  raised_only x p =
      highest_only p.prices (step_price c) t x (raised_price c t)
      (λ j k. priced_only c good j (omega arith) edge segment (λ i h. edges i (omega arith)) (λ i h. segments i (omega arith)) (p.prices j) (p.priced j k))
      p.largest (raised_to_largest c t)

-- ---- the curve
pos_same : {a b : ℕ} → pos a ≡ pos b → a ≡ b
pos_same e = ap nat_of e

step_same : (s t : Step) → s.end ≡ t.end → s.price ≡ t.price → s ≡ t
step_same s t e p = ap₂ step_to e p

module _ (c : Costs) (good : Quantified c) (some : 0 < c.count) where
  rising : mw_good c ≡ true
  rising = (quantities_exactly c).1 good

  count_is : (cost_curve c).count ≡ count_of_steps c
  unfolding cost_curve
  count_is = listed_length (cost_step c) (count_of_steps c)

  step_is : (t : ℕ) → t < count_of_steps c → step (cost_curve c) t ≡ cost_step c t
  unfolding cost_curve
  step_is t l = cell_listed most_steps blank_step blank_step (cost_step c) (count_of_steps c) t l

  edge_is : (t : ℕ) → t ≤ count_of_steps c → edge_of (cost_curve c) t ≡ edge_at c t
  unfolding cost_curve edge_at
  edge_is zero h = sym (whole_mw c rising 0 some).0
  edge_is (suc t) h = ap (λ (s : Step). pos s.end) (step_is t h) ∙ sym (nat_is 1000000 (end_at c t) (wide_step c rising t h).to_in).0

  -- a curve with that many steps, of those edges and prices
  made : (k : Curve) → k.count ≡ count_of_steps c → ((t : ℕ) → t ≤ count_of_steps c → edge_of k t ≡ edge_at c t) → ((t : ℕ) → t < count_of_steps c → (step k t).price ≡ raised_price c t)
      → IsDefaultCurve c k
  made k n edges prices = record {
    segment = segment_at c;
    steps = record {
      starts = edges 0 (omega arith) ∙ first_edge c;
      among = λ t l. segment_among c rising t (omega arith);
      parts = λ t l. rw (edges t (omega arith), edges (suc t) (omega arith)) (step_part c rising t (omega arith));
      ends = ap (edge_of k) n ∙ edges (count_of_steps c) (omega arith) ∙ last_edge c;
    };
    prices = λ t l.
        rw (prices t (omega arith)) (raised c good t (omega arith) (edge_of k) (segment_at c) (λ j h. edges j (omega arith)) (λ j h. refl));
  }

  -- and no other curve is that
  pub curve_exactly : (k : Curve) → IsDefaultCurve c k ↔ Alike k (cost_curve c)
  curve_exactly k = (only, also)
    where
      only : IsDefaultCurve c k → Alike k (cost_curve c)
      only d = record { start = pos_same (same 0 (omega arith)); count = a.count ∙ sym count_is; each = each }
        where
          a : Alone c rising k.count (edge_of k) d.segment
          a = steps_only c rising k.count (edge_of k) d.segment d.steps

          same : (t : ℕ) → t ≤ k.count → edge_of k t ≡ edge_of (cost_curve c) t
          same t h = a.edges t h ∙ sym (edge_is t (omega (arith, a.count)))

          each : (t : ℕ) → t < k.count → step k t ≡ step (cost_curve c) t
          each t l =
              let n : t < count_of_steps c = omega (arith, a.count) in
              step_same (step k t) (step (cost_curve c) t) (pos_same (same (suc t) l))
              (raised_only c good t n (edge_of k) d.segment (λ j h. a.edges j (omega arith)) (λ j h. a.segments j (omega arith)) (step k t).price (d.prices t l)
              ∙ sym (ap (λ (s : Step). s.price) (step_is t n)))

      also : Alike k (cost_curve c) → IsDefaultCurve c k
      also s = made k n (λ t h. edges t h ∙ edge_is t h) (λ t l. ap (λ (x : Step). x.price) (s.each t (omega (arith, n)) ∙ step_is t l))
        where
          n : k.count ≡ count_of_steps c
          n = s.count ∙ count_is

          edges : (t : ℕ) → t ≤ count_of_steps c → edge_of k t ≡ edge_of (cost_curve c) t
          edges zero h = ap pos s.start
          edges (suc t) h = ap (λ (x : Step). pos x.end) (s.each t (omega (arith, n)))

-- of accepted costs
pub accepted_curve : (c : Costs) → cost_refusal c ≡ 0 → (k : Curve) → IsDefaultCurve c k ↔ Alike k (cost_curve c)
accepted_curve c e k =
    let a = (cost_accepted c).0 e in
    curve_exactly c a.1 (omega (arith, a.0.at_least)) k
