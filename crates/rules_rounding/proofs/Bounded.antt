-- How far rounding raises a default price (paper 02, 2.14): "Against the same definition with no rounding but that of k, a default price worked out from costs is never lower, and is
-- higher by less than 11/10 × (gas / 1000 + rate × allowance / 1,000,000,000 + 3) + 1, split segments included." Of every step, from the words of both definitions. Assumes nothing.
use mathlib.Core.Bool.{Bool, true, false}
use mathlib.Core.Path.{◌≡◌, refl, ap, ap₂, ◌∙◌}
use Prim.Native.Nat.{ℕ, suc, ◌+◌, ◌*◌, ◌≤◌, ◌<◌}
use native.Mathlib.Nat.{mul-le-mul_right}
use native.Mathlib.Omega.{arith}
use lib.Dec.{lit<}
use lib.IntN.{ℤ, pos, negsuc, ◌+ℤ◌, ◌-ℤ◌, ◌*ℤ◌, *ℤ_comm}
use lib.Signed.{le_z, ◌<ℤ◌}
use Rattle.rules_number.specs.Order.{max_z, nat_of}
use Rattle.rules_number.proofs.Kit.{var, lit, add, mul, eq_by, le_by, lt_by, le_false}
use Rattle.rules_number.proofs.RangeLaws.{rises}
use Rattle.rules_number.proofs.ExactLaws.{le_z_exactly, lt_z_exactly}
use Rattle.rules_curve.specs.Demands.{Between}
use Rattle.rules_curve.specs.declared.Curve.{Curve}
use Rattle.rules_cost.specs.Conditions.{m, h, w, n, PMax, Quantified, Charged, IsRate}
use Rattle.rules_cost.specs.Meaning.{Up, Priced, step, edge_of, IsDefaultCurve}
use Rattle.rules_cost.specs.Costs.{cost_refusal}
use Rattle.rules_cost.specs.declared.Costs.{Costs}
use Rattle.rules_cost.proofs.Exactly.{quantities_exactly, cost_accepted}
use Rattle.rules_cost.proofs.RangeLaws.{above_zero}
use Rattle.rules_cost.proofs.EdgeLaws.{edges_rise, steps_only}
use Rattle.rules_rounding.specs.Ratios.{Ratio}
use Rattle.rules_rounding.specs.Unrounded.{exact_slope, exact_fuel, exact_greenhouse, exact_adder, ExactRate, ExactPrice, ExactRaised}
use Rattle.rules_rounding.specs.Bound.{bound, Rounded}
use Rattle.rules_rounding.proofs.RatioLaws.{times_less}
use Rattle.rules_rounding.proofs.NearLaws.{one, Near, near_is, near_up, near_smaller, near_largest, near_add, near_plus, near_scaled}

-- a number that isn't negative
natural : (z hi : ℤ) → Between (pos 0) hi z → z ≡ pos (nat_of z)
natural (pos n) hi h = refl
natural (negsuc n) hi h = absurd h.0.le

-- w is above 0
pub wide : (c : Costs) → Quantified c → (i : ℕ) → suc i < c.count → 0 < nat_of (w c i)
wide c good i l = rises (m c i) (m c (suc i)) ((lt_z_exactly (m c i) (m c (suc i))).1 (good.rising i l))

-- ---- R: by less than 1
module _ (c : Costs) (good : Quantified c) (i : ℕ) (l : suc i < c.count) (to : ℤ) where
  slope_near : (R : ℤ) (rounded : IsRate c i to R) → Near rounded.q (exact_slope c i) one
  slope_near R rounded =
      let own = above_zero (w c i) (wide c good i l) in
      let q = rounded.q in
      near_up (n c i) (nat_of (w c i)) q (wide c good i l)
      (record { enough = rw (own, *ℤ_comm (w c i) q) rounded.enough; no_more = rw (own, *ℤ_comm (w c i) (q -ℤ pos 1)) rounded.no_more })

  rate_near : (R : ℤ) (r : Ratio) → IsRate c i to R → ExactRate c i to r → Near R r one
  rate_near R r rounded exact = go (le_z (pos 5 *ℤ to) (pos 4 *ℤ PMax c)) refl
    where
      go : (t : Bool) → le_z (pos 5 *ℤ to) (pos 4 *ℤ PMax c) ≡ t → Near R r one
      go true e =
          let below = (le_z_exactly (pos 5 *ℤ to) (pos 4 *ℤ PMax c)).0 e in
          rw (rounded.limited below) (near_smaller rounded.q (max_z (h c i) (h c (suc i))) (exact_slope c i) r one (lit< tt) (slope_near R rounded) (exact.limited below))
      go false e =
          let past = lt_by (var (pos 4 *ℤ PMax c)) (var (pos 5 *ℤ to)) (le_false (pos 5 *ℤ to) (pos 4 *ℤ PMax c) e) in
          rw (rounded.unlimited past) (near_is rounded.q (exact_slope c i) r one (slope_near R rounded) (exact.unlimited past))

-- ---- the bound, over 10,000,000,000, where g is the gas price and a rate × allowance
abbrev most : ℕ → ℕ → ℕ
most g a = 11 * (1000000 * g + a + 3000000000) + one

bound_covers : (c : Costs) (g a : ℕ) → c.gas ≡ pos g → c.rate *ℤ c.allowance ≡ pos a → (most g a * (bound c).den ≤ nat_of (bound c).num * one) × (pos (nat_of (bound c).num) ≡ (bound c).num)
bound_covers c g a gas both = simp (gas, both) (omega arith, refl)

-- ---- the price of a step
module _ (c : Costs) (charged : Charged c) where
  -- gas, and rate × allowance
  abbrev g : ℕ
  g = nat_of c.gas

  abbrev a : ℕ
  a = nat_of c.rate * nat_of c.allowance

  gas_is : c.gas ≡ pos g
  gas_is = natural c.gas (pos 1000000) charged.gas

  both_are : c.rate *ℤ c.allowance ≡ pos a
  both_are = ap₂ (λ (x y : ℤ). x *ℤ y) (natural c.rate (pos 200000) charged.rate) (natural c.allowance (pos 10000000) charged.allowance)

  fuel_near : (M : ℤ) (m : Ratio) (x : ℤ) → Near M m one → Up (M *ℤ c.gas) (pos 1000) x → Near x (exact_fuel c m) (10000000 * g + one)
  fuel_near M m x near up = rw gas_is (near_scaled M m one near g 1000 (10000000 * g + one) x (lit< tt) (omega arith) (rw gas_is at up))

  greenhouse_near : (R : ℤ) (r : Ratio) (x : ℤ) → Near R r one → Up (R *ℤ c.rate *ℤ c.allowance) (pos 1000000000) x → Near x (exact_greenhouse c r) (10 * a + one)
  greenhouse_near R r x near up = rw both_are (near_scaled R r one near a 1000000000 (10 * a + one) x (lit< tt) (omega arith) (rw same at up))
    where
      same : R *ℤ c.rate *ℤ c.allowance ≡ R *ℤ pos a
      same = eq_by (mul (mul (var R) (var c.rate)) (var c.allowance)) (mul (var R) (mul (var c.rate) (var c.allowance))) (omega arith) ∙ ap (λ (z : ℤ). R *ℤ z) both_are

  -- the step price, where R and M are near
  adder_near : (edge : ℕ → ℤ) (segment : ℕ → ℕ) (t : ℕ) → edge t <ℤ edge (suc t) → (x : ℤ) (p : Priced c edge segment t x) (m r : Ratio) → Near p.M m one → Near (p.R t) r one
      → Near x (exact_adder c m r (nat_of (edge (suc t) -ℤ edge t))) (most g a)
  adder_near edge segment t rise x p m r near-m near-r =
      let W = nat_of (edge (suc t) -ℤ edge t) in
      let above : 0 < W = rises (edge t) (edge (suc t)) ((lt_z_exactly (edge t) (edge (suc t))).1 rise) in
      let fuel = fuel_near p.M m p.fuel near-m p.fuel_up in
      let greenhouse = greenhouse_near (p.R t) r p.greenhouse near-r p.greenhouse_up in
      let fee = near_up (pos 100 *ℤ c.fee) W p.fee_part_lem above (rw (above_zero (edge (suc t) -ℤ edge t) above) p.fee_up) in
      let both = near_add p.fuel _ _ fuel p.greenhouse _ _ greenhouse in
      let wholes = near_plus _ _ _ (near_plus _ _ _ (near_plus _ _ _ both c.om) c.msc) c.soc in
      let cost = near_add _ _ _ wholes p.fee_part_lem _ _ fee in
      let up = rw (p.cost_is, *ℤ_comm (pos 11) (p.fuel +ℤ p.greenhouse +ℤ c.om +ℤ c.msc +ℤ c.soc +ℤ p.fee_part_lem)) at p.price_up in
      near_scaled _ _ _ cost 11 10 (most g a) x (lit< tt) (omega arith) up

  -- in the words of the request
  bounded : (x : ℤ) (y : Ratio) → Near x y (most g a) → Rounded c x y
  bounded x y near =
      let covers = bound_covers c g a gas_is both_are in
      let b = (bound c).den in
      let B = nat_of (bound c).num in
      record {
        never_lower = le_by (mul (var y.num) (lit 1)) (mul (var x) (lit y.den)) (omega (arith, near.above));
        less =
            rw (← covers.1)
            (lt_by (mul (var x) (lit (y.den * b))) (mul (add (mul (var y.num) (lit b)) (mul (lit B) (lit y.den))) (lit 1))
            (omega (arith, times_less {k = b} (lit< tt) near.below, mul-le-mul_right y.den covers.0)));
      }

-- ---- of accepted costs
module _ (c : Costs) (accepted : cost_refusal c ≡ 0) where
  good : Quantified c
  good = ((cost_accepted c).0 accepted).1

  charged : Charged c
  charged = ((cost_accepted c).0 accepted).3

  -- each step of the default curve, which is one curve by both definitions' edges
  module _ (k : Curve) (d : IsDefaultCurve c k) where
    rising : (t : ℕ) → t < k.count → edge_of k t <ℤ edge_of k (suc t)
    rising t l =
        let quantities = (quantities_exactly c).1 good in
        let alone = steps_only c quantities k.count (edge_of k) d.segment d.steps in
        rw (alone.edges t (omega arith), alone.edges (suc t) l) (edges_rise c quantities t (omega (arith, alone.count)))

    step_near : (t : ℕ) → t < k.count → (x : ℤ) (y : Ratio) → Priced c (edge_of k) d.segment t x → ExactPrice c (edge_of k) d.segment t y → Near x y (most (g c charged) (a c charged))
    step_near t l x y p q =
        near_is x (exact_adder c q.M (q.R t) (nat_of (edge_of k (suc t) -ℤ edge_of k t))) y (most (g c charged) (a c charged))
        (adder_near c charged (edge_of k) d.segment t (rising t l) x p q.M (q.R t) (near_largest p.R q.R t one p.M q.M rates p.largest q.largest) (rates t (omega arith)))
        q.price_is
      where
        rates : (i : ℕ) → i ≤ t → Near (p.R i) (q.R i) one
        rates i h = rate_near c good (d.segment i) (d.steps.among i (omega arith)) (edge_of k (suc i)) (p.R i) (q.R i) (p.rates i h) (q.rates i h)

    pub rounding_bounded : (t : ℕ) → t < k.count → (exact : Ratio) → ExactRaised c (edge_of k) d.segment t exact → Rounded c (step k t).price exact
    rounding_bounded t l exact q =
        let p = d.prices t l in
        bounded c charged (step k t).price exact
        (near_largest p.prices q.prices t (most (g c charged) (a c charged)) (step k t).price exact
        (λ j h. step_near j (omega arith) (p.prices j) (q.prices j) (p.priced j h) (q.priced j h)) p.largest q.largest)
