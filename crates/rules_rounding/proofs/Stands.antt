-- The unrounded prices that are worked out are those of the words (paper 02, 2.14): so of accepted costs there are such amounts for each step. Assumes nothing.
use mathlib.Core.Bool.{Bool, true, false, cond}
use mathlib.Core.Logic.{⊎_elim}
use mathlib.Core.Path.{◌≡◌, refl, ap, ap₂}
use Prim.Native.Nat.{ℕ, suc, ◌<◌}
use native.Mathlib.Omega.{arith}
use lib.Dec.{lit<}
use lib.IntN.{ℤ, pos, ◌-ℤ◌, ◌*ℤ◌}
use lib.Signed.{le_z}
use Rattle.rules_number.specs.Order.{max_z, nat_of}
use Rattle.rules_number.proofs.Kit.{le_of, lt_of, le_true, le_false}
use Rattle.rules_curve.specs.declared.Curve.{Curve}
use Rattle.rules_cost.specs.Conditions.{h, PMax, Quantified}
use Rattle.rules_cost.specs.Meaning.{Steps, edge_of, IsDefaultCurve}
use Rattle.rules_cost.specs.Costs.{segment_at, end_at, edge_at, width_at, count_of_steps, mw_good, cost_refusal}
use Rattle.rules_cost.specs.declared.Costs.{Costs}
use Rattle.rules_cost.proofs.Exactly.{quantities_exactly, cost_accepted}
use Rattle.rules_cost.proofs.SplitLaws.{segment_among}
use Rattle.rules_cost.proofs.EdgeLaws.{width_above, Alone, steps_only}
use Rattle.rules_rounding.specs.Ratios.{Ratio, whole, IsSmaller, IsLargest}
use Rattle.rules_rounding.specs.Unrounded.{exact_slope, exact_adder, ExactRate, ExactPrice, ExactRaised}
use Rattle.rules_rounding.specs.Exact.{min_q, highest_q, exact_rate, exact_rate_at, exact_price, exact_raised}
use Rattle.rules_rounding.proofs.RatioLaws.{times_above, is_self, min_is_smaller, highest_is_largest}
use Rattle.rules_rounding.proofs.Bounded.{wide}

module _ (c : Costs) (good : Quantified c) where
  rate_stands : (i : ℕ) (to : ℤ) → suc i < c.count → (0 < (exact_rate c i to).den) × ExactRate c i to (exact_rate c i to)
  rate_stands i to l = go (le_z (pos 5 *ℤ to) (pos 4 *ℤ PMax c)) refl
    where
      smaller : IsSmaller (exact_slope c i) (whole (max_z (h c i) (h c (suc i)))) (min_q (exact_slope c i) (whole (max_z (h c i) (h c (suc i)))))
      smaller = min_is_smaller (exact_slope c i) (whole (max_z (h c i) (h c (suc i)))) (wide c good i l) (lit< tt)

      go : (t : Bool) → le_z (pos 5 *ℤ to) (pos 4 *ℤ PMax c) ≡ t
          → let R = cond t (min_q (exact_slope c i) (whole (max_z (h c i) (h c (suc i))))) (exact_slope c i) in (0 < R.den) × ExactRate c i to R
      go true e = (
        ⊎_elim (λ i. i.den_above_0) (λ i. i.den_above_0) smaller.attained,
        record { limited = λ l. smaller; unlimited = λ l. absurd (omega (arith, le_true (pos 5 *ℤ to) (pos 4 *ℤ PMax c) e, lt_of l)) },
      )
      go false e = (
        wide c good i l,
        record { limited = λ l. absurd (omega (arith, le_false (pos 5 *ℤ to) (pos 4 *ℤ PMax c) e, le_of l)); unlimited = λ h. is_self (exact_slope c i) (wide c good i l) },
      )

  quantities : mw_good c ≡ true
  quantities = (quantities_exactly c).1 good

  at_step : (t : ℕ) → t < count_of_steps c → (0 < (exact_rate_at c t).den) × ExactRate c (segment_at c t) (edge_at c (suc t)) (exact_rate_at c t)
  unfolding exact_rate_at edge_at
  at_step t l = rate_stands (segment_at c t) (end_at c t) (segment_among c quantities t l)

  largest : (t : ℕ) → t < count_of_steps c → IsLargest (exact_rate_at c) t (highest_q (exact_rate_at c) t)
  largest t l = highest_is_largest (exact_rate_at c) t (λ i k. (at_step i (omega arith)).0)

  adder_wide : (M R : Ratio) (width : ℕ) → 0 < M.den → 0 < R.den → 0 < width → 0 < (exact_adder c M R width).den
  adder_wide M R width a b d =
      let two = times_above (times_above a (lit< tt)) (times_above b (lit< tt)) in
      times_above (times_above (times_above (times_above (times_above two (lit< tt)) (lit< tt)) (lit< tt)) d) (lit< tt)

  price_wide : (t : ℕ) → t < count_of_steps c → 0 < (exact_price c t).den
  unfolding exact_price
  price_wide t l = adder_wide (highest_q (exact_rate_at c) t) (exact_rate_at c t) (width_at c t) (largest t l).attained.den_above_0 (at_step t l).0 (width_above c quantities t l)

  -- of steps that are those of the paper's words
  module _ (k : ℕ) (edge : ℕ → ℤ) (segment : ℕ → ℕ) (steps : Steps c k edge segment) where
    alone : Alone c quantities k edge segment
    alone = steps_only c quantities k edge segment steps

    own_width : (t : ℕ) → t < k → nat_of (edge (suc t) -ℤ edge t) ≡ width_at c t
    unfolding width_at edge_at
    own_width t l = ap nat_of (ap₂ (λ (a b : ℤ). a -ℤ b) (alone.edges (suc t) l) (alone.edges t (omega arith)))

    price_stands : (t : ℕ) → t < k → ExactPrice c edge segment t (exact_price c t)
    unfolding exact_price
    price_stands t l = record {
      R = exact_rate_at c;
      rates = λ j h. rw (alone.segments j (omega arith), alone.edges (suc j) (omega arith)) (at_step j (omega (arith, alone.count))).1;
      M = highest_q (exact_rate_at c) t;
      largest = largest t (omega (arith, alone.count));
      price_is = rw (own_width t l) (is_self (exact_price c t) (price_wide t (omega (arith, alone.count))));
    }

    pub steps_stand : (t : ℕ) → t < k → ExactRaised c edge segment t (exact_raised c t)
    unfolding exact_raised
    steps_stand t l = record {
      prices = exact_price c;
      priced = λ j h. price_stands j (omega arith);
      largest = highest_is_largest (exact_price c) t (λ j h. price_wide j (omega (arith, alone.count)));
    }

-- of accepted costs, for each step of the curve
pub exact_stands : (c : Costs) → cost_refusal c ≡ 0 → (k : Curve) (d : IsDefaultCurve c k) (t : ℕ) → t < k.count → ExactRaised c (edge_of k) d.segment t (exact_raised c t)
exact_stands c e k d = steps_stand c ((cost_accepted c).0 e).1 k.count (edge_of k) d.segment d.steps
