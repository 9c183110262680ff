-- The rates and prices of a default curve from costs: how large they are, and how a loop comes to them. Assumes nothing.
use mathlib.Core.Bool.{true}
use mathlib.Core.Path.{◌≡◌, refl}
use Prim.Native.Nat.{ℕ, suc, ◌≤◌, ◌<◌}
use native.Mathlib.Nat.{div-le_self}
use native.Mathlib.Omega.{arith}
use lib.Dec.{lit<, lit≤}
use lib.IntN.{ℤ, pos, neg_ℤ}
use lib.Signed.{◌≤ℤ◌}
use Rattle.rules_number.specs.Order.{in_range}
use Rattle.rules_number.specs.Over.{all_to}
use Rattle.rules_number.proofs.Kit.{lit, neg, var, le_by, Bd, bd_add, bd_mul, bd_lit, bd_le}
use Rattle.rules_number.proofs.CeilSize.{bd_ceil}
use Rattle.rules_number.proofs.OverLaws.{all_at, highest_ge, highest_bound}
use Rattle.rules_cost.specs.Costs.{count_of_steps, width_at, rate_at, largest_rate, fuel, greenhouse, fee_part, step_cost, with_adder, step_price, raised_price, rate_in_range, mw_good, prices_in_range}
use Rattle.rules_number.proofs.HighestLaws.{highest_from, highest_from_lem, highest_from_bound}
use Rattle.rules_cost.proofs.RangeLaws.{rate_size, rate_lowest, sizes}
use Rattle.rules_cost.proofs.EdgeLaws.{width_above}
use Rattle.rules_cost.specs.declared.Costs.{Costs}

-- ---- the bound of a step's price
module _ (c : Costs) (prices : prices_in_range c ≡ true) (w : ℕ) (wide : 0 < w) where
  pub fee_size : Bd 100000001 (fee_part c w)
  unfolding fee_part
  fee_size =
      bd_le (omega (arith, div-le_self 100000000 w)) (bd_ceil {A = 100000000} w wide (bd_mul (bd_lit 100) (sizes c prices).fee))

  pub price_size : (M R : ℤ) → Bd 100000 M → Bd 100000 R → Bd 1000000000 (with_adder c M R w)
  unfolding with_adder step_cost fuel greenhouse
  price_size M R bM bR =
      let s = sizes c prices in
      bd_le (lit≤ tt)
      (bd_ceil 10 (lit< tt) (bd_mul (bd_lit 11)
      (bd_add (bd_add (bd_add (bd_add (bd_add
      (bd_ceil 1000 (lit< tt) (bd_mul bM s.gas))
      (bd_ceil 1000000000 (lit< tt) (bd_mul (bd_mul bR s.rate) s.allowance)))
      s.om) s.msc) s.soc) fee_size)))

-- ---- the first n steps, of which each R is in range
module _ (c : Costs) (prices : prices_in_range c ≡ true) (quantities : mw_good c ≡ true)
    (n : ℕ) (short : n ≤ count_of_steps c) (rates : all_to (λ i. rate_in_range (rate_at c i)) n ≡ true) where
  rate_in : (i : ℕ) → i < n → rate_in_range (rate_at c i) ≡ true
  rate_in = all_at (λ i. rate_in_range (rate_at c i)) n rates

  rate_bound : (i : ℕ) → i < n → Bd 100000 (rate_at c i)
  rate_bound i l = rate_size (rate_at c i) (rate_in i l)

  largest_bound : (i : ℕ) → i < n → Bd 100000 (largest_rate c i)
  unfolding largest_rate
  largest_bound i l = highest_bound (Bd 100000) (rate_at c) i (λ j k. rate_bound j (omega arith))

  step_bound : (i : ℕ) → i < n → Bd 1000000000 (step_price c i)
  unfolding step_price
  step_bound i l =
      price_size c prices (width_at c i) (width_above c quantities i (omega arith))
      (largest_rate c i) (rate_at c i) (largest_bound i l) (rate_bound i l)

  -- each price of the curve is within the range of a default curve
  pub raised_bound : (i : ℕ) → i < n → Bd 1000000000 (raised_price c i)
  unfolding raised_price
  raised_bound i l = highest_bound (Bd 1000000000) (step_price c) i (λ j k. step_bound j (omega arith))

  -- M and the raised price, carried from below all of them
  pub largest_from : (i : ℕ) → suc i ≤ n → highest_from (neg_ℤ (pos 100000)) (rate_at c) (suc i) ≡ largest_rate c i
  unfolding largest_rate
  largest_from i l = highest_from_lem (neg_ℤ (pos 100000)) (rate_at c) i (rate_lowest (rate_at c 0) (rate_in 0 (omega arith)))

  pub raised_from : (i : ℕ) → suc i ≤ n → highest_from (neg_ℤ (pos 1000000000)) (step_price c) (suc i) ≡ raised_price c i
  unfolding raised_price
  raised_from i l =
      highest_from_lem (neg_ℤ (pos 1000000000)) (step_price c) i
      (le_by (neg (lit 1000000000)) (var (step_price c 0)) (omega (arith, (step_bound 0 (omega arith)).bd)))

  pub largest_in : rate_in_range (highest_from (neg_ℤ (pos 100000)) (rate_at c) n) ≡ true
  unfolding in_range
  largest_in = highest_from_bound (λ z. rate_in_range z ≡ true) (neg_ℤ (pos 100000)) (rate_at c) n refl rate_in

-- ---- M never falls, nor does the price
pub raised_never_falls : (c : Costs) (i : ℕ) → raised_price c i ≤ℤ raised_price c (suc i)
unfolding raised_price
raised_never_falls c i = highest_ge (step_price c) i
