-- The default curve from costs (paper 01, Default curve from costs; Curve): what holds of it for any number of points.
use Rattle.std.specs.Prelude.{Result}
use Rattle.std.specs.Result.{result_unwrap_or}
use mathlib.Core.Bool.{true}
use mathlib.Core.Path.{◌≡◌, ap, ap₂, sym, ◌∙◌}
use Prim.Native.Nat.{ℕ, suc, ◌≤◌, ◌<◌}
use native.Mathlib.Nat.{le_refl}
use native.Mathlib.Omega.{arith}
use borrow.Author.Tests.{le-leb}
use lib.IntN.{ℤ, pos}
use lib.Signed.{le_z, lt_z, ◌≤ℤ◌}
use Rattle.rules_number.specs.Order.{in_range, nat_of}
use Rattle.rules_number.specs.Over.{listed}
use Rattle.rules_number.proofs.Kit.{var, lit, neg, le_by, Bd, le_of, true_le}
use Rattle.rules_number.proofs.OverLaws.{listed_length}
use Rattle.rules_curve.specs.Refusals.{outcome_number}
use Rattle.rules_curve.specs.Curves.{most_steps, blank_curve, unless_refused, curve_with, edge_suits, price_suits, count_good, edges_good, prices_good, curve_refusal, default_refusal, highest_default, lowest_default}
use Rattle.rules_curve.specs.Meaning.{Sound}
use Rattle.rules_curve.proofs.CheckLaws.{default_checked}
use Rattle.rules_curve.proofs.ChainLaws.{chain_listed}
use Rattle.rules_curve.proofs.RawLaws.{raw_step, raw_of, raw_listed, raw_back}
use Rattle.rules_curve.specs.declared.Curve.{Curve}
use Rattle.rules_curve.specs.declared.Refusal.{Refusal}
use Rattle.rules_cost.specs.Costs.{mw_at, count_of_steps, end_at, edge_at, rate_at, largest_rate, step_price, raised_price, cost_step, cost_curve, mw_good, prices_in_range, rates_good, cost_refusal}
use Rattle.rules_number.specs.Least.{IsHighest}
use Rattle.rules_number.proofs.HighestLaws.{highest_is_highest}
use Rattle.rules_number.proofs.RangeLaws.{nat_is}
use Rattle.rules_cost.proofs.RangeLaws.{few, mw_in}
use Rattle.rules_cost.proofs.EdgeLaws.{wide_step, some_step, eleven_suffice}
use Rattle.rules_cost.proofs.CostLaws.{raised_bound, raised_never_falls}
use Rattle.rules_cost.proofs.RefusalLaws.{passed}
use Rattle.rules_cost.specs.declared.Costs.{Costs}

-- "M is the largest R so far, from the left."
pub largest_so_far : (c : Costs) (i : ℕ) → IsHighest (rate_at c) i (largest_rate c i)
unfolding largest_rate
largest_so_far c i = highest_is_highest (rate_at c) i

-- "Last, each step price is raised to the largest before it."
pub raised_to_largest : (c : Costs) (i : ℕ) → IsHighest (step_price c) i (raised_price c i)
unfolding raised_price
raised_to_largest c i = highest_is_highest (step_price c) i

-- "Prices never fall."
pub prices_never_fall : (c : Costs) (i : ℕ) → raised_price c i ≤ℤ raised_price c (suc i)
prices_never_fall = raised_never_falls

-- "A default curve, from a pack or from costs, allows prices of -1,000,000,000 to 1,000,000,000": costs that pass 5, 7 and 8 give no other,
-- whatever their count. "Bounds for 2 to 11 points are shown for any number of points."
module _ (c : Costs) (quantities : mw_good c ≡ true) (prices : prices_in_range c ≡ true) (rates : rates_good c ≡ true) where
  size : (i : ℕ) → i < count_of_steps c → Bd 1000000000 (raised_price c i)
  unfolding rates_good
  size i l = raised_bound c prices quantities (count_of_steps c) (le_refl (count_of_steps c)) rates i l

  pub prices_in_range_lem : (i : ℕ) → i < count_of_steps c → (lowest_default ≤ℤ raised_price c i) × (raised_price c i ≤ℤ highest_default)
  prices_in_range_lem i l =
      let b = size i l in
      (le_by (neg (lit 1000000000)) (var (raised_price c i)) (omega (arith, b.bd)), le_by (var (raised_price c i)) (lit 1000000000) (omega (arith, b.bd)))

below : (a b : ℤ) → lt_z a b ≡ true → a ≡ pos (nat_of a) → b ≡ pos (nat_of b) → lt_z (pos (nat_of a)) (pos (nat_of b)) ≡ true
below a b e x y = ap₂ lt_z (sym x) (sym y) ∙ e

module _ (c : Costs) (accepted : cost_refusal c ≡ 0) where
  at_point : (i : ℕ) → i < c.count → (mw_at c i ≡ pos (nat_of (mw_at c i))) × (nat_of (mw_at c i) ≤ 1000000)
  at_point i l = nat_is 1000000 (mw_at c i) (mw_in c (passed c accepted).quantities i l)

  edge : (i : ℕ) → i < count_of_steps c → edge_suits (pos (nat_of (edge_at c i))) (raw_step (cost_step c i)) ≡ true
  edge i l =
      let w = wide_step c (passed c accepted).quantities i l in
      let here = nat_is 1000000 (edge_at c i) w.from_in in
      let next = nat_is 1000000 (end_at c i) w.to_in in
      rw (below (edge_at c i) (end_at c i) w.rises here.0 next.0, le-leb (nat_of (end_at c i)) 1000000 next.1)

  counted : count_good most_steps (raw_of (cost_curve c)) ≡ true
  unfolding cost_curve
  counted =
      let n = few c (passed c accepted).points in
      rw (listed_length (cost_step c) (count_of_steps c), le-leb 1 (count_of_steps c) (some_step c n.0), le-leb (count_of_steps c) most_steps (eleven_suffice c n.1))

  edged : edges_good (raw_of (cost_curve c)) ≡ true
  unfolding cost_curve in_range edge_at
  edged =
      let n = few c (passed c accepted).points in
      let first = at_point 0 (omega arith) in
      rw (raw_listed (nat_of (mw_at c 0)) (cost_step c) (count_of_steps c), le-leb 0 (nat_of (mw_at c 0)) (omega arith), le-leb (nat_of (mw_at c 0)) 1000000 first.1)
      (chain_listed edge_suits (λ s. s.end) (pos (nat_of (mw_at c 0))) (λ i. raw_step (cost_step c i)) (count_of_steps c) (λ h. edge 0 h) (λ i h. edge (suc i) h))

  low : (i : ℕ) → i < count_of_steps c → le_z lowest_default (raised_price c i) ≡ true
  low i l =
      let p = passed c accepted in
      true_le lowest_default (raised_price c i) (le_of (prices_in_range_lem c p.quantities p.prices p.rates i l).0)

  high : (i : ℕ) → i < count_of_steps c → le_z (raised_price c i) highest_default ≡ true
  high i l =
      let p = passed c accepted in
      true_le (raised_price c i) highest_default (le_of (prices_in_range_lem c p.quantities p.prices p.rates i l).1)

  priced : prices_good lowest_default highest_default (raw_of (cost_curve c)) ≡ true
  unfolding cost_curve
  priced =
      rw (raw_listed (nat_of (mw_at c 0)) (cost_step c) (count_of_steps c))
      (chain_listed (price_suits highest_default) (λ s. s.price) lowest_default (λ i. raw_step (cost_step c i)) (count_of_steps c)
      (λ h. rw (low 0 h, high 0 h))
      (λ i h.
      let up : le_z (raised_price c i) (raised_price c (suc i)) ≡ true = true_le (raised_price c i) (raised_price c (suc i)) (le_of (prices_never_fall c i)) in
      rw (up, high (suc i) h)))

  -- A default curve from costs that pass 4 to 8 passes 1 to 3 as a default curve from a pack does.
  pub cost_curve_passes : default_refusal (raw_of (cost_curve c)) ≡ 0
  unfolding curve_refusal
  cost_curve_passes = rw (counted, edged, priced)

  -- It is a sound curve: at most eleven steps, its ends rise and its prices never fall.
  pub cost_sound : Sound (cost_curve c)
  unfolding cost_curve
  cost_sound =
      rw (← raw_back (nat_of (mw_at c 0)) (listed (cost_step c) (count_of_steps c)))
      (default_checked lowest_default highest_default (raw_of (curve_with (nat_of (mw_at c 0)) (listed (cost_step c) (count_of_steps c)))) cost_curve_passes)

-- So does what the call hands back, where it accepts.
pub accepted_curve_passes : (c : Costs) (r : Result Curve Refusal) → outcome_number r ≡ cost_refusal c → result_unwrap_or r blank_curve ≡ unless_refused (cost_refusal c) (cost_curve c)
    → outcome_number r ≡ 0 → default_refusal (raw_of (result_unwrap_or r blank_curve)) ≡ 0
accepted_curve_passes c r number curve accepted =
    let zero = sym number ∙ accepted in
    ap (λ (k : Curve). default_refusal (raw_of k)) (curve ∙ ap (λ (n : ℕ). unless_refused n (cost_curve c)) zero) ∙ cost_curve_passes c zero
