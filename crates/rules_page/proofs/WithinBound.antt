-- What is printed of an accepted interval never reaches the 63-bit bound: each number that is printed is the verdict's own, or the curve's. Assumes nothing.
use mathlib.Core.Bool.{Bool, true, false, cond}
use mathlib.Core.Logic.{⊎_elim}
use mathlib.Core.Path.{◌≡◌, sym}
use Prim.Native.Nat.{ℕ, suc, ◌-◌, ◌*◌, ◌≤◌, ◌<◌, zero-le}
use native.Mathlib.Nat.{le_refl, le_trans, le_of_eq, mul-le-mul_left}
use native.Mathlib.Omega.{arith}
use lib.Dec.{eqb}
use lib.IntN.{ℤ, pos, negsuc, nat_abs}
use lib.ListN.{length, get_or-eq_default}
use Rattle.rules_number.specs.Order.{in_range, nat_of}
use Rattle.rules_number.specs.Over.{sum_to}
use Rattle.rules_number.proofs.OverLaws.{le_or_lt, tested, listed_length}
use Rattle.rules_number.proofs.RangeLaws.{nat_is, abs_range}
use Rattle.rules_number.proofs.SumLaws.{sum_le}
use Rattle.rules_interval.specs.Intervals.{dispatch_at, available_at, factor_at, interval_refusal}
use Rattle.rules_interval.specs.declared.Interval.{Interval}
use Rattle.rules_interval.proofs.IntervalLaws.{InLimits, in_limits}
use Rattle.rules_path.specs.Paths.{Path, at, binds, effectiveness, effect, demand, supply, share, withholdable, amount_of, sellers, left}
use Rattle.rules_path.specs.Verdicts.{verdict_of, bit}
use Rattle.rules_path.specs.Judgements.{path_in}
use Rattle.rules_path.specs.declared.Market.{Market}
use Rattle.rules_path.specs.declared.Verdict.{Verdict}
use Rattle.rules_path.proofs.PathVerdict.{withheld_of_named, withheld_of_others}

-- 64 × 10^12: 64 resources, each with a factor and a quantity of at most 1,000,000
abbrev pub most : ℕ
most = 64000000000000

-- an effectiveness is at most the size of its factor
effect_size : (s : ℤ) → effectiveness s ≤ nat_abs s
effect_size (pos n) = zero-le
effect_size (negsuc n) = le_refl (suc n)

-- a quantity that lies between 0 and another one
nat_below : (a z : ℤ) → in_range (pos 0) (pos 1000000) a ≡ true → in_range (pos 0) a z ≡ true → nat_of z ≤ 1000000
nat_below a z h k =
    let x = nat_is 1000000 a h in
    le_trans (nat_is (nat_of a) z (rw x.0 at k)).1 x.1

-- a product of two that are at most 1,000,000
product_few : (a b : ℕ) → a ≤ 1000000 → b ≤ 1000000 → a * b ≤ 1000000000000
product_few a b h k = let p = mul-le-mul_left a k in omega arith

-- what a verdict says is at most that
pub record VerdictFew (v : Verdict) : Type 0 where
  pub demand : v.demand ≤ most
  pub left : v.left ≤ most
  pub withheld : (p : ℕ) → at v.withheld p ≤ most

sixteen : (d : Path) → length (verdict_of d).withheld ≡ 16
unfolding verdict_of
sixteen d = ⊎_elim (λ e. rw e (listed_length (λ p. amount_of p (sellers d)) 16)) (λ e. rw e) (tested (binds d))

module _ (m : Market) (v : Interval) (passed : interval_refusal m.resources v ≡ 0) (c : ℕ) (here : c < v.constraints) where
  limits : InLimits m.resources v
  limits = in_limits m.resources v passed

  module _ (r : ℕ) (l : r < m.resources) where
    counted : r < v.resources
    counted = le_trans l (le_of_eq (sym limits.count))

    effect_few : effect (path_in m v c) r ≤ 1000000
    effect_few = le_trans (effect_size (factor_at v r c)) (abs_range 1000000 (factor_at v r c) (limits.factor r c counted here))

    available_few : nat_of (available_at v r) ≤ 1000000
    available_few = (nat_is 1000000 (available_at v r) (limits.available r counted)).1

    dispatch_few : nat_of (dispatch_at v r) ≤ 1000000
    dispatch_few = nat_below (available_at v r) (dispatch_at v r) (limits.available r counted) (limits.dispatch r counted)

  -- a sum over the resources
  sum_few : (f : ℕ → ℕ) → ((r : ℕ) → r < m.resources → f r ≤ 1000000000000) → sum_to f m.resources ≤ most
  sum_few f h = omega (arith, sum_le f 1000000000000 m.resources h, limits.count, limits.few)

  pub demand_few : demand (path_in m v c) ≤ most
  unfolding demand
  demand_few = sum_few _ (λ r l. product_few (effect (path_in m v c) r) (nat_of (dispatch_at v r)) (effect_few r l) (dispatch_few r l))

  pub supply_few : supply (path_in m v c) ≤ most
  unfolding supply
  supply_few = sum_few _ (λ r l. product_few (effect (path_in m v c) r) (nat_of (available_at v r)) (effect_few r l) (available_few r l))

  pub left_few : left (path_in m v c) ≤ most
  unfolding left
  left_few = omega (arith, supply_few)

  pub withholdable_few : (p : ℕ) → withholdable (path_in m v c) p ≤ most
  unfolding withholdable share
  withholdable_few p = sum_few (share (path_in m v c) p) (λ r l. either (eqb ((path_in m v c).portfolio r) p) r l)
    where
      either : (t : Bool) (r : ℕ) → r < m.resources → cond t (effect (path_in m v c) r * ((path_in m v c).available r - (path_in m v c).floor r)) 0 ≤ 1000000000000
      either true r l = product_few (effect (path_in m v c) r) _ (effect_few r l) (omega (arith, available_few r l))
      either false r l = zero-le

  -- what is printed of a verdict is at most that
  pub verdict_few : VerdictFew (verdict_of (path_in m v c))
  unfolding verdict_of
  verdict_few = record {
    demand = ⊎_elim (λ e. rw e demand_few) (λ e. rw e zero-le) (tested (binds d));
    left = ⊎_elim (λ e. rw e left_few) (λ e. rw e zero-le) (tested (binds d));
    withheld = λ p. ⊎_elim (past p) (within p) (le_or_lt 16 p);
  }
    where
      d : Path
      d = path_in m v c

      past : (p : ℕ) → 16 ≤ p → at (verdict_of d).withheld p ≤ most
      past p h = le_trans (le_of_eq (get_or-eq_default (verdict_of d).withheld 0 {n = p} (omega (arith, sixteen d)))) zero-le

      within : (p : ℕ) → p < 16 → at (verdict_of d).withheld p ≤ most
      within p h =
          ⊎_elim (λ b. le_trans (le_of_eq (withheld_of_named d p h (omega arith))) (withholdable_few p)) (λ b. le_trans (le_of_eq (withheld_of_others d p h (omega arith))) zero-le)
          (le_or_lt 1 (bit p (verdict_of d).named))
