-- An interval that isn't refused is in range on each of its constraints. Assumes nothing.
use mathlib.Core.Path.{◌≡◌, sym}
use Prim.Native.Nat.{ℕ, ◌<◌, ◌≤◌}
use native.Mathlib.Omega.{arith}
use Rattle.rules_interval.specs.Intervals.{interval_refusal}
use Rattle.rules_interval.proofs.IntervalLaws.{InLimits, in_limits}
use Rattle.interval.specs.Over.{lent_interval}
use Rattle.interval.specs.declared.LentInterval.{LentInterval}
use Rattle.path.specs.Tallies.{SoundOver}

module _ (known : ℕ) (v : LentInterval) (taken : 0 ≡ interval_refusal known (lent_interval v)) where
  limits : InLimits known (lent_interval v)
  limits = in_limits known (lent_interval v) (sym taken)

  pub count_is : v.resources ≡ known
  count_is = limits.count

  pub few : v.resources ≤ 64
  few = limits.few

  pub sound_at : (c : ℕ) → c < v.constraints → SoundOver v.factors.now v.outputs.now v.resources c
  sound_at c h = record {
    few = limits.few;
    column = omega (arith, h, limits.constraints);
    factor_in = λ r k. limits.factor r c k h;
    available_in = limits.available;
    floor_in_lem = limits.floor;
    dispatch_in = limits.dispatch;
  }
