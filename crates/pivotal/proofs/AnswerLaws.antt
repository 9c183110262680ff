-- What the search answers. Assumes nothing.
use mathlib.Core.Bool.{true, false}
use mathlib.Core.List.{List}
use mathlib.Core.Path.{◌≡◌, refl, sym}
use Prim.Native.Nat.{ℕ, zero, suc, ◌<◌}
use native.Mathlib.Omega.{arith}
use Rattle.rules_curve.specs.Refusals.{unless, ◌then◌}
use Rattle.rules_interval.specs.Intervals.{interval_refusal}
use Rattle.rules_interval.specs.declared.Interval.{Interval}
use Rattle.rules_path.specs.declared.Market.{Market}
use Rattle.rules_pivotal.specs.Pivotals.{none_found, found_with, pivotal_in, any_binds, pivotal_refusal, pivotal_of}
use Rattle.rules_pivotal.specs.Searches.{searched}
use Rattle.rules_pivotal.specs.declared.Found.{Found}
use Rattle.rules_pivotal.proofs.Jointly.{refused_alone}
use Rattle.pivotal.specs.Rows.{works_on, floor_on, pivotal_on}

-- ---- over rows
module _ (rows : List ℕ) (n sellers budget : ℕ) where
  pub none_works : works_on rows n sellers ≡ false → none_found ≡ pivotal_on rows n sellers budget
  unfolding pivotal_on
  none_works e = rw e

  pub some_works : works_on rows n sellers ≡ true → (f : Found) (floor : ℕ) → f ≡ searched (works_on rows n) sellers budget → floor ≡ floor_on rows n → found_with f floor ≡ pivotal_on rows n sellers budget
  unfolding pivotal_on
  some_works e f floor x y = rw (e, x, y)

-- ---- over an interval
module _ (m : Market) (v : Interval) (budget : ℕ) where
  then_first : (a b : ℕ) → 0 < a → a ≡ (a then b)
  then_first zero b h = absurd (omega arith)
  then_first (suc a) b h = refl

  pub refused_before : 0 < interval_refusal m.resources v → interval_refusal m.resources v ≡ pivotal_refusal m v
  unfolding pivotal_refusal
  refused_before h = then_first (interval_refusal m.resources v) (unless (any_binds m v) 26) h

  pub refused_26 : interval_refusal m.resources v ≡ 0 → any_binds m v ≡ false → 26 ≡ pivotal_refusal m v
  unfolding pivotal_refusal
  refused_26 a b = rw (a, b)

  pub accepted : interval_refusal m.resources v ≡ 0 → any_binds m v ≡ true → pivotal_refusal m v ≡ 0
  unfolding pivotal_refusal
  accepted a b = rw (a, b)

  pub accepted_is : pivotal_refusal m v ≡ 0 → pivotal_in m v budget ≡ pivotal_of m v budget
  unfolding pivotal_of
  accepted_is e = rw e

  pub refused_none : (k : ℕ) → 0 < k → k ≡ pivotal_refusal m v → none_found ≡ pivotal_of m v budget
  refused_none k h e = sym (refused_alone m v budget (rw (← e) h))
