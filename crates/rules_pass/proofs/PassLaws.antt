-- What a call does to the hour in real time: an interval begins a quarter hour, a pass leaves the hour alone. Assumes nothing.
use mathlib.Core.List.{List, [], ◌∷◌, ◌++◌}
use mathlib.Core.Path.{◌≡◌, refl, ap}
use Prim.Native.Nat.{ℕ, zero, suc}
use Rattle.rules_interval.specs.declared.Interval.{Interval}
use Rattle.rules_hour.specs.Hours.{hour_refusal, hour_after_all}
use Rattle.rules_hour.specs.Demand3.{counted_by}
use Rattle.rules_hour.proofs.KeptLaws.{refused_call}
use Rattle.rules_pass.specs.Passes.{RealTimeHour, fresh_quarter, next_quarter, quarter_unless, quarter_after, begun_by, interval_after, pass_refusal, pass_after}
use Rattle.rules_pass.specs.Calls.{Request, interval, pass, after, after_all, intervals_in, restarted_by}

-- ---- one call
module _ (h : RealTimeHour) (v : Interval) where
  -- a refused interval changes nothing
  pub refused_interval : (n : ℕ) → hour_refusal h.hour v ≡ suc n → interval_after h v ≡ h
  unfolding interval_after
  refused_interval n e = rw (refused_call h.hour v n e, e)

  -- an accepted one begins a quarter hour
  pub begins_quarter : hour_refusal h.hour v ≡ 0 → (interval_after h v).quarter ≡ fresh_quarter
  unfolding interval_after
  begins_quarter e = ap (λ (n : ℕ). begun_by n h.quarter) e

  -- a refused pass changes nothing
  pub refused_pass : (n : ℕ) → pass_refusal h v ≡ suc n → pass_after h v ≡ h
  unfolding pass_after quarter_after
  refused_pass n e =
      ap (λ (x : ℕ). record { hour = h.hour; quarter = quarter_unless x (next_quarter h.hour.market h.quarter v) h.quarter }) e

  pub accepted_pass : pass_refusal h v ≡ 0 → (pass_after h v).quarter ≡ next_quarter h.hour.market h.quarter v
  unfolding pass_after quarter_after
  accepted_pass e = ap (λ (x : ℕ). quarter_unless x (next_quarter h.hour.market h.quarter v) h.quarter) e

  -- how many passes there are after it
  pub restarted : (interval_after h v).quarter.passes ≡ restarted_by (hour_refusal h.hour v) h.quarter.passes
  unfolding interval_after fresh_quarter
  restarted = go (hour_refusal h.hour v)
    where
      go : (n : ℕ) → (begun_by n h.quarter).passes ≡ restarted_by n h.quarter.passes
      go zero = refl
      go (suc n) = refl

  pub passes_counted : (pass_after h v).quarter.passes ≡ counted_by (pass_refusal h v) h.quarter.passes
  unfolding pass_after quarter_after next_quarter
  passes_counted = go (pass_refusal h v)
    where
      go : (n : ℕ) → (quarter_unless n (next_quarter h.hour.market h.quarter v) h.quarter).passes ≡ counted_by n h.quarter.passes
      go zero = refl
      go (suc n) = refl

-- ---- lists
-- the hour after a list and one more call
pub one_more : (h : RealTimeHour) (calls : List Request) (c : Request) → after_all h (calls ++ (c ∷ [])) ≡ after (after_all h calls) c
unfolding after_all
one_more h [] c = refl
one_more h (x ∷ calls) c = one_more (after h x) calls c

-- "Passes never alter the hour's curves": market, rows and standing after any list are those that its interval calls alone leave
pub passes_leave_the_hour : (calls : List Request) (h : RealTimeHour) → (after_all h calls).hour ≡ hour_after_all h.hour (intervals_in calls)
unfolding after_all intervals_in hour_after_all interval_after pass_after
passes_leave_the_hour [] h = refl
passes_leave_the_hour (interval v ∷ calls) h = passes_leave_the_hour calls (interval_after h v)
passes_leave_the_hour (pass v ∷ calls) h = passes_leave_the_hour calls (pass_after h v)
