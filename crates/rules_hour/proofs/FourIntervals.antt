-- Four intervals an hour (paper 01, Interval and hour): "An interval call is accepted exactly when none of 12 to 16 applies, and 12 counts the accepted ones
-- before it in the list." Assumes nothing.
use mathlib.Core.Bool.{Bool, true, false}
use mathlib.Core.List.{List}
use mathlib.Core.Logic.{◌↔◌, ⊎_elim}
use mathlib.Core.Path.{◌≡◌, sym, ap₂, subst, ◌∙◌}
use Prim.Native.Nat.{ℕ, zero, suc, ◌≤◌, ◌<◌}
use native.Mathlib.Omega.{arith}
use borrow.Author.Tests.{lt-ltb, ltb-true}
use lib.Dec.{ltb}
use lib.ListN.{length, length-take}
use Rattle.rules_number.proofs.OverLaws.{le_or_lt}
use Rattle.rules_curve.specs.Refusals.{unless, ◌then◌}
use Rattle.rules_curve.specs.Demands.{First}
use Rattle.rules_curve.proofs.FirstLaws.{exactly}
use Rattle.rules_curve.proofs.CheckLaws.{then_both, unless_holds}
use Rattle.rules_interval.specs.Intervals.{is_same_count, constraints_good, ranges_good, outputs_good, interval_refusal}
use Rattle.rules_interval.specs.declared.Interval.{Interval}
use Rattle.rules_hour.specs.Conditions.{call_demands}
use Rattle.rules_hour.specs.Hours.{call_refusal, hour_refusal}
use Rattle.rules_opening.specs.Openings.{opening_refusal}
use Rattle.rules_hour.specs.Demand3.{sound_calls, accepted_calls, hour_of}
use Rattle.rules_opening.specs.declared.Opening.{Opening}
use Rattle.rules_hour.proofs.AcceptedOpening.{few}
use Rattle.rules_hour.proofs.KeptLaws.{hour_kept, resources_kept}
use Rattle.rules_hour.proofs.CallLaws.{hour_count}
use Rattle.rules_hour.proofs.Answers.{first_here}

-- the list has at most four accepted calls
pub at_most_four : (o : Opening) (calls : List Interval) → length (accepted_calls o calls) ≤ 4
at_most_four o calls = omega (arith, length-take 4 (sound_calls o.resources calls))

-- 12 is no number of an interval's own checks
pub other_then : (a b : ℕ) → (a ≡ 12 → ⊥) → (b ≡ 12 → ⊥) → (a then b) ≡ 12 → ⊥
other_then zero b h k e = k e
other_then (suc a) b h k e = h e

pub other_unless : (t : Bool) (n : ℕ) → (n ≡ 12 → ⊥) → unless t n ≡ 12 → ⊥
other_unless true n h e = omega arith
other_unless false n h e = h e

pub never_twelve : (n : ℕ) (v : Interval) → interval_refusal n v ≡ 12 → ⊥
unfolding interval_refusal
never_twelve n v =
    other_then _ _
    (other_then _ _ (other_then _ _ (other_unless (is_same_count n v) 13 (λ e. omega arith)) (other_unless (constraints_good v) 14 (λ e. omega arith)))
    (other_unless (ranges_good v.shadow v.lmp v.parameter v.factors v.resources v.constraints) 15 (λ e. omega arith)))
    (other_unless (outputs_good v.available v.floor v.dispatch v.resources) 16 (λ e. omega arith))

module _ (o : Opening) (calls : List Interval) (accepted : opening_refusal o ≡ 0) where
  -- the hour's count
  count : (hour_of o calls).standing.accepted ≡ length (accepted_calls o calls)
  count = hour_count o accepted calls 0 (few o accepted).1

  module _ (v : Interval) where
    -- the next call's number, from the opening data and the calls alone
    pub next_refusal : hour_refusal (hour_of o calls) v ≡ (unless (ltb (length (accepted_calls o calls)) 4) 12 then interval_refusal o.resources v)
    unfolding call_refusal
    next_refusal = ap₂ (λ (a n : ℕ). unless (ltb a 4) 12 then interval_refusal n v) count (resources_kept o (hour_of o calls) (hour_kept o calls accepted))

    -- 12 is told exactly when four were accepted before
    pub twelve_exactly : (hour_refusal (hour_of o calls) v ≡ 12) ↔ (length (accepted_calls o calls) ≡ 4)
    twelve_exactly = (
      (λ e.
          ⊎_elim (λ l. omega (arith, at_most_four o calls))
          (λ l. absurd (never_twelve o.resources v (rw (lt-ltb (length (accepted_calls o calls)) 4 l) at (sym next_refusal ∙ e)))) (le_or_lt 4 (length (accepted_calls o calls)))),
      (λ e. next_refusal ∙ rw e),
    )

    -- a call is accepted exactly when fewer than four were before and none of 13 to 16 applies
    pub accepted_exactly : (hour_refusal (hour_of o calls) v ≡ 0) ↔ ((length (accepted_calls o calls) < 4) × (interval_refusal o.resources v ≡ 0))
    accepted_exactly = (
      (λ e.
          let b = then_both (unless (ltb (length (accepted_calls o calls)) 4) 12) (interval_refusal o.resources v) (sym next_refusal ∙ e) in
          (ltb-true _ _ (unless_holds (ltb (length (accepted_calls o calls)) 4) 11 b.0), b.1)),
      (λ h. next_refusal ∙ rw (lt-ltb (length (accepted_calls o calls)) 4 h.0, h.1)),
    )

    -- the number is n exactly when n is that of the first of 12 to 16 that applies, and 0 where none does
    pub next_exactly : (n : ℕ) → (hour_refusal (hour_of o calls) v ≡ n) ↔ First n (call_demands (length (accepted_calls o calls)) o.resources v)
    next_exactly n =
        let first = subst (λ (a : ℕ). First (hour_refusal (hour_of o calls) v) (call_demands a o.resources v)) count (first_here o accepted (hour_of o calls) (hour_kept o calls accepted) v) in
        exactly (call_demands (length (accepted_calls o calls)) o.resources v) (hour_refusal (hour_of o calls) v) first n
