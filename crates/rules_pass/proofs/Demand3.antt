-- Demand 3 over every list of interval calls and passes (paper 02, 2.1): "Passes never alter the hour's curves, so an owner's hourly price keeps its causes with
-- passes anywhere in the list." Assumes nothing.
use mathlib.Core.List.{List, [], ◌∷◌, ◌++◌, map}
use mathlib.Core.Path.{◌≡◌, refl, sym, ap, subst, ◌∙◌}
use Prim.Native.Nat.{ℕ, zero, suc, ◌<◌}
use lib.ListN.{length}
use Rattle.rules_interval.specs.declared.Interval.{Interval}
use Rattle.rules_opening.specs.Openings.{opening_refusal}
use Rattle.rules_opening.specs.declared.Opening.{Opening}
use Rattle.rules_hour.specs.Hours.{Hour, curve_in, hour_refusal}
use Rattle.rules_hour.specs.Demand3.{accepted_calls, Owned, returning_zero, counted_by}
use Rattle.rules_hour.specs.Demand3 as hourly
use Rattle.rules_hour.proofs.Demand3 as base
use Rattle.rules_pass.specs.Passes.{RealTimeHour, opened_real_time, interval_after}
use Rattle.rules_pass.specs.Calls.{Request, interval, hour_of, intervals_in, accepted_intervals, Progress, none_yet, returned, answers_from, answers, returned_by, restarted_by, Answered}
use Rattle.rules_pass.specs.FiveMinute.{Demand3}
use Rattle.rules_pass.proofs.PassLaws.{passes_leave_the_hour}
use Rattle.rules_pass.proofs.ProgressLaws.{append-nil, append_one}
use Rattle.rules_pass.proofs.Answers.{answers_exactly, intervals_return_zero}

-- the hour after a list is that of its interval calls
pub hour_alone : (o : Opening) (calls : List Request) → (hour_of o calls).hour ≡ hourly.hour_of o (intervals_in calls)
unfolding opened_real_time
hour_alone o calls = passes_leave_the_hour calls (opened_real_time o)

pub demand_3 : (o : Opening) (calls : List Request) (r : ℕ) → opening_refusal o ≡ 0 → r < o.resources → Demand3 o calls r
demand_3 o calls r accepted l =
    let alone = hour_alone o calls in
    let d = base.demand_3 o (intervals_in calls) r accepted l in
    record {
      owned = subst (λ (h : Hour). Owned o r (accepted_intervals o calls) (curve_in h r)) (sym alone) d.owned;
      answered = answers_exactly o accepted calls;
      accepting = intervals_return_zero o accepted calls;
      counted = ap (λ (h : Hour). h.standing.accepted) alone ∙ d.counted;
    }

-- ---- a list without passes
pub intervals_only : (calls : List Interval) → intervals_in (map interval calls) ≡ calls
unfolding intervals_in
intervals_only [] = refl
intervals_only (v ∷ calls) = ap (λ (l : List Interval). v ∷ l) (intervals_only calls)

-- its numbers, and what they accept
answers_only : (calls : List Interval) (h : RealTimeHour) → answers_from h (map interval calls) ≡ hourly.answers_from h.hour calls
unfolding answers_from hourly.answers_from interval_after
answers_only [] h = refl
answers_only (v ∷ calls) h = ap (λ (l : List ℕ). hour_refusal h.hour v ∷ l) (answers_only calls (interval_after h v))

answered_only : (n : ℕ) (calls : List Interval) (a p : ℕ) (l : List ℕ) → Answered n a p (map interval calls) l → hourly.Answered n a calls l
answered_only n [] a p l h = h
answered_only n (v ∷ calls) a p [] h = h
answered_only n (v ∷ calls) a p (x ∷ l) h = (h.0, h.1, answered_only n calls (counted_by x a) (restarted_by x p) l h.2)

returned_only : (calls : List Interval) (p : Progress) (l : List ℕ) → (returned_by p (map interval calls) l).intervals ≡ p.intervals ++ returning_zero calls l
returned_only [] p l = sym (append-nil p.intervals)
returned_only (v ∷ calls) p [] = sym (append-nil p.intervals)
returned_only (v ∷ calls) p (zero ∷ l) = returned_only calls (returned 0 p (interval v)) l ∙ append_one p.intervals v (returning_zero calls l)
returned_only (v ∷ calls) p (suc x ∷ l) = returned_only calls p l

-- The statement over interval calls alone is the case without passes.
pub without_passes : (o : Opening) (calls : List Interval) (r : ℕ) → Demand3 o (map interval calls) r → hourly.Demand3 o calls r
unfolding opened_real_time
without_passes o calls r d =
    let only = intervals_only calls in
    let alone : (hour_of o (map interval calls)).hour ≡ hourly.hour_of o calls = hour_alone o (map interval calls) ∙ ap (hourly.hour_of o) only in
    let numbers : answers o (map interval calls) ≡ hourly.answers o calls = answers_only calls (opened_real_time o) in
    let own : accepted_intervals o (map interval calls) ≡ accepted_calls o calls = ap (accepted_calls o) only in
    record {
      owned =
          subst (λ (l : List Interval). Owned o r l (hourly.curve_after o calls r)) own
          (subst (λ (h : Hour). Owned o r (accepted_intervals o (map interval calls)) (curve_in h r)) alone d.owned);
      answered = answered_only o.resources calls 0 0 (hourly.answers o calls) (subst (Answered o.resources 0 0 (map interval calls)) numbers d.answered);
      accepting =
          sym own ∙ d.accepting ∙ ap (λ (l : List ℕ). (returned_by none_yet (map interval calls) l).intervals) numbers ∙ returned_only calls none_yet (hourly.answers o calls);
      counted = ap (λ (h : Hour). h.standing.accepted) (sym alone) ∙ d.counted ∙ ap length own;
    }
