-- The numbers that a list of calls of both kinds returns, and which calls they accept. Assumes nothing.
use mathlib.Core.List.{List, [], ◌∷◌}
use mathlib.Core.Path.{◌≡◌, refl, sym, ap, subst, ◌∙◌}
use Prim.Native.Nat.{ℕ}
use native.Mathlib.Nat.{le_trans, le_of_eq}
use Rattle.rules_curve.specs.Demands.{First}
use Rattle.rules_curve.proofs.FirstLaws.{accepted_exactly}
use Rattle.rules_interval.specs.declared.Interval.{Interval}
use Rattle.rules_opening.specs.Openings.{opening_refusal}
use Rattle.rules_opening.specs.declared.Opening.{Opening}
use Rattle.rules_hour.specs.Conditions.{call_demands}
use Rattle.rules_hour.specs.Hours.{Hour, fresh_standing, hour_refusal}
use Rattle.rules_hour.specs.Opened.{fresh_hour}
use Rattle.rules_hour.specs.Demand3.{counted_by}
use Rattle.rules_hour.proofs.AcceptedOpening.{opened_hour_lem, few}
use Rattle.rules_hour.proofs.KeptLaws.{Kept, resources_kept}
use Rattle.rules_hour.proofs.Answers.{count_after, first_here}
use Rattle.rules_pass.specs.Conditions.{pass_demands}
use Rattle.rules_pass.specs.Passes.{RealTimeHour, fresh_quarter, opened_real_time, interval_after, pass_refusal, pass_after}
use Rattle.rules_pass.specs.Calls.{Request, interval, pass, after, accepted_intervals, accepted_passes, Progress, none_yet, returned, number_at, progress_from, answers_from, answers, returned_by, restarted_by, Answered}
use Rattle.rules_pass.proofs.PassLaws.{restarted, passes_counted}
use Rattle.rules_pass.proofs.Exactly.{turn_first}
use Rattle.rules_pass.proofs.ProgressLaws.{interval_kept, pass_kept, pass_count, progress_intervals, Agrees, same_number, call_agrees, opened_agrees}

module _ (o : Opening) (opened : opening_refusal o ≡ 0) where
  -- the number of a pass
  pub pass_here : (h : RealTimeHour) → Kept o h.hour → (v : Interval) → First (pass_refusal h v) (pass_demands h.hour.standing.accepted h.quarter.passes o.resources v)
  pass_here h k v =
      let n = resources_kept o h.hour k in
      subst (λ (x : ℕ). First (pass_refusal h v) (pass_demands h.hour.standing.accepted h.quarter.passes x v)) n
      (turn_first h.hour.market h.hour.standing.accepted h.quarter v (le_trans (le_of_eq n) (few o opened).2))

  -- how many are accepted after an interval
  interval_count : (h : RealTimeHour) (v : Interval) → (interval_after h v).hour.standing.accepted ≡ counted_by (hour_refusal h.hour v) h.hour.standing.accepted
  unfolding interval_after
  interval_count h v = count_after h.hour v

  answered_from : (calls : List Request) (h : RealTimeHour) → Kept o h.hour → Answered o.resources h.hour.standing.accepted h.quarter.passes calls (answers_from h calls)
  unfolding answers_from
  answered_from [] h k = refl
  answered_from (interval v ∷ calls) h k =
      let f = first_here o opened h.hour k v in
      let g = interval_after h v in (
        accepted_exactly (call_demands h.hour.standing.accepted o.resources v) (hour_refusal h.hour v) f,
        f,
        subst (λ (a : ℕ). Answered o.resources a (restarted_by (hour_refusal h.hour v) h.quarter.passes) calls (answers_from g calls)) (interval_count h v)
            (subst (λ (p : ℕ). Answered o.resources g.hour.standing.accepted p calls (answers_from g calls)) (restarted h v) (answered_from calls g (interval_kept h v k))),
      )
  answered_from (pass v ∷ calls) h k =
      let f = pass_here h k v in
      let g = pass_after h v in (
        accepted_exactly (pass_demands h.hour.standing.accepted h.quarter.passes o.resources v) (pass_refusal h v) f,
        f,
        subst (λ (a : ℕ). Answered o.resources a (counted_by (pass_refusal h v) h.quarter.passes) calls (answers_from g calls)) (pass_count h v)
            (subst (λ (p : ℕ). Answered o.resources g.hour.standing.accepted p calls (answers_from g calls)) (passes_counted h v) (answered_from calls g (pass_kept h v k))),
      )

  accepting_from : (calls : List Request) (h : RealTimeHour) (p : Progress) → Agrees o h p → progress_from o.resources p calls ≡ returned_by p calls (answers_from h calls)
  unfolding progress_from answers_from
  accepting_from [] h p a = refl
  accepting_from (c ∷ calls) h p a =
      accepting_from calls (after h c) (returned (number_at o.resources p c) p c) (call_agrees o opened h p a c)
      ∙ ap (λ (x : ℕ). returned_by (returned x p c) calls (answers_from (after h c) calls)) (sym (same_number o opened h p a c))

  -- ---- from the hour that opening returned
  module _ (calls : List Request) where
    -- each number is 0 exactly when none of its refusals applies, and else the first of them that does
    pub answers_exactly : Answered o.resources 0 0 calls (answers o calls)
    unfolding opened_real_time fresh_quarter fresh_hour fresh_standing
    answers_exactly =
        subst (λ (a : ℕ). Answered o.resources a 0 calls (answers o calls)) (ap (λ (h : Hour). h.standing.accepted) (opened_hour_lem o opened))
        (answered_from calls (opened_real_time o) (opened_agrees o opened).kept)

    -- the accepted calls are those that return 0
    accepted_return_zero : progress_from o.resources none_yet calls ≡ returned_by none_yet calls (answers o calls)
    accepted_return_zero = accepting_from calls (opened_real_time o) none_yet (opened_agrees o opened)

    pub intervals_return_zero : accepted_intervals o calls ≡ (returned_by none_yet calls (answers o calls)).intervals
    intervals_return_zero = sym (progress_intervals o calls) ∙ ap (λ (p : Progress). p.intervals) accepted_return_zero

    pub passes_return_zero : accepted_passes o calls ≡ (returned_by none_yet calls (answers o calls)).passes
    passes_return_zero = ap (λ (p : Progress). p.passes) accepted_return_zero
