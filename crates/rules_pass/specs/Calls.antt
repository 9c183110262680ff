-- Lists of calls of both kinds on an hour (paper 02, 2.1), and what they accept, from the opening data and the calls alone.
use Rattle.std.specs.Prelude.{◌&&◌, List, [], ◌∷◌, ◌++◌, ◌↔◌, ◌≡◌, ℕ, zero, suc, ltb, length}
use Rattle.rules_curve.specs.Demands.{First, Met}
use Rattle.rules_curve.specs.Refusals.{unless, ◌then◌}
use Rattle.rules_interval.specs.Intervals.{interval_refusal}
use Rattle.rules_interval.specs.declared.Interval.{Interval}
use Rattle.rules_opening.specs.declared.Opening.{Opening}
use Rattle.rules_hour.specs.Conditions.{call_demands}
use Rattle.rules_hour.specs.Hours.{hour_refusal}
use Rattle.rules_hour.specs.Demand3.{accepted_calls, counted_by}
use Rattle.rules_pass.specs.Conditions.{pass_demands}
use Rattle.rules_pass.specs.Passes.{RealTimeHour, opened_real_time, interval_after, pass_refusal, pass_after}

-- a call on an hour
pub data Request : Type 0 where
  interval : Interval → Request
  pass : Interval → Request

-- its number, and the hour after it
abbrev pub request_refusal : RealTimeHour → Request → ℕ
request_refusal h (interval v) = hour_refusal h.hour v
request_refusal h (pass v) = pass_refusal h v

abbrev pub after : RealTimeHour → Request → RealTimeHour
after h (interval v) = interval_after h v
after h (pass v) = pass_after h v

-- the hour as a list of calls leaves it: each gets the hour as the one before it left it
unfoldable pub after_all : RealTimeHour → List Request → RealTimeHour
after_all h [] = h
after_all h (c ∷ calls) = after_all (after h c) calls

-- from the hour that opening returned
abbrev pub hour_of : Opening → List Request → RealTimeHour
hour_of o calls = after_all (opened_real_time o) calls

-- ---- which calls are accepted
-- the interval calls of a list
abbrev pub with_interval : Request → List Interval → List Interval
with_interval (interval v) l = v ∷ l
with_interval (pass v) l = l

unfoldable pub intervals_in : List Request → List Interval
intervals_in [] = []
intervals_in (c ∷ calls) = with_interval c (intervals_in calls)

-- the accepted intervals of a list are those of its interval calls alone, wherever passes stand
abbrev pub accepted_intervals : Opening → List Request → List Interval
accepted_intervals o calls = accepted_calls o (intervals_in calls)

-- what a list has accepted: intervals, and passes since the last of them
pub record Progress : Type 0 where
  pub intervals : List Interval
  pub passes : List Interval

abbrev pub none_yet : Progress
none_yet = record { intervals = []; passes = [] }

-- after a call that returns this number: an accepted interval begins a quarter hour, and an accepted pass joins it
abbrev pub returned : ℕ → Progress → Request → Progress
returned zero p (interval v) = record { intervals = p.intervals ++ (v ∷ []); passes = [] }
returned zero p (pass v) = record { intervals = p.intervals; passes = p.passes ++ (v ∷ []) }
returned (suc n) p c = p

-- the number of a call on an hour of n resources that has come so far
abbrev pub number_at : ℕ → Progress → Request → ℕ
number_at n p (interval v) = unless (ltb (length p.intervals) 4) 12 then interval_refusal n v
number_at n p (pass v) = unless (ltb 0 (length p.intervals) && ltb (length p.passes) 3) 19 then interval_refusal n v

unfoldable pub progress_from : ℕ → Progress → List Request → Progress
progress_from n p [] = p
progress_from n p (c ∷ calls) = progress_from n (returned (number_at n p c) p c) calls

-- the accepted passes since the last accepted interval
abbrev pub accepted_passes : Opening → List Request → List Interval
accepted_passes o calls = (progress_from o.resources none_yet calls).passes

-- ---- the numbers that the calls return
unfoldable pub answers_from : RealTimeHour → List Request → List ℕ
answers_from h [] = []
answers_from h (c ∷ calls) = request_refusal h c ∷ answers_from (after h c) calls

abbrev pub answers : Opening → List Request → List ℕ
answers o calls = answers_from (opened_real_time o) calls

-- what calls with these numbers have accepted
abbrev pub returned_by : Progress → List Request → List ℕ → Progress
returned_by p [] l = p
returned_by p (c ∷ calls) [] = p
returned_by p (c ∷ calls) (x ∷ l) = returned_by (returned x p c) calls l

-- how many passes since the last accepted interval, after an interval that returns this number
abbrev pub restarted_by : ℕ → ℕ → ℕ
restarted_by zero passes = 0
restarted_by (suc x) passes = passes

-- the numbers of these calls on an hour of n resources that has accepted a intervals, and p passes since the last: an interval's is 0 exactly when none of 12 to
-- 16 applies, a pass's exactly when none of 19 and 13 to 16 does, and else it is the first that applies
abbrev pub Answered : ℕ → ℕ → ℕ → List Request → List ℕ → Type 0
Answered n a p [] l = l ≡ []
Answered n a p (c ∷ calls) [] = ⊥
Answered n a p (interval v ∷ calls) (x ∷ l) =
    ((x ≡ 0) ↔ Met (call_demands a n v)) × First x (call_demands a n v) × Answered n (counted_by x a) (restarted_by x p) calls l
Answered n a p (pass v ∷ calls) (x ∷ l) = ((x ≡ 0) ↔ Met (pass_demands a p n v)) × First x (pass_demands a p n v) × Answered n a (counted_by x p) calls l
