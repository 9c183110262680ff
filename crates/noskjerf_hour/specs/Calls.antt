-- A call on a state by its kind, a pass or an interval: what it answers, and the lent slices afterwards.
use Rattle.std.specs.Prelude.{Bool, true, false, List, ℤ}
use Rattle.rules_interval.specs.declared.Interval.{Interval}
use Rattle.rules_state.specs.Intervals.{interval_in}
use Rattle.rules_state.specs.Calls.{interval_answer, state_after_interval, verdicts_after_interval, pass_answer, state_after_pass, verdicts_after_pass}
use Rattle.interval.specs.declared.LentInterval.{LentInterval}

-- the interval of lent slices, each read as an array
abbrev pub lent_in : LentInterval → Interval
lent_in v = interval_in v.constraints v.shadow.now v.resources v.outputs.now v.factors.now v.parameter

abbrev pub answer_by : Bool → List ℤ → List ℤ → Interval → ℤ
answer_by true state verdicts v = pass_answer state verdicts v
answer_by false state verdicts v = interval_answer state verdicts v

abbrev pub state_by : Bool → List ℤ → List ℤ → Interval → List ℤ
state_by true state verdicts v = state_after_pass state verdicts v
state_by false state verdicts v = state_after_interval state verdicts v

abbrev pub verdicts_by : Bool → List ℤ → List ℤ → Interval → List ℤ
verdicts_by true state verdicts v = verdicts_after_pass state verdicts v
verdicts_by false state verdicts v = verdicts_after_interval state verdicts v
