-- Lists of calls in numbers, each on the state as the one before left it.
use Rattle.std.specs.Prelude.{cond, List, [], ◌∷◌, ℕ, ℤ}
use Rattle.rules_interval.specs.declared.Interval.{Interval}
use Rattle.rules_pass.specs.Calls.{Request}
use Rattle.rules_pass.specs.Calls as requests
use Rattle.rules_state.specs.Layout.{verdict_room}
use Rattle.rules_state.specs.Intervals.{interval_in}
use Rattle.rules_state.specs.Calls.{holds, interval_answer, state_after_interval, pass_answer, state_after_pass}

-- what an interval or a pass is called with: its numbers, and the slice lent for its verdicts
pub record Numbers : Type 0 where
  pub constraints : ℕ
  pub shadow : List ℤ
  pub resources : ℕ
  pub outputs : List ℤ
  pub factors : List ℤ
  pub parameter : ℤ
  pub verdicts : List ℤ

pub data NumberCall : Type 0 where
  interval : Numbers → NumberCall
  pass : Numbers → NumberCall

abbrev pub interval_by : Numbers → Interval
interval_by x = interval_in x.constraints x.shadow x.resources x.outputs x.factors x.parameter

-- the answer of a call, and the state after it
abbrev pub answer_to : List ℤ → NumberCall → ℤ
answer_to state (interval x) = interval_answer state x.verdicts (interval_by x)
answer_to state (pass x) = pass_answer state x.verdicts (interval_by x)

abbrev pub state_after : List ℤ → NumberCall → List ℤ
state_after state (interval x) = state_after_interval state x.verdicts (interval_by x)
state_after state (pass x) = state_after_pass state x.verdicts (interval_by x)

unfoldable pub state_after_calls : List ℤ → List NumberCall → List ℤ
state_after_calls state [] = state
state_after_calls state (c ∷ calls) = state_after_calls (state_after state c) calls

-- the requests that they are: a call whose slice for the verdicts is too short is answered with -1, and is none
abbrev pub verdicts_of : NumberCall → List ℤ
verdicts_of (interval x) = x.verdicts
verdicts_of (pass x) = x.verdicts

abbrev pub request_of : NumberCall → Request
request_of (interval x) = requests.interval (interval_by x)
request_of (pass x) = requests.pass (interval_by x)

unfoldable pub requests_in : List NumberCall → List Request
requests_in [] = []
requests_in (c ∷ calls) =
    let later = requests_in calls in
    cond (holds verdict_room (verdicts_of c)) (request_of c ∷ later) later
