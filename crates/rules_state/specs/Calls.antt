-- The calls on a state: what each answers, and the lent slices afterwards.
use Rattle.std.specs.Prelude.{Bool, cond, ◌&&◌, List, ℕ, leb, ltb, ℤ, pos, negsuc, length, Result, Ok, Err}
use Rattle.std.specs.Int.Count.{ones}
use Rattle.std.proofs.lemmas.List.Edits.{sets}
use Rattle.rules_curve.specs.Refusals.{number_of}
use Rattle.rules_interval.specs.Intervals.{interval_refusal}
use Rattle.rules_interval.specs.declared.Interval.{Interval}
use Rattle.rules_opening.specs.Openings.{opening_refusal}
use Rattle.rules_opening.specs.declared.Opening.{Opening}
use Rattle.rules_hour.specs.Hours.{call_refusal, call_verdicts}
use Rattle.rules_pass.specs.Passes.{fresh_quarter, turn_refusal, turn_verdicts, opened_real_time}
use Rattle.rules_library.specs.Slices.{answer_of, if_written}
use Rattle.rules_state.specs.declared.CallError.{CallError}
use Rattle.rules_state.specs.declared.CallError.TheVariants as why
use Rattle.rules_state.specs.Layout.{most_constraints, quarter_from, state_room, verdict_room, cause_room}
use Rattle.rules_state.specs.States.{standing_in, quarter_in, market_in, quarter_cells, state_cells}
use Rattle.rules_state.specs.Takes.{standing_written, quarter_written}
use Rattle.rules_state.specs.Verdicts.{verdicts_cells, verdict_in}
use Rattle.rules_state.specs.Causes.{causes_cells}

-- A call answers -1 where a lent slice is too short, else the number of the refusal, 0 where there is none. A slice is written only where the answer is 0.

-- a slice has room for so many numbers
abbrev pub holds : {A : Type 0} → ℕ → List A → Bool
holds n l = leb n (length l)

-- the same answer where a call has a result for it
abbrev pub called_number : {T : Type 0} → Result T CallError → ℤ
called_number (Ok x) = pos 0
called_number (Err (why.Refused r)) = pos (number_of r)
called_number (Err why.TooShort) = negsuc 0

-- ---- opening
unfoldable pub open_answer : List ℤ → Opening → ℤ
open_answer state o = answer_of (holds state_room state) (opening_refusal o)

unfoldable pub state_opened : List ℤ → Opening → List ℤ
state_opened state o = if_written (open_answer state o) (sets state 0 (state_cells (opened_real_time o))) state

-- ---- an interval: its cuts and the count, and a new quarter hour; market and rows are not touched
unfoldable pub interval_answer : List ℤ → List ℤ → Interval → ℤ
interval_answer state verdicts v = answer_of (holds state_room state && holds verdict_room verdicts) (call_refusal (market_in state) (standing_in state) v)

abbrev pub interval_written : List ℤ → Interval → List ℤ
interval_written state v = sets (standing_written state v) quarter_from (quarter_cells fresh_quarter)

unfoldable pub state_after_interval : List ℤ → List ℤ → Interval → List ℤ
state_after_interval state verdicts v = if_written (interval_answer state verdicts v) (interval_written state v) state

unfoldable pub verdicts_after_interval : List ℤ → List ℤ → Interval → List ℤ
verdicts_after_interval state verdicts v =
    if_written (interval_answer state verdicts v) (sets verdicts 0 (verdicts_cells (call_verdicts (market_in state) (standing_in state) v))) verdicts

-- ---- a pass: its cuts and the count of the quarter hour alone
unfoldable pub pass_answer : List ℤ → List ℤ → Interval → ℤ
pass_answer state verdicts v =
    answer_of (holds state_room state && holds verdict_room verdicts) (turn_refusal (market_in state) (standing_in state).accepted (quarter_in state) v)

abbrev pub pass_written : List ℤ → Interval → List ℤ
pass_written state v = quarter_written state v

unfoldable pub state_after_pass : List ℤ → List ℤ → Interval → List ℤ
state_after_pass state verdicts v = if_written (pass_answer state verdicts v) (pass_written state v) state

unfoldable pub verdicts_after_pass : List ℤ → List ℤ → Interval → List ℤ
verdicts_after_pass state verdicts v =
    if_written (pass_answer state verdicts v)
    (sets verdicts 0 (verdicts_cells (turn_verdicts (market_in state) (standing_in state).accepted (quarter_in state) v))) verdicts

-- ---- why: 13 to 16, and the state is only read
unfoldable pub why_answer : List ℤ → List ℤ → Interval → ℤ
why_answer state causes v = answer_of (holds state_room state && holds cause_room causes) (interval_refusal (market_in state).resources v)

unfoldable pub causes_after : List ℤ → List ℤ → Interval → List ℤ
causes_after state causes v = if_written (why_answer state causes v) (sets causes 0 (causes_cells (market_in state) v)) causes

-- ---- how many sellers the verdict on constraint c names, of verdicts in numbers; past 32 constraints there is no verdict, and nobody is named
unfoldable pub sellers_answer : List ℤ → ℕ → ℤ
sellers_answer verdicts c = answer_of (holds verdict_room verdicts) (cond (ltb c most_constraints) (ones (verdict_in verdicts c).named) 0)
