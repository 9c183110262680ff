-- What the code's answers stand for, and what taking an interval's part does.
use Rattle.std.specs.Prelude.{ℕ, zero, suc, ◌+◌, ◌-◌, ◌*◌, ◌<◌, Bool, cond, List, [], ◌≡◌, leb, ℤ, length, drop, take, Result, Ok, Err}
use Rattle.std.proofs.lemmas.List.Edits.{sets}
use Rattle.rules_interval.specs.Intervals.{lmp_at, dispatch_at, available_at, floor_at}
use Rattle.rules_interval.specs.declared.Interval.{Interval}
use Rattle.interval.specs.Over.{interval_over}
use Rattle.rules_hour.specs.Hours.{call_refusal}
use Rattle.rules_text.specs.Numbers.{Line, lines}
use Rattle.rules_text.specs.Tables.{Reading, faulty, found}
use Rattle.rules_text.specs.Offsets.{bytes_of}
use Rattle.rules_state.specs.Layout.{rows_from}
use Rattle.rules_state.specs.States.{standing_in, market_in}
use Rattle.rules_state.specs.Takes.{if_accepted, standing_written}
use Rattle.rules_state.specs.Verdicts.{judged_cells}
use Rattle.interval_part.specs.declared.Value.{Value}
use Rattle.interval_part.specs.declared.Part.{Part}
use Rattle.interval_part.specs.declared.PartTaken.{PartTaken}

-- the value that is found, up to its line, with the next line at an offset of the text; or the faulty line
abbrev pub shown_value : List ℕ → Result Value ℕ → Reading ℤ
shown_value s (Ok v) = found v.value v.line (lines (drop v.next s))
shown_value s (Err line) = faulty line

-- ---- a part whose tables are put into cells
-- the interval w of j cells of outputs and k of factors is v, as far as there are cells
pub record Seen (j k : ℕ) (w v : Interval) : Type 0 where
  pub constraints : w.constraints ≡ v.constraints
  pub shadow : w.shadow ≡ v.shadow
  pub resources : w.resources ≡ v.resources
  pub lmp : (r : ℕ) → r < 64 → 4 * r < j → lmp_at w r ≡ lmp_at v r
  pub dispatch : (r : ℕ) → r < 64 → 4 * r + 1 < j → dispatch_at w r ≡ dispatch_at v r
  pub available : (r : ℕ) → r < 64 → 4 * r + 2 < j → available_at w r ≡ available_at v r
  pub floor : (r : ℕ) → r < 64 → 4 * r + 3 < j → floor_at w r ≡ floor_at v r
  pub factors : w.factors ≡ take k v.factors
  pub parameter : w.parameter ≡ v.parameter

-- what is to be read is found, and w is so much of it
pub record Whole (j k : ℕ) (due : Reading Interval) (w : Interval) (line : ℕ) (rest : List Line) : Type 0 where
  pub v : Interval
  pub is : due ≡ found v line rest
  pub same : Seen j k w v

-- a part with its tables in cells, and what is to be read: so much of it, or its faulty line
abbrev pub PartRead : (j k : ℕ) → List ℕ → Result Part ℕ → List ℤ → List ℤ → List ℤ → Reading Interval → Type 0
PartRead j k s (Ok p) shadow outputs factors due = Whole j k due (interval_over p.constraints shadow p.resources outputs factors p.parameter) p.line (lines (drop p.next s))
PartRead j k s (Err line) shadow outputs factors due = due ≡ faulty line

-- ---- a part that is read, taken in the hour of the cells `state`
-- the number that refuses an interval, 0 where it is accepted
abbrev pub refusal_in : List ℤ → Interval → ℕ
refusal_in state v = call_refusal (market_in state) (standing_in state) v

abbrev pub answered : ℕ → ℕ → ℕ → ℕ → PartTaken
answered zero line next constraints = record { number = 0; line = line; next = next; constraints = constraints }
answered (suc number) line next constraints = record { number = suc number; line = line; next = 0; constraints = 0 }

-- the answer, of lines at offset `at` before which n others stand
abbrev pub taken_whole : List ℤ → ℕ → ℕ → List Line → Reading Interval → PartTaken
taken_whole state at n ls (faulty line) = record { number = 17; line = line; next = 0; constraints = 0 }
taken_whole state at n ls (found v last rest) = answered (refusal_in state v) last (at + bytes_of (last - n) ls) v.constraints

-- the cells after it
abbrev pub state_whole : List ℤ → Reading Interval → List ℤ
state_whole state (faulty line) = state
state_whole state (found v last rest) = if_accepted (refusal_in state v) (standing_written state v) state

-- and those of the verdicts
abbrev pub verdicts_whole : List ℤ → List ℤ → Reading Interval → List ℤ
verdicts_whole state verdicts (faulty line) = verdicts
verdicts_whole state verdicts (found v last rest) = if_accepted (refusal_in state v) (sets verdicts 0 (judged_cells (market_in state) v)) verdicts

-- the lines after a part that is accepted
abbrev pub left_whole : List ℤ → Reading Interval → List Line
left_whole state (faulty line) = []
left_whole state (found v last rest) = if_accepted (refusal_in state v) rest []

-- ---- the same of cells of any number: fewer than an hour has before its rows are too few, answered by 255, and nothing is read or taken
abbrev pub has_hour : List ℤ → Bool
has_hour state = leb rows_from (length state)

abbrev pub too_few_cells : PartTaken
too_few_cells = record { number = 255; line = 0; next = 0; constraints = 0 }

abbrev pub taken_by : List ℤ → ℕ → ℕ → List Line → Reading Interval → PartTaken
taken_by state at n ls due = cond (has_hour state) (taken_whole state at n ls due) too_few_cells

abbrev pub state_by : List ℤ → Reading Interval → List ℤ
state_by state due = cond (has_hour state) (state_whole state due) state

abbrev pub verdicts_by : List ℤ → List ℤ → Reading Interval → List ℤ
verdicts_by state verdicts due = cond (has_hour state) (verdicts_whole state verdicts due) verdicts

abbrev pub left_by : List ℤ → Reading Interval → List Line
left_by state due = cond (has_hour state) (left_whole state due) []
