-- What a part of a text did to the cells of an hour.
use Rattle.std.specs.Prelude.{ℕ, ◌+◌, ◌*◌, ◌≤◌, ◌<◌, ◌≡◌, List, drop, replicate, length, ℤ, pos}
use Rattle.std.proofs.lemmas.List.Edits.{sets}
use Rattle.rules_interval.specs.declared.Interval.{Interval}
use Rattle.rules_opening.specs.declared.Opening.{Opening}
use Rattle.rules_opening.specs.Openings.{opening_refusal}
use Rattle.rules_hour.specs.Hours.{call_refusal}
use Rattle.rules_text.specs.Numbers.{Line, lines}
use Rattle.rules_text.specs.Tables.{faulty, found}
use Rattle.rules_parts.specs.Parts.{read_interval, read_opening}
use Rattle.rules_run.specs.Run.{parts_text, ended_by, parts_end}
use Rattle.rules_state.specs.Layout.{rows_from, room_of_row}
use Rattle.rules_state.specs.States.{standing_in, market_in}
use Rattle.rules_state.specs.Takes.{standing_written, opened_cells}
use Rattle.rules_state.specs.Verdicts.{judged_cells}
use Rattle.run.specs.Kept.{Rooms}

-- an interval's part: a faulty line, a refusal, or the hour after it and its verdicts
pub data Took (s : List ℕ) (at line : ℕ) (state after verdicts left : List ℤ) (number last next constraints : ℕ) : Type 0 where
  faulted : read_interval line (lines (drop at s)) ≡ faulty last → number ≡ 17 → Took s at line state after verdicts left number last next constraints
  declined : (v : Interval) (rest : List Line) → read_interval line (lines (drop at s)) ≡ found v last rest → call_refusal (market_in state) (standing_in state) v ≡ number → 0 < number
      → Took s at line state after verdicts left number last next constraints
  taken : (v : Interval) → read_interval line (lines (drop at s)) ≡ found v last (lines (drop next s)) → number ≡ 0 → call_refusal (market_in state) (standing_in state) v ≡ 0
      → constraints ≡ v.constraints → after ≡ standing_written state v → left ≡ sets verdicts 0 (judged_cells (market_in state) v)
      → Took s at line state after verdicts left number last next constraints

-- the part that opens an hour
pub data OpenedBy (s : List ℕ) (state after : List ℤ) (number last next resources : ℕ) : Type 0 where
  misread : read_opening 0 (lines s) ≡ faulty last → number ≡ 17 → resources ≡ 0 → OpenedBy s state after number last next resources
  unopened : (o : Opening) (rest : List Line) → read_opening 0 (lines s) ≡ found o last rest → opening_refusal o ≡ number → 0 < number → resources ≡ 0 → OpenedBy s state after number last next resources
  opened : (o : Opening) → read_opening 0 (lines s) ≡ found o last (lines (drop next s)) → number ≡ 0 → opening_refusal o ≡ 0 → resources ≡ o.resources → after ≡ sets state 0 (opened_cells o)
      → OpenedBy s state after number last next resources

-- the cells of an hour that was opened in zeros, with room for its resources' lines, of which none was put
pub record Ready (s : List ℕ) (state shown : List ℤ) (lines widths : List ℕ) (number last next resources : ℕ) : Type 0 where
  pub room : rows_from + room_of_row * resources ≤ length state
  pub rooms : Rooms resources shown lines widths
  pub none : lines ≡ replicate (length lines) 0
  pub opened : OpenedBy s (replicate (length state) (pos 0)) state number last next resources

-- what the text s prints was put on a page, and ends so
pub record PartsPut (s page put : List ℕ) (at number line : ℕ) : Type 0 where
  pub buffer : put ≡ sets page 0 (parts_text (lines s))
  pub next : at ≡ length (parts_text (lines s))
  pub few : at ≤ 655424
  pub end : ended_by number line ≡ parts_end (lines s)
