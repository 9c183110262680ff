-- Five-minute passes (paper 02, 2.1). "Up to three five-minute passes follow an accepted interval. The first starts from that interval's curves, each later one
-- from the pass before. Passes never alter the hour's curves". A pass carries what an interval carries.
use Rattle.std.specs.Prelude.{◌&&◌, List, ℕ, zero, suc, ◌+◌, ltb, get_or, replicate}
use Rattle.rules_curve.specs.Refusals.{unless, ◌then◌}
use Rattle.rules_mitigation.specs.declared.Mitigated.{Mitigated}
use Rattle.rules_interval.specs.Intervals.{interval_refusal}
use Rattle.rules_interval.specs.declared.Interval.{Interval}
use Rattle.rules_path.specs.Judgements.{verdicts_of, verdicts_unless}
use Rattle.rules_path.specs.declared.Market.{Market}
use Rattle.rules_path.specs.declared.Verdict.{Verdict}
use Rattle.rules_opening.specs.declared.Opening.{Opening}
use Rattle.rules_hour.specs.Hours.{Hour, uncut, blank_hour, row_at, floor_in, row_curve, cut_floor, cut_floors, hour_refusal, hour_after}
use Rattle.rules_hour.specs.Opened.{opened_hour}
use Rattle.rules_hour.specs.declared.Floor.{Floor}
use Rattle.rules_pass.specs.declared.Quarter.{Quarter}

-- ---- the quarter hour since the last accepted interval
-- one without a pass
unfoldable pub fresh_quarter : Quarter
fresh_quarter = record { passes = 0; floors = replicate 64 uncut }

-- 19: no interval is accepted yet, or three passes are since the last; then 13 to 16. 12 is no number of a pass.
unfoldable pub turn_refusal : Market → ℕ → Quarter → Interval → ℕ
turn_refusal m accepted k v = unless (ltb 0 accepted && ltb k.passes 3) 19 then interval_refusal m.resources v

-- the quarter hour after a pass that it accepts: each floor price is cut once more
unfoldable pub next_quarter : Market → Quarter → Interval → Quarter
next_quarter m k v = record { passes = k.passes + 1; floors = cut_floors m v k.floors }

-- a refusal leaves it as it was
abbrev pub quarter_unless : ℕ → Quarter → Quarter → Quarter
quarter_unless zero next k = next
quarter_unless (suc n) next k = k

unfoldable pub quarter_after : Market → ℕ → Quarter → Interval → Quarter
quarter_after m accepted k v = quarter_unless (turn_refusal m accepted k v) (next_quarter m k v) k

-- the verdicts that a pass carries: none in a refusal
unfoldable pub turn_verdicts : Market → ℕ → Quarter → Interval → List Verdict
turn_verdicts m accepted k v = verdicts_unless (turn_refusal m accepted k v) (verdicts_of m v)

-- an interval with this number begins a quarter hour where it is accepted, and leaves the one that runs where it is refused
abbrev pub begun_by : ℕ → Quarter → Quarter
begun_by zero k = fresh_quarter
begun_by (suc n) k = k

-- ---- the hour in real time: the hour as its intervals leave it, and the quarter hour that runs
pub record RealTimeHour : Type 0 where
  pub hour : Hour
  pub quarter : Quarter

unfoldable pub blank_real_time : RealTimeHour
blank_real_time = record { hour = blank_hour; quarter = fresh_quarter }

unfoldable pub opened_real_time : Opening → RealTimeHour
opened_real_time o = record { hour = opened_hour o; quarter = fresh_quarter }

unfoldable pub interval_after : RealTimeHour → Interval → RealTimeHour
interval_after h v = record { hour = hour_after h.hour v; quarter = begun_by (hour_refusal h.hour v) h.quarter }

abbrev pub pass_refusal : RealTimeHour → Interval → ℕ
pass_refusal h v = turn_refusal h.hour.market h.hour.standing.accepted h.quarter v

-- "Passes never alter the hour's curves"
unfoldable pub pass_after : RealTimeHour → Interval → RealTimeHour
pass_after h v = record { hour = h.hour; quarter = quarter_after h.hour.market h.hour.standing.accepted h.quarter v }

abbrev pub pass_verdicts : RealTimeHour → Interval → List Verdict
pass_verdicts h v = turn_verdicts h.hour.market h.hour.standing.accepted h.quarter v

-- ---- the five-minute curve of resource r: the hour's, cut by the passes of the quarter hour that runs
abbrev pub pass_floor_in : RealTimeHour → ℕ → Floor
pass_floor_in h r = get_or h.quarter.floors r uncut

unfoldable pub five_minute_in : RealTimeHour → ℕ → Mitigated
five_minute_in h r = row_curve (row_at h.hour r) (cut_floor (pass_floor_in h r).price (floor_in h.hour r))
