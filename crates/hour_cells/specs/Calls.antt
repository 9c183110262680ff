-- A call on the hour that cells stand for, by its kind: a pass or an interval.
use Rattle.std.specs.Prelude.{Bool, true, false, List, ℕ, ℤ}
use Rattle.rules_interval.specs.declared.Interval.{Interval}
use Rattle.rules_hour.specs.Hours.{call_refusal}
use Rattle.rules_pass.specs.Passes.{turn_refusal}
use Rattle.rules_state.specs.States.{standing_in, quarter_in, market_in}
use Rattle.rules_library.specs.Slices.{answer_of}
use Rattle.rules_state.specs.Layout.{state_room}
use Rattle.rules_state.specs.Calls.{holds, interval_written, pass_written}

-- 19, or 13 to 16, of a pass; 12 to 16 of an interval
unfoldable pub refusal_by : Bool → List ℤ → Interval → ℕ
refusal_by true l v = turn_refusal (market_in l) (standing_in l).accepted (quarter_in l) v
refusal_by false l v = call_refusal (market_in l) (standing_in l) v

-- the answer: -1 where there are fewer cells than a whole hour has
unfoldable pub answer_in : Bool → List ℤ → Interval → ℤ
answer_in pass l v = answer_of (holds state_room l) (refusal_by pass l v)

-- the cells after an accepted one
unfoldable pub written_by : Bool → List ℤ → Interval → List ℤ
written_by true l v = pass_written l v
written_by false l v = interval_written l v
