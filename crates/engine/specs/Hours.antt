-- The hour that the code's struct stands for: that of its cells.
use Rattle.rules_hour.specs.Hours as rules
use Rattle.rules_pass.specs.Passes.{RealTimeHour}
use Rattle.rules_state.specs.States.{hour_in}
use Rattle.std.specs.Prelude.{replicate, pos}
use Rattle.rules_path.specs.Verdicts.{not_binding}
use Rattle.rules_state.specs.Layout.{state_room}
use Rattle.engine.specs.declared.Answer.{Answer}
use Rattle.engine.specs.declared.Hour.{Hour}

-- with the quarter hour that runs
abbrev pub as_real_time : Hour → RealTimeHour
as_real_time h = hour_in h.cells

abbrev pub as_hour : Hour → rules.Hour
as_hour h = (as_real_time h).hour

-- ---- what a refusal leaves a caller: a blank hour of an opening, and of an interval or a pass the hour that it was, without verdicts
abbrev pub blank_hour : Hour
blank_hour = record { cells = replicate state_room (pos 0) }

abbrev pub unchanged : Hour → Answer
unchanged h = record { hour = h; verdicts = replicate 32 not_binding }
