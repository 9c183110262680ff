-- `engine::Hour::blank`: cells of zeros.
use Rattle.rules_state.specs.Layout.{state_room}
use Rattle.engine.proofs.HourLaws.{blank}
use Rattle.engine.proofs.Hour.blank.Goals as goal

pub returns-clause-hour : goal.returns-clause-hour
returns-clause-hour c = blank state_room
